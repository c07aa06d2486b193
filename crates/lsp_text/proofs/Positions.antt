-- Positions, indexes and byte offsets.
pub mod PlaceLemmas
pub mod BoundaryLemmas
pub mod InLineLemmas
pub mod PositionLemmas
pub mod NearLemmas
pub mod PastLemmas
pub mod ExactLemmas
pub mod ResolveLemmas
