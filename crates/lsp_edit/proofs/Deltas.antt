-- Batches that were resolved once, and the text that they change.
pub mod DeltaLemmas
pub mod PuttingLemmas
pub mod InPlaceLemmas
pub mod WholeLemmas
pub mod LayerLemmas
pub mod OwnedLemmas
