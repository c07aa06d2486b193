-- The canonical batch: its gaps, and that it does the same.
pub mod CountLemmas
pub mod GapLemmas
pub mod KeepsLemmas
pub mod PairLemmas
pub mod RebuiltLemmas
pub mod SameLemmas
pub mod WalkLemmas
pub mod WeightLemmas
