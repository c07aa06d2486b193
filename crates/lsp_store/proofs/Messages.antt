-- The canonical message of a batch.
pub mod FrameLemmas
pub mod MessageLemmas
pub mod PlannedLemmas
pub mod ProperLemmas
pub mod ScalarLemmas
pub mod WholeLemmas
