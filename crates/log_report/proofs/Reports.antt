-- Lines that `check`, `trace` and `compare` go by.
pub mod CompareLemmas
pub mod ExplainLemmas
pub mod MemberLemmas
pub mod NoteLemmas
pub mod ReasonLemmas
pub mod SavedLemmas
pub mod TableLemmas
pub mod TraceLawLemmas
pub mod TraceLemmas
