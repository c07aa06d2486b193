-- What batches and text edits mean.
pub mod BatchLemmas
pub mod ComposeLemmas
pub mod LawLemmas
pub mod LocatedLemmas
pub mod LocatedRowLemmas
pub mod DraftLemmas
pub mod TextEditLemmas
