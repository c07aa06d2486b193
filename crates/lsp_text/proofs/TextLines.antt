-- The lines of a text, and where they start among its bytes.
pub mod RowLemmas
pub mod LineLemmas
pub mod EndLemmas
pub mod StartLemmas
pub mod StartRowLemmas
pub mod IndexesLemmas
pub mod PartLemmas
pub mod ContentLemmas
pub mod SpliceLemmas
pub mod ShiftLemmas
pub mod SearchLemmas
