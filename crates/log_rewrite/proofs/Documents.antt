-- The log of the records that stay.
pub mod DocumentsLawLemmas
pub mod KeptLogLemmas
pub mod LeftOutLemmas
