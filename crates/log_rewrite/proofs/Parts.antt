-- `replay` of a part of a log.
pub mod KeptLemmas
pub mod PartLemmas
