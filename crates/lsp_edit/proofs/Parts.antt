-- Parts of an old text and new texts in a row: cut, put and walked over.
pub mod PartLemmas
pub mod CutLemmas
pub mod CutPartsLemmas
pub mod MergedLemmas
pub mod PassedLemmas
pub mod PassingLemmas
pub mod PutLemmas
pub mod MarkLemmas
pub mod ThroughLemmas
pub mod SpansLemmas
pub mod SplitLemmas
pub mod IndexLemmas
