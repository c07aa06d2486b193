-- What is found and read in a text in blocks.
pub mod ContentsLemmas
pub mod CopyLemmas
pub mod FoundLemmas
pub mod ReadLemmas
