-- Changes of a text in blocks.
pub mod ChangeLemmas
pub mod InPlaceLemmas
