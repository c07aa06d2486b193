-- What is read of a document's text.
pub mod UnitLemmas
