-- The documents of both ends, and the history of a pair.
pub mod DocumentLemmas
pub mod HistoryLemmas
