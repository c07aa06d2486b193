-- Definitions that only private contracts speak of.
pub mod Progress
pub mod Stage
pub mod Stream
