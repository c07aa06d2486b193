-- Definitions that only private contracts speak of.
pub mod Options
