-- Definitions that only private contracts speak of.
pub mod Scripts
pub mod Turns
