-- Definitions that only private contracts speak of.
pub mod Lines
pub mod Options
pub mod Session
