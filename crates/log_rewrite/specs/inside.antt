-- Definitions that only private contracts speak of.
pub mod Joining
pub mod Part
pub mod Squash
