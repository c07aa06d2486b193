-- Definitions that only private contracts speak of.
pub mod Changes
pub mod Counts
pub mod Cuts
pub mod Parts
pub mod Seams
