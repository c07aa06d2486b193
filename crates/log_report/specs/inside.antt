-- Definitions that only private contracts speak of.
pub mod Facts
pub mod Habits
pub mod Lacks
pub mod Mentions
pub mod Tallies
pub mod Terms
