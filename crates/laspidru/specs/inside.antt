-- Definitions that only private contracts speak of.
pub mod Clients
pub mod Passed
pub mod Stored
pub mod Subjects
