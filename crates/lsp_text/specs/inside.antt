-- Definitions that only private contracts speak of.
pub mod Leads
pub mod Splice
