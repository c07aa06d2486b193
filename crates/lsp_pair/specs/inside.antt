-- Definitions that only private contracts speak of, and what no caller needs to open.
pub mod Ends
pub mod History
