-- Definitions that only private contracts speak of.
pub mod Bodies
pub mod Engine
pub mod Kept
pub mod Piped
pub mod Printer
pub mod Reads
pub mod RunOutput
pub mod Taken
pub mod Verdicts
