-- Definitions that only private contracts speak of.
pub mod Batch
pub mod Before
pub mod Gaps
pub mod Drafts
pub mod TextEdits
pub mod Faults
pub mod Parts
pub mod Splits
pub mod Layers
