-- Units of characters, counted by bytes.
pub mod UnitLemmas
pub mod LeadLemmas
pub mod BlockLemmas
pub mod TotalLemmas
