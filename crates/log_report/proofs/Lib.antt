-- Where to begin: `log_laws.traced` is in `Reports/TraceLawLemmas`, `json_laws` in `JsonLines/JsonLawLemmas`.
mod Prelude
pub mod JsonLines
pub mod KnownLemmas
pub mod Reports
