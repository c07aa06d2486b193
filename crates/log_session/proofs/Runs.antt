-- A run from a reader to a writer, and what its contract says of all records.
pub mod AnswerLemmas
pub mod CallLemmas
pub mod LineLemmas
pub mod PipedLemmas
pub mod ProgressLemmas
pub mod QuietLemmas
pub mod ReplayLemmas
pub mod RunLemmas
pub mod RunReportLemmas
