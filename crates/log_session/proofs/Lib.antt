-- Where to begin: `run` of each command is `run_of` of `Runs/RunReportLemmas`, from a run of the loop (`Runs/RunLemmas`
-- between reads, `Runs/ProgressLemmas` record by record) to all whole records. What becomes of a record is in
-- `Records`, and what holds of the output of every command in `CourseLemmas`.
mod Prelude
pub mod Changes
pub mod CourseLemmas
pub mod Json
pub mod Records
pub mod Runs
