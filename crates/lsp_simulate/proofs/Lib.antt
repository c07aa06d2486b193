-- Where to begin: all is in `SessionLemmas`. The loop of `simulate` starts by `begun` and goes on by `stepped`, a line
-- for each step. A session ends by `ended`, and after a fault by `out_of_memory`, `stopped`, `unread`, `unwritten` or
-- `end_cut`, or by `refused` before its first step.
pub mod InputLemmas
pub mod LineLemmas
pub mod OptionLemmas
mod Prelude
pub mod ProgramLemmas
pub mod ReadLemmas
pub mod SessionLemmas
mod WordLemmas
