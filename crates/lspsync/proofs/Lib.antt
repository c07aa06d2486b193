-- Where to begin: `parse` is `read_ok` and `read_err` of `ReadLemmas`, for a program that is put together as the
-- definitions say: `program_is` of `ProgramLemmas`, a command more by `one_more`. `OptionLemmas` has the part of a log
-- (`named_part`), `TaskLemmas` a file more. Of `run`, the engines' clauses say it all, for tasks in turn by
-- `DoneLemmas`; lines on standard error are those of `EndLemmas`.
pub mod DoneLemmas
pub mod EndLemmas
pub mod FrontLemmas
pub mod OptionLemmas
mod Prelude
pub mod ProgramLemmas
pub mod ReadLemmas
pub mod TaskLemmas
