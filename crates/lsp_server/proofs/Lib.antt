-- Where to begin: but for documents, `handle.answer` and `handle.state` need no lemma. The check goes by the table of
-- steps itself. `obeyed_step` and `obeyed_row` of `Commands` say that a call of the store is its command's row there. A
-- change has two halves, which `accepted_step` and `answered_step` of `Changes` put together.
-- `handle.refused` is `refused_stays` of `RefusalLemmas`. `step_laws` is in `LawLemmas`: what holds of each row.
-- `EditLemmas` is for the crates above.
mod Commands
mod Changes
pub mod LawLemmas
mod Prelude
mod RefusalLemmas
pub mod EditLemmas
