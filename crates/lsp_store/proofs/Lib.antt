-- Where to begin: `Store::change.taken` is a plan that is applied, `plan_is` and `plan_takes` of `Tables/PlanLemmas`.
-- Which refusal comes first is in `Tables/RefusalLemmas`. What the other calls make of the table is in
-- `Tables/StoreLemmas`, over the ordered map's entries (`Tables/TableLemmas`).
-- `canonical_message.exactly` is `exactly_alike` of `Messages/MessageLemmas`. `Squash::add.ok` is `adds` of
-- `SquashLemmas`, and `store_laws` is in `LawLemmas`. `Queries` has what is read of a document's text.
pub mod GreaterLemmas
pub mod LawLemmas
mod Prelude
pub mod WithinLemmas
pub mod SquashLemmas
pub mod Messages
pub mod Tables
pub mod Queries
