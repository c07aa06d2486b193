-- Where to begin: a text is a front, a block and a rest (`AreThree` of `specs/inside/Parts`). In `Blocks/PartLemmas`
-- `resolved_three` and `exact_three` say that positions there are those of the block; `resolve.value` and
-- `position.exact` have them by `Queries/FoundLemmas`, for the block that is found. Below is `Blocks/SeamLemmas`: two
-- texts, one after the other; by it `Blocks/CountLemmas` says that counts of texts are added. `replace_range.changed`
-- is `range_is` of `Changes/ChangeLemmas`, after `put_text` inside a block, or `cut_text` where blocks are cut again.
pub mod Blocks
mod Prelude
pub mod Queries
pub mod Changes
