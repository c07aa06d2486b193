-- Where to begin: `IndexedText::change.changed` is `range_means` of `Deltas/InPlaceLemmas` for one change of a range,
-- and for any other batch in `Batches/DraftLemmas`. `canonical.batch` uses `Composing/AppliedLemmas`, what each
-- change makes of the spans, and `canonical_makes` of `Canonical/RebuiltLemmas`. That two canonical batches are equal
-- exactly if they do the same is `equal_exactly` of `Canonical/SameLemmas`; `batch_laws` is in `Batches/LawLemmas`.
-- `batch_of_edits.batch` is `batch_by_indexes` of `Batches/LocatedLemmas`. `Parts` serves all: spans, cut and put.
pub mod Parts
pub mod Composing
pub mod Canonical
pub mod Batches
pub mod Deltas
mod Rests
mod Prelude
