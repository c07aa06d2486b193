-- Where to begin: `Lines::resolve.value` is `resolved_at` of `Positions/ResolveLemmas`, or `resolved_past` there for a
-- position past the last line. `Lines::position.exact` is `exact_is` of `Positions/ExactLemmas`. Both use
-- `TextLines/IndexesLemmas`, the line starts that an index of a text has, and `Counting`: units of characters are
-- counted by bytes, a block at a time. `Lines::splice.ok` is `indexes_ok` of `TextLines/SpliceLemmas`, over
-- `starts_are_same` there. The laws are in `LawLemmas` and `Positions/PositionLemmas`.
pub mod Examples
pub mod LawLemmas
mod Prelude
pub mod TextLines
pub mod Positions
pub mod Counting
