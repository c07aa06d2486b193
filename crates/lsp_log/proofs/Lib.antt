-- Where to begin: `is_after` of a splitter's calls is in `SplitLemmas`: `new_stands` at the start, `fed_stands` for
-- bytes, `marked_stands` for a mark, `given_stands` for a record that is released. `feed.error` is `feed_fault` there.
-- `read_opening` is in `OpeningLemmas`. `reading_laws` is `unique_law` of `UniqueLemmas`, `all_records_law` of
-- `AllRecordsLemmas` and `rest_law` of `RestLemmas`; `LogLemmas` has records one after another.
pub mod LogLemmas
mod Prelude
pub mod SplitLemmas
pub mod OpeningLemmas
pub mod UniqueLemmas
pub mod RestLemmas
pub mod AllRecordsLemmas
