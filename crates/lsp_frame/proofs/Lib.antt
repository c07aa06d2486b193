-- Where to begin: `Framer::feed` is a step of its stage. Its clauses `part`, `one` and `error` are `stage_part`,
-- `part_one` and `feed_stop` of `FaultLemmas`. A header that comes in is in `ProgressLemmas`, and that it has one
-- reading in `HeaderLemmas`; what it says is judged in `FrameLemmas`. `read_frames.read` begins at `new_behind` of
-- `StreamLemmas`, and `read_frames.only` is `same_read` there. `frame.is_frame_of` is `ok_is_frame` of `WrittenLemmas`.
-- `frame_laws` is in `LawLemmas`, and in `DecisionLemmas`: the bytes decide whether a frame begins.
pub mod Lists
pub mod HeaderLemmas
pub mod LineLemmas
mod Prelude
pub mod ProgressLemmas
pub mod FrameLemmas
pub mod FaultLemmas
pub mod FramedLemmas
pub mod StreamLemmas
pub mod WordLemmas
pub mod WrittenLemmas
pub mod WrittenHeaderLemmas
pub mod DecisionLemmas
pub mod LawLemmas
