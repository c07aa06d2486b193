-- Where to begin: `Pair::step.history` is `history_if` of `Histories/HistoryLemmas`, over `documents_at` of
-- `Histories/DocumentLemmas`. Below, `Steps/StepLemmas` has a step of a pair at a world (`steps_at`), and
-- `Worlds/WorldLemmas` what holds of each world, by the `Shapes` of a session, by what arrives at each end
-- (`ArriveLemmas`, `ReturnLemmas`) and by the calls (`CallLemmas`). At the bottom is `Worlds/SaidLemmas`: a server
-- accepts a command that was sent, also where its canonical batch or the whole text is sent instead.
pub mod LawLemmas
mod Prelude
pub mod Worlds
pub mod Steps
pub mod Histories
