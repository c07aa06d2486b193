-- Where to begin: `open.ok`, `edit.ok` and `close.ok` are `order_sent` of `SentLemmas`. Once the store has taken the
-- command, the frame and the client are those of the table of steps. `canonical_framed` has the canonical message
-- there, `whole_sent` and `planned_whole` the whole text that a batch leaves.
-- Their `error` is `order_fault` there, and `OrderLemmas` says which refusal comes first. The calls of the lifecycle
-- and `deliver` need no lemma: the check goes by the table itself.
pub mod OrderLemmas
mod Prelude
pub mod SentLemmas
