-- The log of canonical messages that `normalise` writes.
pub mod AppendLemmas
pub mod NormaliseLemmas
pub mod PrintLemmas
