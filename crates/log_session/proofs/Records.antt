-- What a record asks, and what becomes of it in a session.
pub mod AskedLemmas
pub mod BodyLemmas
pub mod ChangeLemmas
pub mod JudgeLemmas
pub mod NumberedLemmas
pub mod OpeningLemmas
pub mod OutputLemmas
pub mod PutLemmas
pub mod StateLemmas
pub mod TakenLemmas
