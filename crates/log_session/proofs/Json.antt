-- What is read of JSON: its tokens within a longer text (`WithinLemmas`, by `StringLemmas` and `WordLemmas`), and its
-- strings and numbers (`ReadLemmas`).
pub mod ReadLemmas
pub mod StringLemmas
pub mod WithinLemmas
pub mod WordLemmas
