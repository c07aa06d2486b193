pub mod AddLemmas
pub mod CallLemmas
pub mod FlushLemmas
pub mod NumberLemmas
pub mod PieceLemmas
