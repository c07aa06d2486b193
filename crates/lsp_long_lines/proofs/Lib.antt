pub mod LimitLemmas
pub mod LineEndLemmas
