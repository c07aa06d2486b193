-- The world after some events, and what each end makes of the first message that waits.
pub mod WorldLemmas
pub mod ArriveLemmas
pub mod ReturnLemmas
pub mod CallLemmas
pub mod LifeLemmas
pub mod SaidLemmas
pub mod ListLemmas
pub mod Shapes
