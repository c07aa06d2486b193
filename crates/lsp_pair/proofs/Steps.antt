-- A step of a pair.
pub mod StepLemmas
pub mod ServeLemmas
pub mod CalledLemmas
pub mod FramerLemmas
pub mod NewLemmas
pub mod EventLemmas
pub mod RunLemmas
pub mod ReachLemmas
