-- The pieces of a text that changes leave, change by change.
pub mod AppliedLemmas
pub mod EditedLemmas
pub mod EndLemmas
pub mod RoomLemmas
pub mod ThenLemmas
