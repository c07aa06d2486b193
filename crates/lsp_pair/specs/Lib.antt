pub mod Prelude
pub mod Codes
pub mod Events
pub mod Pair
pub mod Seen
pub mod Documents
pub mod laws
pub mod inside
