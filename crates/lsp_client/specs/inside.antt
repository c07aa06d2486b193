-- Definitions that only the private contracts name.
pub mod Orders
