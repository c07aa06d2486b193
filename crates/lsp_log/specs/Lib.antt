pub mod Log
pub mod Opening
pub mod Splitting
pub mod laws
