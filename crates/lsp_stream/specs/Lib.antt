pub mod Ports
pub mod Turns
pub mod Scripts
pub mod Faults
pub mod inside
