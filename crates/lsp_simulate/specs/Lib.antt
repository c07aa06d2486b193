pub mod Prelude
pub mod CommandLine
pub mod Run
pub mod Session
pub mod Setting
pub mod Words
pub mod inside
