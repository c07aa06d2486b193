-- Laws: what each pair and each step is by the messages that were sent and delivered.
pub mod World
pub mod At
pub mod Usual
pub mod Steps
pub mod Commanded
