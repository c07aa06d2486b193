-- What holds of the definitions beside, each stated by a call of src/laws.rt or by a clause.
pub mod Messages
pub mod Sent
pub mod Examples
