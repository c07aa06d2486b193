-- What holds of the definitions beside, each stated by a call of src/laws.rt or by a clause.
pub mod Units
pub mod Leads
pub mod Lines
pub mod Places
pub mod Encodings
pub mod Positions
pub mod Examples
