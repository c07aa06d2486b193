-- What holds of the definitions beside, each stated by a call of src/laws.rt or by a clause.
pub mod Batches
pub mod Examples
