pub mod Arguments
pub mod Found
pub mod Output
