-- The log of both directions that `convert` writes.
pub mod ConvertLemmas
pub mod ConvertLogLemmas
