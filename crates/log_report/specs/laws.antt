-- What holds of the definitions beside, each stated by a call of `lsp_replay` or by a clause.
pub mod JsonLines
pub mod Trace
