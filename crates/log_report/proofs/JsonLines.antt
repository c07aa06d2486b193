-- The lines of `trace` and `replay` are JSON. Each value of a line is read within the line as it is read alone, on one
-- line. `ValueLemmas` puts values into members and members into an object.
pub mod FitLemmas
pub mod JsonLawLemmas
pub mod LineLemmas
pub mod PlainLemmas
pub mod ReasonPlainLemmas
pub mod ValueLemmas
