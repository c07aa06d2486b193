-- Where to begin: `normalise.canonical_log` is `canonical_log_law` of `NormaliseLog/NormaliseLemmas` and
-- `normalise.squashed` is `squashed_law` of `Squash/SquashLogLemmas`, both by `WroteLemmas`.
-- `normalise_documents.documents` is in `Documents/DocumentsLawLemmas`, `convert.converted` in
-- `ConvertLog/ConvertLogLemmas`.
mod Prelude
pub mod ConvertLog
pub mod Documents
pub mod NormaliseLog
pub mod Parts
pub mod Squash
pub mod WroteLemmas
