-- A canonical message is read back as a change that has the same canonical message.
pub mod CanonicalChangeLemmas
pub mod SettledLemmas
