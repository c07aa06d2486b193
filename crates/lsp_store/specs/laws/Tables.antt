-- What holds of the table of documents after any commands.
use Rattle.std.specs.Prelude.{◌≡◌, ◌≤◌, ◌∷◌, ◌++◌}
use Rattle.lsp_store.specs.Prelude.{ℕ, ℤ, List, [], length, IsUtf8, None, ⊤, LimitsData, AreInRange, Encoding, units_in, ContentChange, DocumentItem}
use Rattle.lsp_store.specs.Table.{Command, opens, changes, closes, entry_at, change_refusal, after_change, command_refusal, table_after, table_of}
use Rattle.lsp_store.specs.Message.{AreTexts, canonical_batch, whole_batch}
use Rattle.lsp_store.specs.Limits.{AreWithin}

-- Greater limits refuse no command that smaller ones accept.
abbrev pub GreaterLimitsLaw : Type 0
GreaterLimitsLaw =
    (small great : LimitsData) (table : List DocumentItem) (command : Command)
    → AreWithin small great
    → command_refusal small table command ≡ None → command_refusal great table command ≡ None

-- ---- what may be sent instead of a batch

-- Another batch is accepted within these limits, and has the result of the batch.
pub record IsReplacedBy (limits : LimitsData) (units : ℕ → ℕ) (table : List DocumentItem)
    (uri : List ℕ)
    (version : ℤ) (batch other : List ContentChange) : Type 0 where
  pub accepted : change_refusal limits units table uri version other ≡ None
  pub leaves : after_change units table uri version other
      ≡ after_change units table uri version batch

-- The canonical batch of an accepted batch does the same, within greater limits too.
abbrev pub CanonicalBatchLaw : Type 0
CanonicalBatchLaw =
    (small great : LimitsData) (encoding : Encoding) (table : List DocumentItem) (uri : List ℕ)
    (version : ℤ) (batch : List ContentChange) → AreInRange small → AreWithin small great
    → change_refusal small (units_in encoding) table uri version batch ≡ None
    → IsReplacedBy great (units_in encoding) table uri version batch
    (canonical_batch (units_in encoding) table uri batch)

-- ---- the documents of a table

-- A document's text is UTF-8 and within the limit.
pub record IsWithin (limits : LimitsData) (entry : DocumentItem) : Type 0 where
  pub utf8 : IsUtf8 entry.text
  pub short : length entry.text ≤ limits.max_text

-- Each document of a table is within the limits.
abbrev pub AllWithin : LimitsData → List DocumentItem → Type 0
AllWithin limits [] = ⊤
AllWithin limits (entry ∷ table) = IsWithin limits entry × AllWithin limits table

-- The texts of a command are UTF-8, or lists of scalar values.
abbrev pub HasTexts : Command → Type 0
HasTexts (opens entry) = IsUtf8 entry.text
HasTexts (changes uri version encoding batch) = AreTexts batch
HasTexts (closes uri) = ⊤

-- An accepted command keeps all documents, and their number, within the limits.
abbrev pub WithinLaw : Type 0
WithinLaw =
    (limits : LimitsData) (table : List DocumentItem) (command : Command) → AllWithin limits table
    → length table ≤ limits.max_docs → HasTexts command →
    command_refusal limits table command ≡ None
    → AllWithin limits (table_after table command)
    × (length (table_after table command) ≤ limits.max_docs)

-- The whole text after a batch does the same as the batch, within greater limits too.
abbrev pub WholeTextLaw : Type 0
WholeTextLaw =
    (small great : LimitsData) (encoding : Encoding) (table : List DocumentItem) (uri : List ℕ)
    (version : ℤ) (batch : List ContentChange) → AreInRange small → AreWithin small great
    → AllWithin small table → AreTexts batch
    → change_refusal small (units_in encoding) table uri version batch ≡ None
    → IsReplacedBy great (units_in encoding) table uri version batch
    (whole_batch (units_in encoding) table uri version batch)

-- No two documents have the same URI.
abbrev pub AreUnique : List DocumentItem → Type 0
AreUnique [] = ⊤
AreUnique (entry ∷ table) = (entry_at table entry.uri ≡ None) × AreUnique table

-- An accepted command keeps the URIs unique.
abbrev pub UniqueLaw : Type 0
UniqueLaw =
    (limits : LimitsData) (table : List DocumentItem) (command : Command) → AreUnique table
    → command_refusal limits table command ≡ None → AreUnique (table_after table command)

-- ---- the table of a list of commands

-- Commands are accepted on a table, one after another, and their texts are texts.
abbrev pub AreAccepted : LimitsData → List DocumentItem → List Command → Type 0
AreAccepted limits table [] = ⊤
AreAccepted limits table (command ∷ commands) =
    HasTexts command × (command_refusal limits table command ≡ None)
    × AreAccepted limits (table_after table command) commands

-- A table has no URI twice, at most the allowed number of documents, and each text is within its
-- limit.
pub record IsInOrder (limits : LimitsData) (table : List DocumentItem) : Type 0 where
  pub unique : AreUnique table
  pub many : length table ≤ limits.max_docs
  pub texts : AllWithin limits table

-- The table of every list of accepted commands is in order.
abbrev pub TableLaw : Type 0
TableLaw =
    (limits : LimitsData) (commands : List Command) → AreAccepted limits [] commands
    → IsInOrder limits (table_of commands)

-- The table after one more command.
abbrev pub LastLaw : Type 0
LastLaw =
    (commands : List Command) (command : Command)
    → table_of (commands ++ command ∷ []) ≡ table_after (table_of commands) command
