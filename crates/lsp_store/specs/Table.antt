-- The table of open documents, in order of opening (LSP 3.17, Text Document Synchronization). The
-- definitions say which command on it is refused and why, and what the result of an accepted one
-- is.
use Rattle.std.specs.Prelude.{◌≡◌, ◌&&◌, ◌||◌, if◌then◌else◌, ◌∷◌, ◌++◌}
use Rattle.lsp_store.specs.Prelude.{ℕ, ℤ, Bool, not, nat_lt, nat_le, int_le, List, [], length, sum_by, encode_utf8_all, Option, Some, None, is_some, Result, Ok, Err, bytes_eq, chars, LimitsData, Encoding, units_in, Item, ContentChange, Fault, meaning, bytes_left, DocumentItem}

-- Why a command is refused. A stale version has the current one, an edit the first faulty change
-- and its fault, and a body too long its length.
pub data Refusal : Type 0 where
  already_open too_many_documents text_too_long not_open too_many_changes : Refusal
  stale_version : ℤ → Refusal
  edit : ℕ → Fault → Refusal
  body_too_long : ℕ → Refusal

-- The open document of a URI, which is compared byte for byte.
abbrev pub entry_at : List DocumentItem → List ℕ → Option DocumentItem
entry_at [] uri = None
entry_at (entry ∷ table) uri = if bytes_eq uri entry.uri then Some entry else entry_at table uri

-- The table without the document of a URI; the others keep their order.
abbrev pub after_close : List DocumentItem → List ℕ → List DocumentItem
after_close [] uri = []
after_close (entry ∷ table) uri = if bytes_eq uri entry.uri then table else
    entry ∷ after_close table uri

-- ---- opening (DidOpenTextDocument)

-- How many documents with other URIs are open.
abbrev pub other_count : List DocumentItem → List ℕ → ℕ
other_count table uri = length (after_close table uri)

-- A URI is taken where its document is open. Where lenient none is. (LSP 3.17 says that a document
-- is opened once; that a second opening is refused is this project's choice.)
abbrev pub is_taken : LimitsData → List DocumentItem → List ℕ → Bool
is_taken limits table uri = not limits.lenient && is_some (entry_at table uri)

-- Why opening a document is refused: it is open, or there are too many others, or its text is too
-- long.
abbrev pub open_refusal : LimitsData → List DocumentItem → DocumentItem → Option Refusal
open_refusal limits table entry =
    if is_taken limits table entry.uri then Some already_open
    else if nat_le limits.max_docs (other_count table entry.uri) then Some too_many_documents
    else if nat_lt limits.max_text (length entry.text) then Some text_too_long
    else None

-- An opened document comes last, and replaces an open one of its URI.
abbrev pub after_open : List DocumentItem → DocumentItem → List DocumentItem
after_open table entry = after_close table entry.uri ++ entry ∷ []

-- ---- changing (DidChangeTextDocument); a character `c` of a text has `units c` units

-- The bytes of the texts of a batch together.
abbrev pub batch_bytes : List ContentChange → ℕ
batch_bytes batch = sum_by (λ change. length (encode_utf8_all change.text)) batch

-- The greatest number of these bytes.
abbrev pub greatest_batch : ℕ
greatest_batch = 1073741824

-- Why a batch's meaning on a text is refused: it has none, or its final text is too long. The texts
-- between may be longer.
abbrev pub meaning_refusal : LimitsData → List ℕ → Result (List Item) (ℕ × Fault) → Option Refusal
meaning_refusal limits text (Err fault) = Some (edit fault.0 fault.1)
meaning_refusal limits text (Ok items)
    = if nat_lt limits.max_text (length (bytes_left text items)) then Some text_too_long else None

-- A version is stale where it isn't greater than the current one. Where lenient none is. (LSP 3.17
-- says that versions increase; that another one is refused is this project's choice.)
abbrev pub is_stale : LimitsData → ℤ → ℤ → Bool
is_stale limits version current = not limits.lenient && int_le version current

-- Why a batch on a document is refused: a stale version, too many changes or too long ones, or its
-- meaning.
abbrev pub entry_refusal : LimitsData → (ℕ → ℕ) → DocumentItem → ℤ → List ContentChange → Option Refusal
entry_refusal limits units entry version batch =
    if is_stale limits version entry.version then Some (stale_version entry.version)
    else if nat_lt limits.max_changes (length batch)
    || nat_lt greatest_batch (batch_bytes batch) then Some too_many_changes
    else meaning_refusal limits entry.text (meaning units (chars entry.text) batch)

-- Only its meaning can refuse a batch: the version isn't stale, and there are not too many changes
-- nor too long ones.
abbrev pub IsLeftToMeaning : LimitsData → DocumentItem → ℤ → List ContentChange → Type 0
IsLeftToMeaning limits entry version batch =
    (units : ℕ → ℕ) →
    entry_refusal limits units entry version batch ≡
    meaning_refusal limits entry.text (meaning units (chars entry.text) batch)

-- Why a batch on a document that may be open is refused.
abbrev pub refusal_on : LimitsData → (ℕ → ℕ) → Option DocumentItem → ℤ → List ContentChange → Option Refusal
refusal_on limits units None version batch = Some not_open
refusal_on limits units (Some entry) version batch = entry_refusal limits units entry version batch

-- Why a change of the document of a URI is refused.
abbrev pub change_refusal : LimitsData → (ℕ → ℕ) → List DocumentItem → List ℕ → ℤ → List ContentChange →
    Option Refusal
change_refusal limits units table uri version batch
    = refusal_on limits units (entry_at table uri) version batch

-- The text that a meaning leads to, from this text. The second row means nothing: such a batch is
-- refused.
abbrev pub meant_text : List ℕ → Result (List Item) (ℕ × Fault) → List ℕ
meant_text text (Ok items) = bytes_left text items
meant_text text (Err fault) = text

-- A changed document has the new version and the text that the batch means.
abbrev pub changed : (ℕ → ℕ) → DocumentItem → ℤ → List ContentChange → DocumentItem
changed units entry version batch
    = record entry {
      version = version;
      text = meant_text entry.text (meaning units (chars entry.text) batch);
    }

-- A changed document keeps its index in the table.
abbrev pub after_change : (ℕ → ℕ) → List DocumentItem → List ℕ → ℤ → List ContentChange → List DocumentItem
after_change units [] uri version batch = []
after_change units (entry ∷ table) uri version batch =
    if bytes_eq uri entry.uri then changed units entry version batch ∷ table else
    entry ∷ after_change units table uri version batch

-- ---- closing (DidCloseTextDocument)

-- Why closing a document is refused: it isn't open.
abbrev pub close_refusal : List DocumentItem → List ℕ → Option Refusal
close_refusal table uri = if is_some (entry_at table uri) then None else Some not_open

-- ---- commands

-- A command on the table: open a document; change one, by URI, new version, encoding and batch of
-- changes; close one, by URI.
pub data Command : Type 0 where
  opens : DocumentItem → Command
  changes : List ℕ → ℤ → Encoding → List ContentChange → Command
  closes : List ℕ → Command

-- Why a command is refused.
abbrev pub command_refusal : LimitsData → List DocumentItem → Command → Option Refusal
command_refusal limits table (opens entry) = open_refusal limits table entry
command_refusal limits table (changes uri version encoding batch)
    = change_refusal limits (units_in encoding) table uri version batch
command_refusal limits table (closes uri) = close_refusal table uri

-- The table after an accepted command.
abbrev pub table_after : List DocumentItem → Command → List DocumentItem
table_after table (opens entry) = after_open table entry
table_after table (changes uri version encoding batch)
    = after_change (units_in encoding) table uri version batch
table_after table (closes uri) = after_close table uri

-- A table, unless there is a refusal.
abbrev pub unless_refused : Option Refusal → List DocumentItem → Result (List DocumentItem) Refusal
unless_refused None table = Ok table
unless_refused (Some refusal) table = Err refusal

-- The table after a command, or why the command is refused.
abbrev pub after_command : LimitsData → List DocumentItem → Command
    → Result (List DocumentItem) Refusal
after_command limits table command
    = unless_refused (command_refusal limits table command) (table_after table command)

-- The table after a list of accepted commands, one after another, on a table.
abbrev pub table_from : List DocumentItem → List Command → List DocumentItem
table_from table [] = table
table_from table (command ∷ commands) = table_from (table_after table command) commands

-- The table after a list of accepted commands, from the start, when no document is open.
abbrev pub table_of : List Command → List DocumentItem
table_of commands = table_from [] commands
