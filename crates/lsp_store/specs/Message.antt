-- The canonical message of a batch that is accepted on an open document (LSP 3.17,
-- DidChangeTextDocument).
use Rattle.std.specs.Prelude.{◌≡◌, if◌then◌else◌, ◌∷◌}
use Rattle.lsp_store.specs.Prelude.{ℕ, ℤ, true, nat_lt, List, [], length, map, encode_utf8_all, Option, Some, None, Result, Ok, Err, ⊤, all_scalars, chars, frame, LimitsData, Item, ContentChange, Fault, meaning, DoTheSame, canonical, DocumentItem, ContentChangeData, IsChangeRead}
use Rattle.lsp_message.specs.Outgoing.{OutgoingData, did_change, body_of}
use Rattle.lsp_store.specs.Table.{Refusal, body_too_long, entry_at, change_refusal, after_change}

-- A change as it is written, with its text as bytes.
abbrev pub written_content_change : ContentChange → ContentChangeData
written_content_change change = record { range = change.range; text = encode_utf8_all change.text }

-- The `textDocument/didChange` of a batch.
abbrev pub change_message : List ℕ → ℤ → List ContentChange → OutgoingData
change_message uri version batch
    = did_change (record { uri = uri; version = version; changes = map written_content_change batch })

-- The body of the `textDocument/didChange` of a batch.
unfoldable pub change_body : List ℕ → ℤ → List ContentChange → List ℕ
change_body uri version batch = body_of (change_message uri version batch)

-- The canonical batch of a meaning on a text with these bytes. The second row means nothing: such a
-- batch is refused.
abbrev pub batch_of : (ℕ → ℕ) → List ℕ → Result (List Item) (ℕ × Fault) → List ContentChange
batch_of units text (Ok items) = canonical units (chars text) items
batch_of units text (Err fault) = []

-- The canonical batch of a batch on a document. Without one a batch is refused too.
abbrev pub batch_on : (ℕ → ℕ) → Option DocumentItem → List ContentChange → List ContentChange
batch_on units (Some entry) batch
    = batch_of units entry.text (meaning units (chars entry.text) batch)
batch_on units None batch = []

-- The canonical batch of a batch on the open document of a URI.
abbrev pub canonical_batch : (ℕ → ℕ) → List DocumentItem → List ℕ → List ContentChange → List ContentChange
canonical_batch units table uri batch = batch_on units (entry_at table uri) batch

-- The body of the canonical message of a batch.
abbrev pub canonical_body : (ℕ → ℕ) → List DocumentItem → List ℕ → ℤ → List ContentChange → List ℕ
canonical_body units table uri version batch
    = change_body uri version (canonical_batch units table uri batch)

-- The frame of the canonical message of a batch.
abbrev pub canonical_frame : (ℕ → ℕ) → List DocumentItem → List ℕ → ℤ → List ContentChange → List ℕ
canonical_frame units table uri version batch = frame (canonical_body units table uri version batch)

-- One change without a range, which is the whole text of a document (TextDocumentSyncKind.Full).
abbrev pub whole_text : Option DocumentItem → List ContentChange
whole_text (Some entry) = record { range = None; text = chars entry.text } ∷ []
whole_text None = []

-- The batch of that one change, with the document's text after a batch.
abbrev pub whole_batch : (ℕ → ℕ) → List DocumentItem → List ℕ → ℤ → List ContentChange → List ContentChange
whole_batch units table uri version batch =
    whole_text (entry_at (after_change units table uri version batch) uri)

-- The body of the `textDocument/didChange` of that batch.
abbrev pub whole_body : (ℕ → ℕ) → List DocumentItem → List ℕ → ℤ → List ContentChange → List ℕ
whole_body units table uri version batch
    = change_body uri version (whole_batch units table uri version batch)

-- Why a body is refused: it is too long.
abbrev pub body_refusal : LimitsData → List ℕ → Option Refusal
body_refusal limits body = if nat_lt limits.max_body (length body) then
    Some (body_too_long (length body)) else None

-- The first refusal, else the second.
abbrev pub else_refused : Option Refusal → Option Refusal → Option Refusal
else_refused (Some first) later = Some first
else_refused None later = later

-- Why the canonical message of a batch is refused: as the change is, then as its body is.
abbrev pub message_refusal : LimitsData → (ℕ → ℕ) → List DocumentItem → List ℕ → ℤ → List ContentChange →
    Option Refusal
message_refusal limits units table uri version batch =
    else_refused (change_refusal limits units table uri version batch)
    (body_refusal limits (canonical_body units table uri version batch))

-- ---- what holds of the canonical message

-- The texts of a batch are lists of scalar values.
abbrev pub AreTexts : List ContentChange → Type 0
AreTexts [] = ⊤
AreTexts (change ∷ batch) = (all_scalars change.text ≡ true) × AreTexts batch

-- Two batches on the open document of a URI keep the same old characters and insert the same texts
-- between them.
pub record DoAlike (units : ℕ → ℕ) (table : List DocumentItem) (uri : List ℕ)
    (batch other : List ContentChange) : Type 0 where
  pub entry : DocumentItem
  pub is_open : entry_at table uri ≡ Some entry
  pub items : List Item
  pub others : List Item
  pub means : meaning units (chars entry.text) batch ≡ Ok items
  pub other_means : meaning units (chars entry.text) other ≡ Ok others
  pub same : DoTheSame items others

-- What a batch means on the open document of a URI, and its canonical batch. What holds of every
-- such batch is a law of `batch_laws`.
pub record IsCanonicalOn (units : ℕ → ℕ) (table : List DocumentItem) (uri : List ℕ)
    (batch : List ContentChange) : Type 0 where
  pub entry : DocumentItem
  pub is_open : entry_at table uri ≡ Some entry
  pub items : List Item
  pub means : meaning units (chars entry.text) batch ≡ Ok items
  pub is : canonical_batch units table uri batch ≡ canonical units (chars entry.text) items

-- A canonical batch is accepted where the batch was, has the same result, and has the same
-- canonical message.
pub record IsCanonicalOf (limits : LimitsData) (units : ℕ → ℕ) (table : List DocumentItem)
    (uri : List ℕ) (version : ℤ) (batch canonical : List ContentChange) : Type 0 where
  pub accepted : message_refusal limits units table uri version canonical ≡ None
  pub leaves : after_change units table uri version canonical
      ≡ after_change units table uri version batch
  pub same_frame : canonical_frame units table uri version canonical
      ≡ canonical_frame units table uri version batch

-- The receiver reads the message as the one that was written: this URI, version and batch.
abbrev pub IsReadAgain : List ℕ → ℤ → List ContentChange → Type 0
IsReadAgain uri version batch = IsChangeRead (change_body uri version batch)
    (record { uri = uri; version = version; changes = map written_content_change batch })
