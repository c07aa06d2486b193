-- Batches of changes on one document, one after another, as one batch (LSP 3.17,
-- DidChangeTextDocumentParams).
use Rattle.std.specs.Prelude.{◌≡◌, if◌then◌else◌, ◌++◌}
use Rattle.lsp_store.specs.Prelude.{ℕ, ℤ, nat_lt, List, [], length, Option, Some, None, Result, Ok, Err, chars, frame, LimitsData, Encoding, units_in, Item, plain, text_of, ContentChange, Fault, meaning, canonical, bytes_left, DocumentItem, Plan}
use Rattle.lsp_edit.specs.Compose.{then_items}
use Rattle.lsp_store.specs.Opened.{StoreData}
use Rattle.lsp_store.specs.Plan.{IsPlanOf}
use Rattle.lsp_store.specs.Table.{Refusal, changed, too_many_changes, entry_refusal}
use Rattle.lsp_store.specs.Message.{change_body, body_refusal}

-- Batches on one document. URI and text (as bytes) are the document's before any batch; the version
-- is that of the last batch. The limits and the encoding are those of all batches. The items are
-- what became of the text's characters.
pub record SquashData : Type 0 where
  pub uri : List ℕ
  pub limits : LimitsData
  pub encoding : Encoding
  pub text : List ℕ
  pub items : List Item
  pub version : ℤ

-- A document before any batch.
abbrev pub squash_of : LimitsData → Encoding → DocumentItem → SquashData
squash_of limits encoding entry = record {
  uri = entry.uri;
  limits = limits;
  encoding = encoding;
  text = entry.text;
  items = plain (chars entry.text);
  version = entry.version;
}

-- The document after all batches. Its language is ignored.
abbrev pub reached_entry : SquashData → DocumentItem
reached_entry squash
    = record {
      uri = squash.uri;
      language = [];
      version = squash.version;
      text = bytes_left squash.text squash.items;
    }

-- Why a batch is refused: as a change of the document reached so far.
abbrev pub add_refusal : SquashData → ℤ → List ContentChange → Option Refusal
add_refusal squash version batch
    = entry_refusal squash.limits (units_in squash.encoding) (reached_entry squash) version batch

-- A document has the text and the version that all batches lead to.
pub record HasReached (squash : SquashData) (entry : DocumentItem) : Type 0 where
  pub text : chars entry.text ≡ text_of (chars squash.text) squash.items
  pub version : entry.version ≡ squash.version

-- The items that a batch means. The second row means nothing: such a batch is refused.
abbrev pub items_meant : Result (List Item) (ℕ × Fault) → List Item
items_meant (Ok items) = items
items_meant (Err fault) = []

-- The squash after an accepted batch, as a function.
abbrev pub squash_after : SquashData → ℤ → List ContentChange → SquashData
squash_after squash version batch = record squash {
  items = then_items squash.items
      (items_meant (meaning (units_in squash.encoding) (text_of (chars squash.text) squash.items)
      batch));
  version = version;
}

-- The squash after an accepted batch: URI, limits, encoding and the old text stay.
pub record IsSquashAfter (old : SquashData) (version : ℤ) (batch : List ContentChange)
    (new : SquashData) : Type 0 where
  -- the batch is accepted
  pub accepted : add_refusal old version batch ≡ None
  -- what it means on the text reached so far
  pub others : List Item
  pub means : meaning (units_in old.encoding) (text_of (chars old.text) old.items) batch ≡ Ok others
  -- the new items are what the old ones and these mean together
  pub is : new ≡ record old { items = then_items old.items others; version = version }
  -- So they are the meaning of all batches as one list, if the old ones are that of the batches
  -- before.
  pub together : (before : List ContentChange) → meaning (units_in old.encoding) (chars old.text) before
      ≡ Ok old.items
      → meaning (units_in old.encoding) (chars old.text) (before ++ batch) ≡ Ok new.items

-- The squash, but for its limits and its encoding.
abbrev pub squash_under : LimitsData → Encoding → SquashData → SquashData
squash_under limits encoding squash = record squash { limits = limits; encoding = encoding }

-- A plan's batch is added to a squash, whatever its limits and its encoding are, as under those of the
-- plan. The squash then leads to the document after the plan.
abbrev pub IsSquashOfPlan : StoreData → Plan → SquashData → SquashData → Type 0
IsSquashOfPlan store plan old new =
    (uri : List ℕ) (version : ℤ) (encoding : Encoding) (batch : List ContentChange)
    → (planned : IsPlanOf store uri version encoding batch plan)
    → IsSquashAfter (squash_under store.limits encoding old) version batch
    (squash_under store.limits encoding new)
    × (new.limits ≡ old.limits) × (new.encoding ≡ old.encoding)
    × HasReached new (changed (units_in encoding) planned.on.entry version batch)

-- ---- the message of all batches

-- The canonical batch of all batches.
abbrev pub squash_batch : SquashData → List ContentChange
squash_batch squash = canonical (units_in squash.encoding) (chars squash.text) squash.items

-- The body of the message of all batches.
abbrev pub squash_body : SquashData → List ℕ
squash_body squash = change_body squash.uri squash.version (squash_batch squash)

-- The frame of the message of all batches.
abbrev pub squash_frame : SquashData → List ℕ
squash_frame squash = frame (squash_body squash)

-- Why that message is refused: it has too many changes, or then its body is too long.
abbrev pub squash_refusal : SquashData → Option Refusal
squash_refusal squash =
    if nat_lt squash.limits.max_changes (length (squash_batch squash)) then Some too_many_changes
    else body_refusal squash.limits (squash_body squash)
