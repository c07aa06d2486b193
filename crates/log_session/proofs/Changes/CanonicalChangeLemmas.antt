-- The canonical message of what some batch means on an open document: it is read as a change, which is accepted there,
-- leaves what the batch
-- leaves, and is its own canonical message.
use Rattle.log_session.proofs.Prelude.{FitsSigned, IsUtf8, List, None, Some, ap, arith, false, length, map, nat_lt, refl, subst, w32, ℕ, ℤ, ◌∙◌, ◌≡◌, ◌≤◌, common_steps, scalars-chars, Ok, chars, canonical_law, units_some, ContentChange, meaning, canonical, then_items, bytes_left, Item, text_of, IsCanonical, AreInRange, body_of-unique, is_read_back, reading-body_of, reading, ChangeData, DocumentItem, canonical_change_body, refusal_of, server_after, joined_by, edits_back, did_change, incoming_of, ServerData, content_change_from_data, session_encoding, is_read, canonical_texts, squash_accepted, AreTexts, IsReadAgain, canonical_batch, canonical_body, written_content_change, SquashData, entry_at, entry_refusal, is_stale, meant_text, IsWithin, units_in, Encoding}
use Rattle.lsp_store.specs.Message.{change_body}
use Rattle.log_session.proofs.Records.PutLemmas.{put, change_puts}

-- ---- a batch is read back as it was written

pub asks_back : (uri : List ℕ) (version : ℤ) (batch : List ContentChange) → IsReadAgain uri version batch
    → incoming_of (reading (change_body uri version batch))
    ≡ did_change (Some (record { uri = uri; version = version; changes = map written_content_change batch }))
unfolding change_body
asks_back uri version batch read = ap incoming_of read.as_sent ∙ ap did_change read.back

-- what an open document's URI, version and text must be
pub record IsProperAt (t : ServerData) (uri : List ℕ) (version : ℤ) (entry : DocumentItem) (batch : List ContentChange)
    (items : List Item) : Type 0 where
  pub found : entry_at t.table uri ≡ Some entry
  pub received : IsWithin t.config.limits entry
  pub uri_utf8 : IsUtf8 uri
  pub version_fits : FitsSigned w32 version
  pub means : meaning (units_in (session_encoding t)) (chars entry.text) batch ≡ Ok items
  pub texts : AreTexts batch
  pub newer : is_stale t.config.limits version entry.version ≡ false
  pub short : length (bytes_left entry.text items) ≤ t.config.limits.max_text

-- the batch, and the change that asks for it
abbrev pub canonical_at : ServerData → DocumentItem → List Item → List ContentChange
canonical_at t entry items = canonical (units_in (session_encoding t)) (chars entry.text) items

abbrev pub canonical_change : ServerData → List ℕ → ℤ → DocumentItem → List Item → ChangeData
canonical_change t uri version entry items = record {
  uri = uri;
  version = version;
  changes = map written_content_change (canonical_at t entry items);
}

-- what a change adds to batches that lead to the document that it means something on
pub joins_as : (p : ChangeData) (squash : SquashData) (encoding : Encoding) (text : List ℕ) (items : List Item)
    → squash.encoding ≡ encoding → text_of (chars squash.text) squash.items ≡ text
    → meaning (units_in encoding) text (map content_change_from_data p.changes) ≡ Ok items
    → joined_by p squash ≡ record squash { items = then_items squash.items items; version = p.version }
joins_as p squash encoding text items same_encoding same_text means = grind (arith, common_steps)

pub record IsCanonicalChange (t : ServerData) (uri : List ℕ) (version : ℤ) (entry : DocumentItem)
    (items : List Item) : Type 0 where
  pub asks : incoming_of (reading (change_body uri version (canonical_at t entry items)))
      ≡ did_change (Some (canonical_change t uri version entry items))
  pub may : refusal_of t (canonical_change t uri version entry items) ≡ None
  pub leaves : server_after t (canonical_change t uri version entry items) ≡ record t {
    table = put t.table uri version (bytes_left entry.text items);
  }
  pub own : canonical_change_body t (canonical_change t uri version entry items)
      ≡ change_body uri version (canonical_at t entry items)
  pub joins : (squash : SquashData) → squash.encoding ≡ session_encoding t → text_of (chars squash.text) squash.items
      ≡ chars entry.text → joined_by (canonical_change t uri version entry items) squash ≡ record squash {
        items = then_items squash.items items;
        version = version;
      }

module _ (t : ServerData) (uri : List ℕ) (version : ℤ) (entry : DocumentItem) (batch : List ContentChange)
    (items : List Item) (ranges : AreInRange t.config.limits) (at : IsProperAt t uri version entry batch items)
    (few : nat_lt t.config.limits.max_changes (length (canonical_at t entry items)) ≡ false) where
  laws : (some : List ContentChange) (others : List Item) → meaning (units_in (session_encoding t))
      (chars entry.text) some ≡ Ok others → IsCanonical (units_in (session_encoding t)) (chars entry.text) some others
  laws some others means = canonical_law (units_in (session_encoding t)) (units_some (session_encoding t))
      (chars entry.text) some others means

  law : IsCanonical (units_in (session_encoding t)) (chars entry.text) batch items
  law = laws batch items at.means

  accepted : entry_refusal t.config.limits (units_in (session_encoding t)) entry version (canonical_at t entry items)
      ≡ None
  accepted = squash_accepted t.config.limits (session_encoding t) entry version batch items at.means at.newer at.short
      (omega (arith, ranges.greatest_text)) few

  all_texts : AreTexts (canonical_at t entry items)
  all_texts = canonical_texts (units_in (session_encoding t)) (chars entry.text) batch items law
      (scalars-chars entry.text at.received.utf8) at.texts at.means

  same_batch : canonical_batch (units_in (session_encoding t)) t.table uri (canonical_at t entry items)
      ≡ canonical_at t entry items
  same_batch = rw (at.found, law.means) refl

  read : IsReadAgain uri version (canonical_at t entry items)
  read =
      subst (IsReadAgain uri version) same_batch
      (is_read t.config.limits (session_encoding t) t.table uri version entry at.found laws at.uri_utf8 at.version_fits
      at.received.utf8 (omega (arith, at.received.short, ranges.greatest_text)) body_of-unique
      (canonical_at t entry items) all_texts accepted reading-body_of is_read_back)

  back : map content_change_from_data (map written_content_change (canonical_at t entry items))
      ≡ canonical_at t entry items
  back = edits_back (canonical_at t entry items) all_texts

  pub is_canonical_change : IsCanonicalChange t uri version entry items
  is_canonical_change = record {
    asks = asks_back uri version (canonical_at t entry items) read;
    may = rw (at.found, back) accepted;
    leaves =
        ap (λ (table : List DocumentItem). record t { table = table })
        (change_puts (units_in (session_encoding t)) t.table uri version
        (map content_change_from_data (map written_content_change (canonical_at t entry items))) entry at.found
        ∙ ap (λ (b : List ContentChange). put t.table uri version
        (meant_text entry.text (meaning (units_in (session_encoding t)) (chars entry.text) b))) back
        ∙ ap (λ m. put t.table uri version (meant_text entry.text m)) law.means);
    own = ap (canonical_body (units_in (session_encoding t)) t.table uri version) back
        ∙ ap (change_body uri version) same_batch;
    joins = λ squash encoding text.
        joins_as (canonical_change t uri version entry items) squash (session_encoding t) (chars entry.text) items
        encoding text (ap (meaning (units_in (session_encoding t)) (chars entry.text)) back ∙ law.means);
  }
