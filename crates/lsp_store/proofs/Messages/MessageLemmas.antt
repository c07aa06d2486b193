-- The canonical message of a batch that is accepted on an open document.
use Rattle.lsp_store.proofs.Prelude.{ℕ, ℤ, ◌≡◌, ◌<◌, ◌≤◌, ◌^◌, ◌↔◌, false, nat_lt, List, [], ◌∷◌, ◌++◌, length, map, sum_by, FitsSigned, IsUtf8, bytes_eq, string_bytes, encode_utf8_all, Option, Some, None, Result, Ok, Err, refl, sym, ap, ◌∙◌, arith, inl, inr, cases_Bool, lt-ltb, le-ltb, ltb-false, or_parts, or_from, sum_by-le-sum_by, IsUtf8-string_bytes, encodes-chars, encodes_same, scalars-chars, len_utf8, chars, frame, LimitsData, utf8_bounds, utf16_bounds, utf32_bounds, units_in, Encoding, Utf8, Utf16, Utf32, Change, Item, text_of, ContentChange, Fault, meaning, canonical, content_change, IsCanonical, bytes_left, DocumentItem, IsProper, IsReadAsSent, IsReadBack, StoreFault, store_fault_of_encode, IsRefusal, IsLeftToMeaning, Refusal, edit, batch_bytes, greatest_batch, entry_at, entry_refusal, change_refusal, after_change, changed, is_stale, meaning_refusal, common_steps}
use Rattle.std.specs.Int.{w32}
use Rattle.lsp_frame.specs.Encode.{IsEncodeFault}
use Rattle.lsp_frame.specs.declared.written.EncodeFault.{EncodeFault}
use Rattle.lsp_message.specs.Outgoing.{OutgoingData, body_of}
use Rattle.lsp_message.specs.Seen.{content_change_view}
use Rattle.lsp_message.specs.Written.{change_params}
use Rattle.lsp_store.specs.Message.{AreTexts, DoAlike, IsReadAgain, IsCanonicalOf, body_refusal, canonical_batch, canonical_body, canonical_frame, change_body, change_message, else_refused, written_content_change}
use Rattle.lsp_store.proofs.Messages.FrameLemmas.{frame_one}
use Rattle.lsp_store.proofs.Messages.ProperLemmas.{bytes_sum, canonical_proper}
use Rattle.lsp_store.proofs.Tables.RefusalLemmas.{refused_meaning}
use Rattle.lsp_store.proofs.Messages.ScalarLemmas.{canonical_texts}
use Rattle.lsp_frame.specs.declared.written.EncodeFault.TheVariants as encode
use Rattle.lsp_message.specs.Seen as seen
use Rattle.lsp_message.specs.Params.{ChangeData, ContentChangeData}

-- ---- what is written

-- changes as they are held are written as their edits are
written_same : (changes : List Change) → map content_change_view changes
    ≡ map written_content_change (map content_change changes)
written_same [] = refl
written_same (c ∷ changes) = rw (encodes-chars (string_bytes c.text) (IsUtf8-string_bytes c.text), written_same changes)
    refl

-- what is appended
pub body_pushed : (old new uri : List ℕ) (version error : ℤ) (changes : List Change)
    → new ≡ old ++ body_of (seen.did_change_of uri error changes) → error ≡ version
    → new ≡ old ++ change_body uri version (map content_change changes)
unfolding change_body
body_pushed old new uri version error changes is same = rw (is, same, written_same changes) refl

pub encode_refused : (limits : LimitsData) (body : List ℕ) (fault : EncodeFault)
    → IsEncodeFault limits.max_body (length body) fault → IsRefusal (body_refusal limits body)
    (store_fault_of_encode fault)
encode_refused limits body (encode.BodyTooLong error) is =
    inr (rw (lt-ltb limits.max_body (length body) is.0, is.1) refl)
encode_refused limits body encode.NoMemory is = inl refl

pub body_within : (limits : LimitsData) (body : List ℕ) → length body ≤ limits.max_body → body_refusal limits body
    ≡ None
body_within limits body within = rw (le-ltb limits.max_body (length body) within) refl

-- the texts of changes hold scalar values
pub texts_held : (changes : List Change) → AreTexts (map content_change changes)
texts_held [] = tt
texts_held (c ∷ changes) = (scalars-chars (string_bytes c.text) (IsUtf8-string_bytes c.text), texts_held changes)

abbrev changed_to : List ℕ → ℤ → List ContentChange → ChangeData
changed_to uri version batch = record { uri = uri; version = version; changes = map written_content_change batch }

written_one : (batch other : List ContentChange) → map written_content_change batch
    ≡ map written_content_change other → batch ≡ other
written_one [] [] e = refl
written_one (c ∷ batch) (d ∷ other) e =
    let first : written_content_change c ≡ written_content_change d = cc in
    let rest : map written_content_change batch ≡ map written_content_change other = cc in
    let range : c.range ≡ d.range = ap (λ (x : ContentChangeData). x.range) first in
    let text : c.text ≡ d.text = encodes_same c.text d.text (ap (λ (x : ContentChangeData). x.text) first) in
    let same : c ≡ d = λ i. record { range = range i; text = text i } in
    rw (same, written_one batch other rest) refl
written_one _ _ e = absurd (cc)

units_few : (encoding : Encoding) (c : ℕ) → units_in encoding c ≤ len_utf8 c
units_few Utf8 c = (utf8_bounds c).1
units_few Utf16 c = (utf16_bounds c).1
units_few Utf32 c = (utf32_bounds c).1

-- ---- refusals

pub first_told : (first later : Option Refusal) (fault : StoreFault) → IsRefusal first fault
    → IsRefusal (else_refused first later) fault
first_told first later fault error = grind (arith, common_steps)

-- What an accepted batch means on a document.
pub record Accepts (limits : LimitsData) (units : ℕ → ℕ) (entry : DocumentItem) (version : ℤ)
    (batch : List ContentChange) : Type
    0 where
  pub newer : is_stale limits version entry.version ≡ false
  pub few : length batch ≤ limits.max_changes
  pub fits : batch_bytes batch ≤ greatest_batch
  pub items : List Item
  pub means : meaning units (chars entry.text) batch ≡ Ok items
  pub short : length (bytes_left entry.text items) ≤ limits.max_text

meaning_parts : (limits : LimitsData) (text : List ℕ) (meant : Result (List Item) (ℕ × Fault))
    → meaning_refusal limits text meant ≡ None → (items : List Item) × (meant ≡ Ok items)
    × (length (bytes_left text items) ≤ limits.max_text)
meaning_parts limits text (Err fault) e = let bad : Some (edit fault.0 fault.1) ≡ None = e in absurd (cc)
meaning_parts limits text (Ok items) e = grind (arith, common_steps, nat_lt, ltb-false, cases_Bool)

pub accepted_parts : (limits : LimitsData) (units : ℕ → ℕ) (entry : DocumentItem) (version : ℤ)
    (batch : List ContentChange)
    → entry_refusal limits units entry version batch ≡ None → Accepts limits units entry version batch
accepted_parts limits units entry version batch e =
    grind (arith, common_steps, cases_Bool, nat_lt, or_parts, meaning_parts, ltb-false)

-- Of an accepted batch only its meaning could be refused.
pub accepted_left : (limits : LimitsData) (units : ℕ → ℕ) (entry : DocumentItem) (version : ℤ)
    (batch : List ContentChange)
    → entry_refusal limits units entry version batch ≡ None → IsLeftToMeaning limits entry version batch
accepted_left limits units entry version batch is =
    grind (arith, common_steps, accepted_parts, refused_meaning, or_from, le-ltb)

pub accepted_from : (limits : LimitsData) (units : ℕ → ℕ) (entry : DocumentItem) (version : ℤ)
    (batch : List ContentChange)
    → Accepts limits units entry version batch → entry_refusal limits units entry version batch ≡ None
accepted_from limits units entry version batch a = grind (arith, common_steps, nat_lt, or_from, le-ltb)

-- The canonical batch has no more bytes than the text that it leaves, and is accepted where that text is.
module _ (limits : LimitsData) (units : ℕ → ℕ) (entry : DocumentItem) (version : ℤ) (batch : List ContentChange)
    (items : List Item) (law : IsCanonical units (chars entry.text) batch items) where
  weighs : batch_bytes (canonical units (chars entry.text) items) ≤ length (bytes_left entry.text items)
  weighs =
      let texts : batch_bytes (canonical units (chars entry.text) items)
      ≤ sum_by (λ change. sum_by len_utf8 change.text) (canonical units (chars entry.text) items) =
      sum_by-le-sum_by (λ (e : ContentChange). length (encode_utf8_all e.text))
      (λ (e : ContentChange). sum_by len_utf8 e.text) (canonical units (chars entry.text) items)
      (λ (e : ContentChange). omega (arith, bytes_sum e.text)) in
      omega (arith, texts, law.short len_utf8, bytes_sum (text_of (chars entry.text) items))

  pub canonical_accepted : is_stale limits version entry.version ≡ false
      → length (canonical units (chars entry.text) items) ≤ limits.max_changes
      → length (bytes_left entry.text items) ≤ limits.max_text → length (bytes_left entry.text items) ≤ 1073741824
      → entry_refusal limits units entry version (canonical units (chars entry.text) items) ≡ None
  canonical_accepted newer few short small =
      accepted_from limits units entry version (canonical units (chars entry.text) items) (record {
        newer = newer;
        few = few;
        fits = omega (arith, weighs, small);
        items = items;
        means = law.means;
        short = short;
      })

-- what a batch leaves is told by what it makes of the document
pub leaves_same : (units : ℕ → ℕ) (table : List DocumentItem) (uri : List ℕ) (version : ℤ)
    (batch other : List ContentChange)
    (entry : DocumentItem) → entry_at table uri ≡ Some entry → changed units entry version batch
    ≡ changed units entry version other
    → after_change units table uri version batch ≡ after_change units table uri version other
leaves_same units [] uri version batch other entry found same = refl
leaves_same units (first ∷ table) uri version batch other entry found same =
    grind (arith, common_steps, bytes_eq, cases_Bool, (leaves_same units table uri version batch other entry))

-- ---- the canonical message

module _ (limits : LimitsData) (encoding : Encoding) (table : List DocumentItem) (uri : List ℕ) (version : ℤ)
    (entry : DocumentItem) (is_open : entry_at table uri ≡ Some entry)
    (laws : (batch : List ContentChange) (items : List Item) → meaning (units_in encoding)
    (chars entry.text) batch ≡ Ok items
    → IsCanonical (units_in encoding) (chars entry.text) batch items) where
  abbrev units : ℕ → ℕ
  units = units_in encoding

  abbrev text : List ℕ
  text = chars entry.text

  pub batch_at : (batch : List ContentChange) (items : List Item) → meaning units text batch ≡ Ok items
      → canonical_batch units table uri batch ≡ canonical units text items
  batch_at batch items means = rw (is_open, means) refl

  module _ (batch : List ContentChange) (may : entry_refusal limits units entry version batch ≡ None) where
    pub accepts : Accepts limits units entry version batch
    accepts = accepted_parts limits units entry version batch may

    law : IsCanonical units text batch accepts.items
    law = laws batch accepts.items accepts.means

    abbrev settled : List ContentChange
    settled = canonical units text accepts.items

    pub settled_may : length (bytes_left entry.text accepts.items) ≤ 1073741824
        → entry_refusal limits units entry version settled ≡ None
    settled_may small = canonical_accepted limits units entry version batch accepts.items law accepts.newer
        (omega (arith, law.few, accepts.few)) accepts.short small

    settled_batch : canonical_batch units table uri settled ≡ canonical_batch units table uri batch
    settled_batch = batch_at settled accepts.items law.means ∙ sym (batch_at batch accepts.items accepts.means)

    pub settled_leaves : after_change units table uri version settled ≡ after_change units table uri version batch
    settled_leaves = leaves_same units table uri version settled batch entry is_open
        (rw (law.means, accepts.means) refl)

    refusal_at : change_refusal limits units table uri version settled
        ≡ entry_refusal limits units entry version settled
    refusal_at = rw is_open refl

    pub settles : length (bytes_left entry.text accepts.items) ≤ 1073741824
        → body_refusal limits (canonical_body units table uri version batch) ≡ None
        → IsCanonicalOf limits units table uri version batch (canonical_batch units table uri batch)
    settles small within =
        rw (batch_at batch accepts.items accepts.means) (record {
          accepted = rw (refusal_at, settled_may small)
              (ap (λ (b : List ContentChange). body_refusal limits (change_body uri version b)) settled_batch ∙ within);
          leaves = settled_leaves;
          same_frame = ap (λ (b : List ContentChange). frame (change_body uri version b)) settled_batch;
        })

  -- ---- of messages that the types hold

  module _ (uri_utf8 : IsUtf8 uri) (version_fits : FitsSigned w32 version) (text_utf8 : IsUtf8 entry.text)
      (text_short : length entry.text ≤ 1073741824)
      (unique : (m n : OutgoingData) → IsProper m → IsProper n → body_of m ≡ body_of n → m ≡ n) where
    pub proper : (batch : List ContentChange) (items : List Item) → AreTexts batch → meaning units text batch ≡ Ok items
        → IsProper (change_message uri version (canonical units text items))
    proper batch items texts means = record {
      uri = uri_utf8;
      version = version_fits;
      changes =
          canonical_proper units (units_few encoding) text
          (omega (arith, bytes_sum text, ap length (encodes-chars entry.text text_utf8), text_short)) items
          (laws batch items means).ends
          (canonical_texts units text batch items (laws batch items means) (scalars-chars entry.text text_utf8) texts
          means);
    }

    one_batch : (batch other : List ContentChange) → IsProper (change_message uri version batch)
        → IsProper (change_message uri version other) → change_body uri version batch ≡ change_body uri version other
        → batch ≡ other
    unfolding change_body
    one_batch batch other p q e =
        let same : change_message uri version batch ≡ change_message uri version other = unique _ _ p q e in
        let params : changed_to uri version batch ≡ changed_to uri version other = cc in
        written_one batch other (ap (λ (d : ChangeData). d.changes) params)

    pub exactly_alike : (batch other : List ContentChange) → AreTexts batch → AreTexts other
        → entry_refusal limits units entry version batch ≡ None → entry_refusal limits units entry version other ≡ None
        → length (canonical_frame units table uri version batch) < 2 ^ 64
        → (canonical_frame units table uri version batch ≡ canonical_frame units table uri version other)
        ↔ DoAlike units table uri batch other
    exactly_alike batch other texts others may also small = (forth, back)
      where
        a : Accepts limits units entry version batch
        a = accepted_parts limits units entry version batch may

        b : Accepts limits units entry version other
        b = accepted_parts limits units entry version other also

        forth : canonical_frame units table uri version batch ≡ canonical_frame units table uri version other
            → DoAlike units table uri batch other
        forth e =
            let bodies : canonical_body units table uri version batch ≡ canonical_body units table uri version other =
            frame_one _ _ small e in
            let same : canonical units text a.items ≡ canonical units text b.items =
            one_batch _ _ (proper batch a.items texts a.means) (proper other b.items others b.means)
            (rw (batch_at batch a.items a.means, batch_at other b.items b.means) at bodies) in
            record {
              entry = entry;
              is_open = is_open;
              items = a.items;
              others = b.items;
              means = a.means;
              other_means = b.means;
              same = ((laws batch a.items a.means).exactly other b.items b.means).0 same;
            }

        back : DoAlike units table uri batch other
            → canonical_frame units table uri version batch ≡ canonical_frame units table uri version other
        back alike =
            let at : alike.entry ≡ entry = (let f : Some alike.entry ≡ Some entry = sym alike.is_open ∙ is_open in
            cc) in
            let means : meaning units text batch ≡ Ok alike.items = rw at at alike.means in
            let other_means : meaning units text other ≡ Ok alike.others = rw at at alike.other_means in
            let same = ((laws batch alike.items means).exactly other alike.others other_means).1 alike.same in
            ap (λ (x : List ContentChange). frame (change_body uri version x)) (batch_at batch alike.items means
            ∙ (same ∙ sym (batch_at other alike.others other_means)))

    pub is_read : (batch : List ContentChange) → AreTexts batch → entry_refusal limits units entry version batch ≡ None
        → ((m : OutgoingData) → IsProper m → IsReadAsSent m) → ((m : OutgoingData) → IsProper m → IsReadBack m)
        → IsReadAgain uri version (canonical_batch units table uri batch)
    unfolding change_body
    is_read batch texts may read_as read_back =
        let a = accepted_parts limits units entry version batch may in
        let p = proper batch a.items texts a.means in
        let m : OutgoingData = change_message uri version (canonical units text a.items) in
        let changes = map written_content_change (canonical units text a.items) in
        rw (batch_at batch a.items a.means) (record {
          params = change_params (record { uri = uri; version = version; changes = changes });
          as_sent = read_as m p;
          back = read_back m p;
        })
