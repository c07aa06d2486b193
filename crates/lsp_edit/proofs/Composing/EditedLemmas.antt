-- The fields of pieces: what they are at first, and what they tell.
use Rattle.lsp_edit.proofs.Prelude.{ℕ, ◌≡◌, ◌-◌, ◌≤◌, List, length, sym, ap, ap₂, ◌∙◌, subst, arith, append-nil, take_all, encode_utf8_all, ⊎_elim, chars, IsUtf8, nil_from_length, encodes-chars, is_utf8-from_IsUtf8, IsUtf8-from_is_utf8, chars-nil, chars_from_encodes, IsCharBoundary-start, IsCharBoundary-end, place_end, plain, text_of, Part, index_of, items_of, bytes_of, AreParts, NoneTouch, Keeps, ArePieces, PlainData, edited_text, edited_bytes, common_steps, cases_lt, le-ltb, lt-ltb, old_parts, ◌<◌, []}
use Rattle.lsp_edit.proofs.Canonical.KeepsLemmas.{plain_keeps}
use Rattle.lsp_edit.proofs.Canonical.RebuiltLemmas.{text_row}
use Rattle.lsp_edit.proofs.Parts.IndexLemmas.{index_of-place, index_first}
use Rattle.lsp_edit.proofs.Parts.CutPartsLemmas.{parts_bytes}
use Rattle.lsp_edit.proofs.Composing.AppliedLemmas.{seen}

pub index_last : (bytes : List ℕ) → IsUtf8 bytes → index_of (chars bytes) (length bytes) ≡ length (chars bytes)
index_last bytes utf8 =
    let e = place_end (chars bytes) ∙ ap length (encodes-chars bytes utf8) in
    ap (index_of (chars bytes)) (sym e) ∙ index_of-place (chars bytes) (length (chars bytes)) (omega arith)

pub plain_text : (text : List ℕ) → text_of text (plain text) ≡ text
plain_text text = text_row text 0 (length text) (omega arith) ∙ take_all (length text) text (omega arith)

-- The parts of a text before any change: itself, if it isn't empty.
pub record IsWhole (before : List ℕ) (parts : List Part) : Type 0 where
  pub are : AreParts before parts
  pub apart : NoneTouch parts
  pub items : items_of (chars before) parts ≡ plain (chars before)
  pub few : length parts ≤ 1

whole_none : (before : List ℕ) → length before ≡ 0 → IsWhole before []
whole_none before none = grind (arith, common_steps, nil_from_length, chars-nil)

pub whole_is : (before : List ℕ) → IsUtf8 before → IsWhole before (old_parts 0 (length before))
whole_is before utf8 =
    ⊎_elim
    (λ (some : 0 < length before).
    let n : length (chars before) - 0 ≡ length (chars before) = omega arith in
    rw (lt-ltb 0 (length before) some) (record {
      are = ((some, IsCharBoundary-start before utf8, IsCharBoundary-end before), tt);
      apart = (tt, tt);
      items = grind (arith, common_steps, append-nil, ap₂, index_first, index_last);
      few = omega arith;
    }))
    (λ (none : length before ≤ 0). rw (le-ltb 0 (length before) none) (whole_none before (omega arith)))
    (cases_lt 0 (length before))

-- What the fields are at first.
pub begun : (before : List ℕ) (parts : List Part) → IsUtf8 before → length before ≤ 2147483648 → IsWhole before parts
    → ArePieces before parts (length before) 0
begun before parts utf8 size whole = record {
  utf8 = is_utf8-from_IsUtf8 before utf8;
  are = whole.are;
  apart = whole.apart;
  keeps = subst (Keeps (chars before) 0) (sym whole.items) (plain_keeps (chars before));
  long = grind (arith, common_steps, parts_bytes, encode_utf8_all, plain_text, encodes-chars);
  room = size;
  few = omega (arith, whole.few);
  fresh = λ e. whole.items;
}

-- The bytes of the text as it is now are those of its parts.
pub now_bytes : (before : List ℕ) (parts : List Part) (len changes : ℕ) → ArePieces before parts len changes
    → encode_utf8_all (text_of (chars before) (items_of (chars before) parts)) ≡ bytes_of before parts
now_bytes before parts len changes are = sym (parts_bytes before (IsUtf8-from_is_utf8 before are.utf8) parts are.are)

pub bytes_seen : {before : List ℕ} {parts : List Part} {len changes : ℕ} {edited : PlainData}
    → ArePieces before parts len changes → seen before parts changes ≡ edited → edited_bytes edited
    ≡ bytes_of before parts
bytes_seen {before} {parts} {len} {changes} are view =
    sym (ap edited_bytes view) ∙ now_bytes before parts len changes are

-- The text before any change.
pub fresh_chars : (before : List ℕ) (parts : List Part) (len changes : ℕ) → ArePieces before parts len changes → changes
    ≡ 0 → chars before ≡ text_of (chars before) (items_of (chars before) parts)
fresh_chars before parts len changes are none =
    sym (ap (text_of (chars before)) (are.fresh none) ∙ plain_text (chars before))

-- The bytes of a text before any change.
pub first_bytes : (before : List ℕ) (edited : PlainData) → IsUtf8 before → edited ≡ record {
  before = chars before;
  items = plain (chars before);
  changes = 0;
} → length (edited_bytes edited) ≡ length before
first_bytes before edited utf8 is = ap (λ (e : PlainData). length (edited_bytes e)) is
    ∙ ap length (ap encode_utf8_all (plain_text (chars before)) ∙ encodes-chars before utf8)

-- A text with these bytes is the text as it is now.
pub edited_chars : (edited : PlainData) (bytes : List ℕ) → IsUtf8 bytes → bytes ≡ edited_bytes edited → chars bytes
    ≡ edited_text edited
edited_chars edited bytes utf8 is = sym (chars_from_encodes (edited_text edited) bytes utf8 (sym is))
