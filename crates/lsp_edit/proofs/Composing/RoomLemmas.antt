-- How long a text gets by a batch: each change adds its own text at most.
use Rattle.lsp_edit.proofs.Prelude.{ℕ, suc, ◌≡◌, ◌+◌, ◌<◌, ◌≤◌, List, ◌∷◌, ◌++◌, length, map, take, drop, sym, ap, ◌∙◌, arith, encode_utf8_all, Result, Ok, sum_by, string_len, string_bytes, chars, length-append, sum_by-cons, encodes-append, encodes-chars, IsUtf8-string_bytes, Change, Item, text_of, ContentChange, Fault, items_after, after_changes, continue_with, Applied, PlainData, content_change, edited_bytes, common_steps, IsUtf8, meaning, plain, split_between}
use Rattle.lsp_edit.proofs.Batches.BatchLemmas.{by_range}
use Rattle.lsp_edit.proofs.Parts.CutLemmas.{text_of-new}
use Rattle.lsp_edit.proofs.Composing.AppliedLemmas.{text_put}
use Rattle.lsp_edit.proofs.Composing.EditedLemmas.{first_bytes}

replaced_longer : (text characters : List ℕ) (a b : ℕ) → a ≤ b
    → length (encode_utf8_all (take a text ++ (characters ++ drop b text))) ≤ length (encode_utf8_all text)
    + length (encode_utf8_all characters)
replaced_longer text characters a b order =
    let e = ap (λ (cs : List ℕ). length (encode_utf8_all cs)) (split_between text a b order) in
    simp (encodes-append, length-append) (omega (arith, simp (encodes-append, length-append) at e))

pub change_longer : (units : ℕ → ℕ) (old : List ℕ) (items next : List Item) (change : ContentChange)
    → items_after units old items change ≡ Ok next → length (encode_utf8_all (text_of old next))
    ≤ length (encode_utf8_all (text_of old items)) + length (encode_utf8_all change.text)
change_longer units old items next change is =
    by_range units old (λ (made : List Item). length (encode_utf8_all (text_of old made))
    ≤ length (encode_utf8_all (text_of old items)) + length (encode_utf8_all change.text)) items next change is
    (omega (arith, ap (λ (cs : List ℕ). length (encode_utf8_all cs)) (text_of-new old change.text)))
    (λ a b low high order. grind (
      arith,
      common_steps,
      encode_utf8_all,
      replaced_longer,
      (text_put old items change.text a b),
    ))

-- the texts of changes, in bytes
abbrev pub texts_len : List Change → ℕ
texts_len changes = sum_by (λ change. string_len change.text) changes

-- How far a batch was applied: what is left gives its meaning, and there is room for it.
pub record Applying (units : ℕ → ℕ) (before : List ℕ) (meant : Result (List Item) (ℕ × Fault)) (done : ℕ)
    (rest : List Change) (edited : PlainData) : Type 0 where
  pub left : after_changes units before edited.changes edited.items (map content_change rest) ≡ meant
  pub same : edited.before ≡ before
  pub counted : edited.changes ≡ done
  pub room : length (edited_bytes edited) + texts_len rest ≤ 2147483648

module _ (units : ℕ → ℕ) (before : List ℕ) (meant : Result (List Item) (ℕ × Fault)) (done : ℕ) (change : Change)
    (rest more : List Change) (edited : PlainData) (is : rest ≡ change ∷ more)
    (applying : Applying units before meant done rest edited) where
  left_here : continue_with (λ next. after_changes units before (suc edited.changes) next (map content_change more))
      edited.changes (items_after units before edited.items (content_change change)) ≡ meant
  left_here = rw is at applying.left

  pub applying_on : (next : PlainData) → done < 18446744073709551615 → Applied units edited (content_change change) next
      → Applying units before meant (done + 1) more next
  applying_on next small applied =
      let made = ap (λ (b : List ℕ). items_after units b edited.items (content_change change)) (sym applying.same)
      ∙ applied.changed in
      let l : after_changes units before (suc edited.changes) next.items (map content_change more) ≡ meant =
      rw made at left_here in
      let n : next.changes ≡ suc edited.changes = applied.counted ∙ omega (arith, applying.counted) in
      let longer = change_longer units edited.before edited.items next.items (content_change change) applied.changed in
      let own = ap length (encodes-chars (string_bytes change.text) (IsUtf8-string_bytes change.text))
      ∙ sym change.text.bytes.ok.0 in
      record {
        left = ap (λ (m : ℕ). after_changes units before m next.items (map content_change more)) n ∙ l;
        same = applied.same ∙ applying.same;
        counted = omega (arith, n, applying.counted);
        room = grind (arith, common_steps, sum_by-cons, string_len, encode_utf8_all);
      }

pub applying_begins : (units : ℕ → ℕ) (before : List ℕ) (changes : List Change) (edited : PlainData) → IsUtf8 before
    → edited ≡ record { before = chars before; items = plain (chars before); changes = 0 } → length before ≤ 1073741824
    → sum_by (λ change. string_len change.text) changes ≤ 1073741824
    → Applying units (chars before) (meaning units (chars before) (map content_change changes)) 0 changes edited
applying_begins units before changes edited utf8 is size fits = record {
  left = ap (λ (e : PlainData). after_changes units (chars before) e.changes e.items (map content_change changes)) is;
  same = ap (λ (e : PlainData). e.before) is;
  counted = ap (λ (e : PlainData). e.changes) is;
  room = omega (arith, first_bytes before edited utf8 is);
}
