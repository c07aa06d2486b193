-- Parts over the text of other parts, told over what those are over.
use Rattle.lsp_edit.proofs.Prelude.{ℕ, suc, ◌≡◌, ◌+◌, ◌-◌, ◌≤◌, List, [], ◌∷◌, ◌++◌, length, map, take, sym, ap, ap₂, ◌∙◌, subst, arith, append_assoc, append-nil, IsCharBoundary, chars, IsUtf8, cases_lt, map-append, length-drop, drop-map, place_of, numbers_from, place_add, Item, Old, New, character_of, text_of, item_through, then_items, Keeps, Part, OldPart, NewPart, index_of, items_in, items_of, IsPartOf, AreParts, Ascend, back_parts, put_parts, through_part, put_through, through_parts, IsThrough, AreThrough, common_steps, AreKept, IsCharBoundary-start}
use Rattle.lsp_edit.proofs.Batches.ComposeLemmas.{told_row, told_new, then_keeps}
use Rattle.lsp_edit.proofs.Parts.CutLemmas.{text_long}
use Rattle.lsp_edit.proofs.Parts.CutPartsLemmas.{AreCutAt, cut_parts}
use Rattle.lsp_edit.proofs.Parts.IndexLemmas.{index_rises, indexes_less, index_first, old_row, index_place}
use Rattle.lsp_edit.proofs.Canonical.KeepsLemmas.{row_rest}
use Rattle.lsp_edit.proofs.Parts.PutLemmas.{put_all_items}

module _ (old mid : List ℕ) (old_utf8 : IsUtf8 old) (mid_utf8 : IsUtf8 mid) (first : List Part)
    (are : AreParts old first) (over : chars mid ≡ text_of (chars old) (items_of (chars old) first)) where
  -- What a part of the middle text is over the old text, and that the first parts may be cut there.
  pub record IsTold (part : Part) : Type 0 where
    pub items : items_of (chars old) (through_part first part) ≡ then_items (items_of (chars old) first)
        (items_in (chars mid) part)
    pub parts : AreParts old (through_part first part)
    pub cut : IsThrough first part

  told_part : (part : Part) → IsPartOf mid part → IsTold part
  told_part (NewPart bytes) is = record {
    items = append-nil (map New (chars bytes)) ∙ sym (told_new (items_of (chars old) first) (chars bytes));
    parts = (is, tt);
    cut = tt;
  }
  told_part (OldPart from to) is =
      let a = index_place mid mid_utf8 from is.1 in
      let b = index_place mid mid_utf8 to is.2 in
      let low : ℕ = index_of (chars mid) from in
      let count : ℕ = index_of (chars mid) to - low in
      let items : List Item = items_of (chars old) first in
      let text : List ℕ = text_of (chars old) items in
      let order = index_rises (chars mid) from to (omega (arith, is.0)) in
      let long : length (chars mid) ≡ length items = ap length over ∙ text_long old old_utf8 items in
      let start : place_of text low ≡ from = ap (λ (t : List ℕ). place_of t low) (sym over) ∙ a.0 in
      let cut_a : AreCutAt old old_utf8 first low from =
      subst (AreCutAt old old_utf8 first low) start
      (cut_parts old old_utf8 first low are (omega (arith, a.1, long))) in
      let rest : List Part = back_parts first from in
      let there : low + count ≡ index_of (chars mid) to = omega arith in
      let rest_text = ap (text_of (chars old)) cut_a.back ∙ sym (drop-map (character_of (chars old)) low items) in
      let stop : place_of text (low + count) ≡ to = ap₂ (λ (t : List ℕ) (k : ℕ). place_of t k) (sym over) there ∙ b.0 in
      let span : place_of (text_of (chars old) (items_of (chars old) rest)) count ≡ to - from =
      ap (λ (t : List ℕ). place_of t count) rest_text ∙ omega (arith, place_add text low count, stop, start) in
      let fits : count ≤ length (items_of (chars old) rest) =
      omega (arith, ap length cut_a.back, length-drop low items, b.1, long, there) in
      let cut_b : AreCutAt old old_utf8 rest count (to - from) =
      subst (AreCutAt old old_utf8 rest count) span (cut_parts old old_utf8 rest count cut_a.back_are fits) in
      record {
        items = cut_b.front ∙ (ap (take count) cut_a.back
            ∙ sym (told_row items low count (omega (arith, b.1, long, there))));
        parts = cut_b.front_are;
        cut = (omega (arith, is.0), cut_a.cut, cut_b.cut);
      }

  told_all : (made second : List Part) → AreParts old made → AreParts mid second
      → (items_of (chars old) (put_through first made second) ≡ items_of (chars old) made ++ then_items
      (items_of (chars old) first) (items_of (chars mid) second)) × AreParts old (put_through first made second)
  told_all made [] are_made are_second = (sym (append-nil (items_of (chars old) made)), are_made)
  told_all made (part ∷ second) are_made are_second =
      let items : List Item = items_of (chars old) first in
      let p : IsTold part = told_part part are_second.0 in
      let q = put_all_items old made (through_part first part) are_made p.parts in
      let r = told_all (put_parts made (through_part first part)) second q.1 are_second.1 in
      let split = map-append (item_through items) (items_in (chars mid) part) (items_of (chars mid) second) in (
        grind (arith, common_steps, append_assoc),
        r.1,
      )

  -- What the parts told through the first stand for.
  pub through_items : (second : List Part) → AreParts mid second
      → (items_of (chars old) (through_parts first second) ≡ then_items (items_of (chars old) first)
      (items_of (chars mid) second)) × AreParts old (through_parts first second)
  through_items second are_second = told_all [] second tt are_second

  pub are_through : (second : List Part) → AreParts mid second → AreThrough first second
  are_through [] are_second = tt
  are_through (part ∷ second) are_second = ((told_part part are_second.0).cut, are_through second are_second.1)

-- Parts that keep a text's characters in order have their places in order.
module _ (mid : List ℕ) (utf8 : IsUtf8 mid) where
  places_rise : (low high : ℕ) → IsCharBoundary mid low → IsCharBoundary mid high → index_of (chars mid) low
      ≤ index_of (chars mid) high → low ≤ high
  places_rise low high at_low at_high rise = grind (arith, common_steps, indexes_less, cases_lt)

  pub ascending : (low : ℕ) (parts : List Part) → IsCharBoundary mid low → AreParts mid parts
      → Keeps (chars mid) (index_of (chars mid) low) (items_of (chars mid) parts) → Ascend low parts
  ascending low [] at_low are keeps = tt
  ascending low (NewPart bytes ∷ parts) at_low are keeps =
      ascending low parts at_low are.1 (new_left (chars bytes) keeps)
    where
      new_left : (characters : List ℕ) → Keeps (chars mid) (index_of (chars mid) low)
          (map New characters ++ items_of (chars mid) parts) → Keeps (chars mid) (index_of (chars mid) low)
          (items_of (chars mid) parts)
      new_left [] k = k
      new_left (c ∷ characters) k = new_left characters k.1
  ascending low (OldPart from to ∷ parts) at_low are keeps =
      let row = old_row mid utf8 from to are.0 in
      let k : Keeps (chars mid) (index_of (chars mid) low) (Old (index_of (chars mid) from)
      ∷ (map Old (numbers_from (suc (index_of (chars mid) from)) row.count) ++ items_of (chars mid) parts))
      = subst (λ (i : List Item). Keeps (chars mid) (index_of (chars mid) low) (i ++ items_of (chars mid) parts))
      row.items keeps in (
        places_rise low from at_low are.0.1 k.0,
        omega (arith, are.0.0),
        ascending to parts are.0.2 are.1 (subst (λ (n : ℕ). Keeps (chars mid) n (items_of (chars mid) parts)) row.last
            (row_rest (chars mid) (suc (index_of (chars mid) from)) row.count (items_of (chars mid) parts) k.3)),
      )

pub kept_order : {text : List ℕ} {parts : List Part} → AreKept text parts → Ascend 0 parts
kept_order {text} {parts} k =
    ascending text k.utf8 0 parts (IsCharBoundary-start text k.utf8) k.are
    (subst (λ (n : ℕ). Keeps (chars text) n (items_of (chars text) parts)) (sym (index_first (chars text))) k.keeps)

-- Parts `second` of the text that `first` leaves, told through `first`.
pub record AreComposed (old mid : List ℕ) (first second : List Part) : Type 0 where
  pub through : AreThrough first second
  pub order : Ascend 0 second
  pub items : items_of (chars old) (through_parts first second) ≡ then_items (items_of (chars old) first)
      (items_of (chars mid) second)
  pub kept : AreKept old (through_parts first second)

pub composed : {old mid : List ℕ} {first second : List Part} → AreKept old first → AreKept mid second
    → chars mid ≡ text_of (chars old) (items_of (chars old) first) → AreComposed old mid first second
composed {old} {mid} {first} {second} a b over =
    let told = through_items old mid a.utf8 b.utf8 first a.are over second b.are in
    record {
      through = are_through old mid a.utf8 b.utf8 first a.are over second b.are;
      order = kept_order b;
      items = told.0;
      kept = record {
        utf8 = a.utf8;
        are = told.1;
        keeps = subst (Keeps (chars old) 0) (sym told.0)
            (then_keeps (λ c. 1) (λ c. omega arith) (chars old) (items_of (chars old) first)
            (items_of (chars mid) second) a.keeps
            (subst (λ (t : List ℕ). Keeps t 0 (items_of (chars mid) second)) over b.keeps));
      };
    }
