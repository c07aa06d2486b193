-- Spans that own their texts, and rows of them over one another.
use Rattle.lsp_edit.proofs.Prelude.{ℕ, ◌≡◌, ◌-◌, ◌≤◌, List, [], ◌∷◌, ◌++◌, length, map, take, slice_index_or as get_or, refl, sym, ap, ap₂, ◌∙◌, subst, arith, append_assoc, append-nil, Result, Ok, chars, IsUtf8, drop_more, drop_all, map-append, take-append-drop, flat_map-append, chars-append, IsUtf8-append, IsUtf8-from_is_utf8, is_utf8-from_IsUtf8, Layer, Item, New, text_of, Fault, then_items, AllOver, layer_parts, IsOver, items_over, owned_parts, AreSameItems, IsLayer, Keeps, Part, OldPart, NewPart, AreParts, Ascend, items_of, new_parts, AreThrough, through_parts, common_steps, rest_is}
use Rattle.lsp_edit.specs.declared.joined.layer.OwnedSpan.{OwnedSpan}
use Rattle.lsp_edit.specs.declared.joined.layer.OwnedSpan.TheVariants.{Old as OldSpan}
use Rattle.lsp_edit.proofs.Batches.ComposeLemmas.{text_of-then, then_associative}
use Rattle.lsp_edit.proofs.Parts.PutLemmas.{are_both, new_items}
use Rattle.lsp_edit.proofs.Parts.ThroughLemmas.{AreComposed, composed}

-- ---- parts of a text in two lists

pub are_split : (old : List ℕ) (parts more : List Part) → AreParts old (parts ++ more) → AreParts old parts
    × AreParts old more
are_split old [] more are = (tt, are)
are_split old (part ∷ parts) more are = let ih = are_split old parts more are.1 in ((are.0, ih.0), ih.1)

-- ---- texts that are copied, neighbours as one

pub same_old : (whole done : List Part) (text : List ℕ) (part : Part) (rest : List Part)
    → AreSameItems (done ++ (new_parts text ++ (part ∷ rest))) whole
    → AreSameItems (((done ++ new_parts text) ++ part ∷ []) ++ (new_parts [] ++ rest)) whole
same_old whole done text part rest same = grind (arith, common_steps, append_assoc)

pub same_old_on : (whole : List Part) (spans made : List OwnedSpan) (text filled : List ℕ) (from to : ℕ)
    (rest more : List Part) → AreSameItems (owned_parts spans ++ (new_parts text ++ rest)) whole
    → rest ≡ OldPart from to ∷ more → owned_parts made ≡ owned_parts spans ++ new_parts filled → filled ≡ text
    → AreSameItems (owned_parts (made ++ OldSpan from to ∷ []) ++ (new_parts [] ++ more)) whole
same_old_on whole spans made text filled from to rest more same rest_is made_is filled_is =
    grind (arith, common_steps, map-append, same_old)

pub same_new : (whole done : List Part) (text bytes : List ℕ) (rest : List Part) → IsUtf8 text
    → AreSameItems (done ++ (new_parts text ++ (NewPart bytes ∷ rest))) whole
    → AreSameItems (done ++ (new_parts (text ++ bytes) ++ rest)) whole
same_new whole done text bytes rest utf8 same old are =
    let before = same old are in
    let outer = are_split old done (new_parts text ++ (NewPart bytes ∷ rest)) before.0 in
    let inner = are_split old (new_parts text) (NewPart bytes ∷ rest) outer.1 in
    let bytes_utf8 : IsUtf8 bytes = IsUtf8-from_is_utf8 bytes inner.1.0.1 in
    let one = new_items old text (is_utf8-from_IsUtf8 text utf8) in
    let both =
    new_items old (text ++ bytes) (is_utf8-from_IsUtf8 (text ++ bytes) (IsUtf8-append text bytes utf8 bytes_utf8)) in
    let letters = ap (map New) (chars-append text bytes utf8) ∙ map-append New (chars text) (chars bytes) in
    let ends : items_of (chars old) (new_parts (text ++ bytes) ++ rest)
    ≡ items_of (chars old) (new_parts text ++ (NewPart bytes ∷ rest))
    = grind (arith, common_steps, flat_map-append, append_assoc) in (
      are_both old done (new_parts (text ++ bytes) ++ rest) outer.0 (are_both old (new_parts (text ++ bytes)) rest
          both.1 inner.1.1),
      grind (arith, common_steps, flat_map-append),
    )

pub same_ends : (whole done : List Part) (text : List ℕ) → AreSameItems (done ++ (new_parts text ++ [])) whole
    → AreSameItems (done ++ new_parts text) whole
same_ends whole done text same =
    subst (λ (ps : List Part). AreSameItems (done ++ ps) whole) (append-nil (new_parts text)) same

-- ---- what a batch makes of a text

pub layer_same : {meant : Result (List Item) (ℕ × Fault)} {reached : List ℕ} {parts : List Part} (owned : List Part)
    → IsLayer meant reached parts → AreSameItems owned parts → IsLayer meant reached owned
layer_same {meant} {reached} {parts} owned is same = record {
  utf8 = is.utf8;
  are = (same reached is.are).0;
  means = is.means ∙ ap (λ (i : List Item). Ok i) (sym (same reached is.are).1);
}

-- ---- rows over one another

pub items_over-append : (old : List ℕ) (items : List Item) (rows more : List (List Part))
    → items_over old items (rows ++ more) ≡ items_over old (items_over old items rows) more
items_over-append old items [] more = refl
items_over-append old items (parts ∷ rows) more =
    items_over-append old (then_items items (items_of (text_of old items) parts)) rows more

pub all_split : (old : List ℕ) (items : List Item) (rows more : List (List Part)) → AllOver old items (rows ++ more)
    → AllOver old items rows × AllOver old (items_over old items rows) more
all_split old items [] more all = (tt, all)
all_split old items (parts ∷ rows) more all =
    let next : List Item = then_items items (items_of (text_of old items) parts) in
    let ih : AllOver old next rows × AllOver old (items_over old next rows) more = all_split old next rows more all.1 in
    ((all.0, ih.0), ih.1)

pub all_both : (old : List ℕ) (items : List Item) (rows more : List (List Part)) → AllOver old items rows
    → AllOver old (items_over old items rows) more → AllOver old items (rows ++ more)
all_both old items [] more all others = others
all_both old items (parts ∷ rows) more all others =
    (all.0, all_both old (then_items items (items_of (text_of old items) parts)) rows more all.1 others)

-- parts `second` over the text that `first` leaves
module _ (old : List ℕ) (items : List Item) (first second : List Part) (a : IsOver old items first)
    (b : IsOver old (then_items items (items_of (text_of old items) first)) second) where
  pub over : AreComposed a.middle b.middle first second
  over = composed a.kept b.kept (b.text_is ∙ (text_of-then old items (items_of (text_of old items) first)
      ∙ ap (λ (t : List ℕ). text_of t (items_of t first)) (sym a.text_is)))

  module _ (both : List Part) (same : AreSameItems both (through_parts first second)) where
    both_items : items_of (chars a.middle) both ≡ then_items (items_of (chars a.middle) first)
        (items_of (chars b.middle) second)
    both_items = (same a.middle over.kept.are).1 ∙ over.items

    pub both_over : IsOver old items both
    both_over = record {
      middle = a.middle;
      text_is = a.text_is;
      kept = record {
        utf8 = over.kept.utf8;
        are = (same a.middle over.kept.are).0;
        keeps = subst (Keeps (chars a.middle) 0) (sym (same a.middle over.kept.are).1) over.kept.keeps;
      };
    }

    pub both_are : then_items items (items_of (text_of old items) both)
        ≡ then_items (then_items items (items_of (text_of old items) first))
        (items_of (text_of old (then_items items (items_of (text_of old items) first))) second)
    both_are =
        ap (then_items items) (ap (λ (t : List ℕ). items_of t both) (sym a.text_is)
        ∙ (both_items ∙ ap₂ (λ (t u : List ℕ). then_items (items_of t first) (items_of u second)) a.text_is b.text_is))
        ∙ sym (then_associative items (items_of (text_of old items) first)
        (items_of (text_of old (then_items items (items_of (text_of old items) first))) second))

-- ---- the last two layers become one

pub two_last : {X : Type 0} (xs : List X) (len : ℕ) (x y : X) → 2 ≤ len → length xs ≡ len → x ≡ get_or xs (len - 2) x
    → y ≡ get_or xs (len - 1) y → xs ≡ take (len - 2) xs ++ (x ∷ y ∷ [])
two_last xs len x y some long first second = grind (arith, common_steps, drop_more, drop_all, take-append-drop)

module _ (old : List ℕ) (items : List Item) (layers front : List Layer) (first second : Layer)
    (is : layers ≡ front ++ (first ∷ second ∷ [])) (all : AllOver old items (map layer_parts layers)) where
  pub rows : map layer_parts layers ≡ map layer_parts front ++ (layer_parts first ∷ layer_parts second ∷ [])
  rows = ap (map layer_parts) is ∙ map-append layer_parts front (first ∷ second ∷ [])

  abbrev below : List Item
  below = items_over old items (map layer_parts front)

  split : AllOver old items (map layer_parts front) × AllOver old below (layer_parts first ∷ layer_parts second ∷ [])
  split = all_split old items (map layer_parts front) (layer_parts first ∷ layer_parts second ∷ [])
      (subst (AllOver old items) rows all)

  pub last_through : AreThrough (layer_parts first) (layer_parts second) × Ascend 0 (layer_parts second)
  last_through =
      let both = over old below (layer_parts first) (layer_parts second) split.1.0 split.1.1.0 in
      (both.through, both.order)

  module _ (both : Layer)
      (same : AreSameItems (layer_parts both) (through_parts (layer_parts first) (layer_parts second)))
      (now : List Layer) (now_is : now ≡ front ++ both ∷ []) where
    rows_now : map layer_parts now ≡ map layer_parts front ++ layer_parts both ∷ []
    rows_now = ap (map layer_parts) now_is ∙ map-append layer_parts front (both ∷ [])

    pub last_all : AllOver old items (map layer_parts now)
    last_all =
        subst (AllOver old items) (sym rows_now)
        (all_both old items (map layer_parts front) (layer_parts both ∷ []) split.0 (
          both_over old below (layer_parts first) (layer_parts second) split.1.0 split.1.1.0 (layer_parts both) same,
          tt,
        ))

    pub last_same : items_over old items (map layer_parts now) ≡ items_over old items (map layer_parts layers)
    last_same =
        ap (items_over old items) rows_now
        ∙ (items_over-append old items (map layer_parts front) (layer_parts both ∷ [])
        ∙ (both_are old below (layer_parts first) (layer_parts second) split.1.0 split.1.1.0 (layer_parts both) same
        ∙ (sym (items_over-append old items (map layer_parts front) (layer_parts first ∷ layer_parts second ∷ []))
        ∙ ap (items_over old items) (sym rows))))

-- ---- a batch more
