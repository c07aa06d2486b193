-- Layers that are joined, and how they are folded into one row.
use Rattle.lsp_edit.proofs.Prelude.{Result, Fault, IsOn, meant_by, ℕ, ◌≡◌, List, [], ◌∷◌, ◌++◌, length, map, sym, ap, ◌∙◌, subst, arith, nat_lt, Ok, chars, IsUtf8, cases_Bool, map-append, chars_from_encodes, Layer, Item, plain, text_of, ContentChange, meaning, then_items, AllOver, layer_parts, IsOver, items_over, IsLayer, bytes_left, text_within, IsJoined, IsReached, JoinedData, joined_text, Keeps, Part, items_of, through_parts, common_steps, AreKept, joined, old_parts}
use Rattle.lsp_edit.specs.declared.delta.Delta.{Delta}
use Rattle.lsp_edit.proofs.Batches.ComposeLemmas.{text_of-then}
use Rattle.lsp_edit.proofs.Parts.CutPartsLemmas.{parts_bytes, parts_utf8}
use Rattle.lsp_edit.proofs.Composing.EditedLemmas.{plain_text, whole_is}
use Rattle.lsp_edit.proofs.Canonical.KeepsLemmas.{plain_keeps}
use Rattle.lsp_edit.proofs.Parts.ThroughLemmas.{AreComposed, composed}
use Rattle.lsp_edit.proofs.Deltas.DeltaLemmas.{delta_keeps}
use Rattle.lsp_edit.proofs.Deltas.OwnedLemmas.{items_over-append, all_both}

-- what callers see of the fields
abbrev pub joined_seen : List ℕ → List Layer → JoinedData
joined_seen before layers = record {
  before = before;
  items = items_over (chars before) (plain (chars before)) (map layer_parts layers);
}

-- ---- the text before any batch, and that which a batch leaves

pub first_reached : (before : List ℕ) (joined : JoinedData) → IsUtf8 before → joined ≡ record {
  before = before;
  items = plain (chars before);
} → IsReached joined before
first_reached before joined utf8 is = record {
  utf8 = utf8;
  text_is = sym (ap joined_text is ∙ plain_text (chars before));
}

within_is : (max_len : ℕ) (reached : List ℕ) (items : List Item) (left : List ℕ)
    → text_within max_len reached (Ok items) ≡ Ok left → bytes_left reached items ≡ left
within_is max_len reached items left is = grind (arith, common_steps, nat_lt, cases_Bool)

left_reached : (old new : JoinedData) (meant : Result (List Item) (ℕ × Fault)) (reached left : List ℕ) (max_len : ℕ)
    (parts : List Part) → IsReached old reached → IsLayer meant reached parts → new ≡ record old {
      items = then_items old.items (items_of (chars reached) parts);
    }
    → text_within max_len reached meant ≡ Ok left → IsReached new left
left_reached old new meant reached left max_len parts at is new_is within =
    let text : List ℕ = text_of (chars reached) (items_of (chars reached) parts) in
    let bytes = within_is max_len reached (items_of (chars reached) parts) left (rw is.means at within) in
    let utf8 : IsUtf8 left =
    subst IsUtf8 (parts_bytes reached is.utf8 parts is.are ∙ bytes) (parts_utf8 reached is.utf8 parts is.are) in
    record {
      utf8 = utf8;
      text_is = sym (chars_from_encodes text left utf8 bytes)
          ∙ (ap (λ (t : List ℕ). text_of t (items_of (chars reached) parts)) at.text_is
          ∙ (sym (text_of-then (chars old.before) old.items (items_of (chars reached) parts))
          ∙ sym (ap joined_text new_is)));
    }

-- ---- a batch more

module _ (before : List ℕ) (layers : List Layer)
    (all : AllOver (chars before) (plain (chars before)) (map layer_parts layers)) (old : JoinedData)
    (view : joined_seen before layers ≡ old)
    (reached : List ℕ) (at : IsReached old reached) (delta : Delta) (on : IsOn reached delta) (layer : Layer)
    (is : IsLayer (meant_by reached delta) reached (layer_parts layer))
    (now : List Layer) (now_is : now ≡ layers ++ layer ∷ []) where
  abbrev items_then : List Item
  items_then = items_over (chars before) (plain (chars before)) (map layer_parts layers)

  reached_then : chars reached ≡ text_of (chars before) items_then
  reached_then = at.text_is ∙ sym (ap joined_text view)

  more_over : IsOver (chars before) items_then (layer_parts layer)
  more_over = record {
    middle = reached;
    text_is = reached_then;
    kept = record {
      utf8 = at.utf8;
      are = is.are;
      keeps = delta_keeps reached delta (items_of (chars reached) (layer_parts layer)) on is.means;
    };
  }

  rows_more : map layer_parts now ≡ map layer_parts layers ++ layer_parts layer ∷ []
  rows_more = ap (map layer_parts) now_is ∙ map-append layer_parts layers (layer ∷ [])

  pub more_all : AllOver (chars before) (plain (chars before)) (map layer_parts now)
  more_all = grind (arith, common_steps, rows_more, all_both, more_over)

  more_items : items_over (chars before) (plain (chars before)) (map layer_parts now)
      ≡ then_items items_then (items_of (chars reached) (layer_parts layer))
  more_items = grind (arith, common_steps, rows_more, items_over-append, reached_then)

  more_is : joined_seen before now ≡ record old {
    items = then_items old.items (items_of (chars reached) (layer_parts layer));
  }
  more_is = λ i. record {
    before = (view i).before;
    items = (more_items ∙ ap (λ (o : JoinedData). then_items o.items (items_of (chars reached) (layer_parts layer)))
        view) i;
  }

  pub more_joined : (units : ℕ → ℕ) (batch : List ContentChange)
      → meaning units (chars reached) batch ≡ meant_by reached delta → IsJoined units old batch (joined_seen before now)
  more_joined units batch same = record {
    others = items_of (chars reached) (layer_parts layer);
    means = subst (λ (t : List ℕ). meaning units t batch ≡ Ok (items_of (chars reached) (layer_parts layer))) at.text_is
        (same ∙ is.means);
    is = more_is;
  }

  pub more_reached : (max_len : ℕ) (left : List ℕ) → text_within max_len reached (meant_by reached delta) ≡ Ok left
      → IsReached (joined_seen before now) left
  more_reached max_len left within =
      left_reached old (joined_seen before now) (meant_by reached delta) reached left max_len (layer_parts layer) at is
      more_is within

-- ---- all layers told over the text before them

-- Parts of the text, and rows that are still to be told through them.
pub record IsFolded (before : List ℕ) (parts : List Part) (rows : List (List Part)) (items : List Item) : Type 0 where
  pub kept : AreKept before parts
  pub all : AllOver (chars before) (items_of (chars before) parts) rows
  pub same : items_over (chars before) (items_of (chars before) parts) rows ≡ items

folded_first : (before : List ℕ) (rows : List (List Part)) → IsUtf8 before
    → AllOver (chars before) (plain (chars before)) rows
    → IsFolded before (old_parts 0 (length before)) rows (items_over (chars before) (plain (chars before)) rows)
folded_first before rows utf8 all =
    let whole = whole_is before utf8 in
    record {
      kept = record {
        utf8 = utf8;
        are = whole.are;
        keeps = subst (Keeps (chars before) 0) (sym whole.items) (plain_keeps (chars before));
      };
      all = subst (λ (i : List Item). AllOver (chars before) i rows) (sym whole.items) all;
      same = ap (λ (i : List Item). items_over (chars before) i rows) whole.items;
    }

pub folded_start : (text before : List ℕ) (layers : List Layer) (parts : List Part) (joined : JoinedData) → IsUtf8 text
    → text ≡ before → joined_seen before layers ≡ joined → AllOver (chars before) (plain (chars before))
    (map layer_parts layers)
    → parts ≡ old_parts 0 (length text) → IsFolded joined.before parts (map layer_parts layers) joined.items
folded_start text before layers parts joined utf8 same view all is =
    rw (is, same) (subst (λ (j : JoinedData). IsFolded j.before (old_parts 0 (length before)) (map layer_parts layers)
    j.items) view (folded_first before (map layer_parts layers) (subst IsUtf8 same utf8) all))

module _ (before : List ℕ) (parts row : List Part) (rows : List (List Part)) (items : List Item)
    (f : IsFolded before parts (row ∷ rows) items) where
  pub row_over : IsOver (chars before) (items_of (chars before) parts) row
  row_over = f.all.0

  pub folded_both : AreComposed before row_over.middle parts row
  folded_both = composed f.kept row_over.kept row_over.text_is

  pub folded_next : (made : List Part) → made ≡ through_parts parts row → IsFolded before made rows items
  folded_next made is =
      let e = folded_both.items ∙ ap (λ (t : List ℕ). then_items (items_of (chars before) parts) (items_of t row))
      row_over.text_is in
      rw is (record {
        kept = folded_both.kept;
        all = subst (λ (i : List Item). AllOver (chars before) i rows) (sym e) f.all.1;
        same = ap (λ (i : List Item). items_over (chars before) i rows) e ∙ f.same;
      })
