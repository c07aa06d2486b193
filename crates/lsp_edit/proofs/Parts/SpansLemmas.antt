-- Spans with some of their bytes replaced, in place.
use Rattle.lsp_edit.proofs.Prelude.{ℕ, ◌≡◌, ◌+◌, ◌-◌, ◌≤◌, List, [], ◌∷◌, ◌++◌, length, take, drop, min, drop-drop, sym, ap, ap₂, ◌∙◌, arith, cases_lt, drop_all, drop-map, map-append, map-id, Span, Part, part_of, parts_of, new_parts, front_parts, first_front, put_first_back, replaced_parts, ArePassed, EndAfter, common_steps}
use Rattle.std.specs.declared.vec.IntoIter.{IntoIter}
use Rattle.std.specs.Vec.Iter.{into_iter_items, into_iter_len, into_iter_steps}
use Rattle.std.specs.Iterator.{Drains}
use Rattle.std.proofs.lemmas.Iterator.{items_from_drains}
use Rattle.std.proofs.lemmas.Iterator.Adapters.{YieldsList-from_vec}
use Rattle.lsp_edit.proofs.Parts.PassedLemmas.{replaced_is}

-- What a `Vec` gave, item by item, is what it held.
pub drained_is : {Z : Type 0} (s : IntoIter Span Z) (xs fresh : List Span) → into_iter_items s ≡ fresh → into_iter_len s
    ≡ length fresh → Drains (into_iter_steps {X = Span} {Z = Z}) s xs → xs ≡ fresh
drained_is {Z} s xs fresh items len drains =
    sym (map-id xs) ∙ items_from_drains {v = λ (x : Span). x} xs (drains.1.0, drains.1.1, λ _. (drains.0, drains.1.2))
    (YieldsList-from_vec fresh items len)

-- The spans behind the last one that was cut, or none.
spans_behind : (rest : List Span) (last : ℕ) → parts_of (drop (min (length rest) (last + 1)) rest)
    ≡ drop 1 (parts_of (drop last rest))
spans_behind rest last =
    let most : drop (min (length rest) (last + 1)) rest ≡ drop (last + 1) rest
    = grind (arith, common_steps, min, drop_all, cases_lt) in
    let one : drop 1 (drop last rest) ≡ drop (last + 1) rest = drop-drop 1 last rest in
    ap parts_of (most ∙ sym one) ∙ sym (drop-map part_of 1 (drop last rest))

none_after : (rest : List Span) (last : ℕ) → parts_of rest ≡ [] → parts_of (drop last rest) ≡ []
none_after [] last none = ap parts_of (drop_all last [] (omega arith))
none_after (span ∷ rest) last none = absurd (cc)

pub replaced_spans : (old now made : List Span) (first last passed more start stop past : ℕ) (text : List ℕ)
    → start ≤ stop → now ≡ take first old ++ (made ++ drop past old) → past ≡ first + min (length (drop first old))
    (last + 1) → ArePassed (parts_of old) (parts_of (drop first old)) passed start
    → front_parts (parts_of old) start ≡ parts_of (take first old) ++ first_front (parts_of (drop first old))
    (start - passed) → (start - passed ≡ 0 → first ≡ 0)
    → ArePassed (parts_of (drop first old)) (parts_of (drop last (drop first old))) more (stop - passed)
    → EndAfter (parts_of (drop last (drop first old))) ((stop - passed) - more)
    → parts_of made ≡ put_first_back (first_front (parts_of (drop first old)) (start - passed) ++ new_parts text)
    (parts_of (drop last (drop first old))) ((stop - passed) - more)
    → parts_of now ≡ replaced_parts (parts_of old) start stop text
replaced_spans old now made first last passed more start stop past text order now_is past_is ended front_is at_start
    were rest_after made_is =
    let rest : List Span = drop first old in
    let later : List Span = drop last rest in
    let tail : parts_of (drop past old) ≡ drop 1 (parts_of later) = ap (λ (n : ℕ). parts_of (drop n old)) past_is
    ∙ (ap parts_of (sym (drop-drop (min (length rest) (last + 1)) first old)) ∙ spans_behind rest last) in
    let all = ap parts_of now_is ∙ (map-append part_of (take first old) (made ++ drop past old)
    ∙ ap (λ (ps : List Part). parts_of (take first old) ++ ps) (map-append part_of made (drop past old))) in
    all
    ∙ (grind (arith, common_steps, ap₂, replaced_is, none_after))
