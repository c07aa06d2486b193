-- Starts moved in place.
use Rattle.lsp_text.proofs.Prelude.{◌≡◌, ℕ, ◌+◌, ◌-◌, ◌≤◌, ◌<◌, List, ◌++◌, length, map, take, drop, get_or, set, refl, sym, ap, ◌∙◌, arith, length-map, length-take-le, length-append, length-drop, get_or-append_right, get_or_default, set-append_right, map-id, common_steps}
use Rattle.std.proofs.lemmas.List.Edits.{map_over_more}
use Rattle.std.specs.declared.vec.IntoIter.{IntoIter}
use Rattle.std.specs.Vec.Iter.{into_iter_items, into_iter_len, into_iter_steps}
use Rattle.std.specs.Iterator.{Drains}
use Rattle.std.proofs.lemmas.Iterator.{items_from_drains}
use Rattle.std.proofs.lemmas.Iterator.Adapters.{YieldsList-from_vec}

-- the starts with those from index `first` up to `index` moved
abbrev pub shifted : ℕ → ℕ → ℕ → ℕ → List ℕ → List ℕ
shifted to end first index old =
    take first old ++ (map (λ start. start - to + end) (take (index - first) (drop first old)) ++ drop (index - first)
    (drop first old))

pub shifted_more : (to end first index : ℕ) (old now : List ℕ) → first ≤ index → index < length old
    → now ≡ shifted to end first index old →
    set now index (get_or now index 0 - to + end) ≡ shifted to end first (index + 1) old
shifted_more to end first index old now order within is =
    let f = λ (start : ℕ). start - to + end in
    let rest = drop first old in
    let m = index - first in
    let moved = map f (take m rest) ++ drop m rest in
    let size : length (take first old) ≡ first = length-take-le first old (omega arith) in
    let inside : m < length rest = omega (arith, length-drop first old) in
    let whole : length moved ≡ length rest =
    grind (arith, common_steps, length-append, length-map, length-take-le, length-drop) in
    let at : get_or now index 0 ≡ get_or moved m 0 =
    ap (λ xs. get_or xs index 0) is ∙ get_or-append_right (take first old) moved first index 0 size order in
    let x = get_or now index 0 in
    let next : m + 1 ≡ index + 1 - first = omega arith in
    ap (λ xs. set xs index (f x)) is ∙
    (set-append_right (take first old) moved first index (f x) size order ∙
    (ap (λ ys. take first old ++ ys)
    (map_over_more f rest moved m x inside refl (at ∙ get_or_default moved m 0 x (omega (arith, whole)))) ∙
    ap (λ n. take first old ++ (map f (take n rest) ++ drop n rest)) next))

-- What a `Vec` gave, item by item, is what it held.
pub drained_is : {Z : Type 0} (s : IntoIter ℕ Z) (xs fresh : List ℕ) → into_iter_items s ≡ fresh → into_iter_len s
    ≡ length fresh → Drains (into_iter_steps {X = ℕ} {Z = Z}) s xs → xs ≡ fresh
drained_is {Z} s xs fresh items len drains =
    sym (map-id xs) ∙ items_from_drains {v = λ (x : ℕ). x} xs (drains.1.0, drains.1.1, λ _. (drains.0, drains.1.2))
    (YieldsList-from_vec fresh items len)
