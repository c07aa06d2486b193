-- What is left of a list in a walk over it, and what callers see of pieces.
use Rattle.std.proofs.Common.{ℕ, ◌≡◌, ◌+◌, ◌-◌, ◌<◌, ◌≤◌, List, [], ◌∷◌, ◌++◌, length, map, take, drop, get_or, sym, ap, ◌∙◌, arith, drop-drop, take-append-drop}
use Rattle.std.proofs.lemmas.List.{drop_more, drop_all}
use Rattle.lsp_edit.specs.Edited.{PiecesData}

pub next_is : {X : Type 0} (xs : List X) (i : ℕ) (x : X) → i < length xs → x ≡ get_or xs i x
    → drop i xs ≡ x ∷ drop (i + 1) xs
next_is xs i x within is = drop_more xs i x within ∙ ap (λ y. y ∷ drop (i + 1) xs) (sym is)

-- The same of what is seen of each element.
pub rest_is : {X Y : Type 0} (f : X → Y) (xs : List X) (i : ℕ) (x : X) (y : Y) → i < length xs → f (get_or xs i x) ≡ y
    → map f (drop i xs) ≡ y ∷ map f (drop (i + 1) xs)
rest_is f xs i x y within is = ap (map f) (drop_more xs i x within) ∙ ap (λ z. z ∷ map f (drop (i + 1) xs)) is

pub rest_none : {X Y : Type 0} (f : X → Y) (xs : List X) (i : ℕ) → length xs ≤ i → map f (drop i xs) ≡ []
rest_none f xs i past = ap (map f) (drop_all i xs past)

-- A list in three parts, at two indexes in order.
pub split_between : {X : Type 0} (xs : List X) (a b : ℕ) → a ≤ b → take a xs ++ (take (b - a) (drop a xs) ++ drop b xs)
    ≡ xs
split_between {X} xs a b order =
    let e : a + (b - a) ≡ b = omega arith in
    let back : drop (b - a) (drop a xs) ≡ drop b xs = drop-drop (b - a) a xs ∙ ap (λ (n : ℕ). drop n xs) e in
    ap (λ (r : List X). take a xs ++ r)
    (ap (λ (r : List X). take (b - a) (drop a xs) ++ r) (sym back) ∙ take-append-drop (b - a) (drop a xs))
    ∙ take-append-drop a xs

-- What callers see of pieces, without the parts.
pub same_edited : {spanned other : PiecesData} → spanned ≡ other → spanned.edited ≡ other.edited
same_edited same = ap (λ (s : PiecesData). s.edited) same
