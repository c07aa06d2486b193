-- Lists of bytes, cut at the first that isn't of a kind.
use Rattle.lsp_frame.proofs.Prelude.{◌≡◌, ℕ, List, [], ◌∷◌, ◌++◌, refl, subst, AllByRecursion}

-- Two lists that go up to the first element that isn't P are one.
pub same_front : (P : ℕ → Type 0) (xs ys us vs : List ℕ) (x y : ℕ) → AllByRecursion P xs → AllByRecursion P ys
    → (P x → ⊥) → (P y → ⊥) → xs ++ (x ∷ us) ≡ ys ++ (y ∷ vs) → (xs ≡ ys) × (x ≡ y) × (us ≡ vs)
same_front P [] [] us vs x y a b nx ny e = let h : x ≡ y = cc in let t : us ≡ vs = cc in (refl, h, t)
same_front P [] (z ∷ ys) us vs x y a b nx ny e = let h : z ≡ x = cc in absurd (nx (subst P h b.0))
same_front P (z ∷ xs) [] us vs x y a b nx ny e = let h : z ≡ y = cc in absurd (ny (subst P h a.0))
same_front P (z ∷ xs) (w ∷ ys) us vs x y a b nx ny e =
    let h : z ≡ w = cc in
    let t : xs ++ (x ∷ us) ≡ ys ++ (y ∷ vs) = cc in
    let i = same_front P xs ys us vs x y a.1 b.1 nx ny t in
    let e0 : xs ≡ ys = i.0 in
    let r : z ∷ xs ≡ w ∷ ys = cc in
    (r, i.1, i.2)

pub All_push : (P : ℕ → Type 0) (xs : List ℕ) (x : ℕ) → AllByRecursion P xs → P x → AllByRecursion P (xs ++ x ∷ [])
All_push P [] x a p = (p, tt)
All_push P (y ∷ xs) x a p = (a.0, All_push P xs x a.1 p)
