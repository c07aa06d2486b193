-- A whole frame that is fed is buffered whole.
use Rattle.lsp_pair.proofs.Prelude.{ℕ, ◌≡◌, get_or, ◌≤◌, ◌<◌, List, [], ◌∷◌, length, take, drop, sym, ap, subst, arith, ⊎_elim, cases_lt, take-append-drop, length-drop, IsFrameOf, IsFrame, one_frame_law, take_all}

-- the first of a queue, and what is after it
pub first_out : {X : Type 0} (items rest : List X) (first : X) → 0 < length items → first ≡ get_or items 0 first
    → rest ≡ drop 1 items → items ≡ first ∷ rest
first_out [] rest first some is after = absurd (omega arith)
first_out (x ∷ xs) rest first some is after = λ i. sym is i ∷ sym after i

pub whole_taken : (max_body : ℕ) (bytes : List ℕ) (k : ℕ) → IsFrame max_body bytes → k ≤ length bytes
    → (k < length bytes → IsFrame max_body (take k bytes)) → take k bytes ≡ bytes
whole_taken max_body bytes k whole within stops =
    ⊎_elim
    (λ (less : k < length bytes).
    let front : IsFrame max_body (take k bytes) = stops less in
    let nothing : drop k bytes ≡ [] =
    (one_frame_law max_body (take k bytes) (drop k bytes) front.body whole.body front.is_frame_of
    (subst (λ (b : List ℕ). IsFrameOf max_body b whole.body) (sym (take-append-drop k bytes)) whole.is_frame_of)).0 in
    absurd (omega (arith, less, length-drop k bytes, ap length nothing)))
    (λ (all : length bytes ≤ k). take_all k bytes all)
    (cases_lt k (length bytes))
