-- Pieces of text one after another.
use Rattle.std.proofs.Common.{◌≡◌, ◌<◌, ℕ, ◌+◌, List, [], ◌∷◌, ◌++◌, map, length, get_or, drop, Bor, ap, sym, ◌∙◌, append_assoc, add-one}
use Rattle.std.proofs.Math.Seq.{drop-cons}
use Rattle.std.specs.List.{concat}

abbrev pub Pieces : Type 0
Pieces = List (Bor (List ℕ))

abbrev pub texts : Pieces → List ℕ
texts pieces = concat (map (λ piece. piece.now) pieces)

abbrev no_piece : Bor (List ℕ)
no_piece = record { ref_ptr = (0, 0); now = [] }

first_and_rest : (pieces : Pieces) (index : ℕ) → index < length pieces
    → drop index pieces ≡ get_or pieces index no_piece ∷ drop (index + 1) pieces
first_and_rest pieces index within = rw add-one (drop-cons pieces index no_piece within)

pub one_more : (pieces : Pieces) (index : ℕ) (text piece : List ℕ) → index < length pieces
    → piece ≡ (get_or pieces index no_piece).now → text ++ texts (drop index pieces) ≡ texts pieces
    → (text ++ piece) ++ texts (drop (index + 1) pieces) ≡ texts pieces
one_more pieces index text piece within is rest =
    let after = texts (drop (index + 1) pieces) in
    append_assoc text piece after ∙ ap (λ z. text ++ (z ++ after)) is
    ∙ sym (ap (λ z. text ++ texts z) (first_and_rest pieces index within)) ∙ rest

-- The line of a fault: its text has a number or a place at its end.
pub fault_pieces : (start text number end whole : List ℕ) → whole ≡ text ++ number
    → start ++ (text ++ (number ++ end)) ≡ start ++ (whole ++ end)
fault_pieces start text number end whole is =
    ap (λ z. start ++ z) (sym (append_assoc text number end) ∙ ap (λ z. z ++ end) (sym is))
