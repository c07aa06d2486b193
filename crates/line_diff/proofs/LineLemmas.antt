-- A text, cut into lines by a loop over its bytes.
use Rattle.line_diff.proofs.Prelude.{◌≡◌, ℕ, suc, ◌+◌, ◌<◌, ◌≤◌, true, false, List, ◌∷◌, length, get_or, drop, refl, ◌∙◌, add-one, between, at_drop_more, ends_line, lines_begun}
use Rattle.std.proofs.lemmas.List.Edits.{between_more, between_none}

pub cut_passed : (text : List ℕ) (start i : ℕ) → start ≤ i → i < length text
    → ends_line (get_or text i 0) (drop (suc i) text) ≡ false
    → lines_begun (between start i text) (drop i text) ≡ lines_begun (between start (i + 1) text) (drop (i + 1) text)
cut_passed text start i order within missed =
    at_drop_more (lines_begun (between start i text)) text i 0 within
    ∙ rw (between_more text start i 0 order within, add-one, missed) refl

pub cut_ended : (text : List ℕ) (start i : ℕ) → start ≤ i → i < length text
    → ends_line (get_or text i 0) (drop (suc i) text) ≡ true → lines_begun (between start i text) (drop i text)
    ≡ between start (i + 1) text ∷ lines_begun (between (i + 1) (i + 1) text) (drop (i + 1) text)
cut_ended text start i order within hit =
    at_drop_more (lines_begun (between start i text)) text i 0 within
    ∙ rw (between_more text start i 0 order within, between_none text (i + 1), add-one, hit) refl
