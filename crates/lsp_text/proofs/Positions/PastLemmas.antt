-- Positions past the end of a line's content, and past the last line.
use Rattle.lsp_text.proofs.Prelude.{◌≡◌, ℕ, ◌≤◌, ◌<◌, List, length, Some, refl, lt-ltb, le-ltb, le-leb, Position, line_ends, line_start, line_stop, units_between, denoted}

pub past_line : (units : ℕ → ℕ) (text : List ℕ) (p : Position) → p.line ≤ line_ends text
    → units_between units text (line_start text p.line) (line_stop text p.line) ≤ p.character → denoted units text p
    ≡ Some (line_stop text p.line)
past_line units text p there past =
    rw (
      le-ltb (line_ends text) p.line there,
      le-leb (units_between units text (line_start text p.line) (line_stop text p.line)) p.character past,
    ) refl

pub past_text : (units : ℕ → ℕ) (text : List ℕ) (p : Position) → line_ends text < p.line → denoted units text p
    ≡ Some (length text)
past_text units text p past = rw (lt-ltb (line_ends text) p.line past) refl
