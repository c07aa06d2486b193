-- Laws over positions. `units` says how many units a character has.
use Rattle.std.specs.Prelude.{◌≡◌, ◌≤◌, ◌<◌}
use Rattle.lsp_text.specs.Prelude.{ℕ, false, List, length, take, Some, Position}
use Rattle.std.specs.Ordering.{nat_cmp, on, then_cmp}
use Rattle.lsp_text.specs.contracts.position.PositionOrd.TheImpl as position_ord
use Rattle.lsp_text.specs.Text.{place_of}
use Rattle.lsp_text.specs.TextLines.{splits_crlf, line_at, line_ends, line_start, line_stop}
use Rattle.lsp_text.specs.LineStarts.{start_places}
use Rattle.lsp_text.specs.Starts.{IsLineOf}
use Rattle.lsp_text.specs.Units.{units_between}
use Rattle.lsp_text.specs.Positions.{exact_position, denoted}

-- An exact position denotes its index, if each character has at least one unit.
abbrev pub DenotesLaw : Type 0
DenotesLaw =
    (units : ℕ → ℕ) → ((c : ℕ) → 1 ≤ units c) → (text : List ℕ) (k : ℕ) →
    k ≤ length text → splits_crlf text k ≡ false →
    denoted units text (exact_position units text k) ≡ Some k

-- What a position denotes is an index of the text that splits no CRLF.
abbrev pub WholeLaw : Type 0
WholeLaw =
    (units : ℕ → ℕ) (text : List ℕ) (p : Position) (k : ℕ) →
    denoted units text p ≡ Some k → (k ≤ length text) × (splits_crlf text k ≡ false)

-- An exact position depends only on the characters before it.
abbrev pub NearLaw : Type 0
NearLaw =
    (units : ℕ → ℕ) (text other : List ℕ) (k : ℕ) →
    take k text ≡ take k other → k ≤ length text → k ≤ length other → splits_crlf text k ≡ false →
    splits_crlf other k ≡ false →
    exact_position units text k ≡ exact_position units other k

-- An exact position belongs to one index, if each character has at least one unit.
abbrev pub AloneLaw : Type 0
AloneLaw =
    (units : ℕ → ℕ) → ((c : ℕ) → 1 ≤ units c) → (text : List ℕ) (j k : ℕ) →
    j ≤ length text → splits_crlf text j ≡ false → k ≤ length text → splits_crlf text k ≡ false →
    exact_position units text j ≡ exact_position units text k → j ≡ k

-- A position that isn't past an end is the exact position of what it denotes: nothing is rounded.
abbrev pub ExactLaw : Type 0
ExactLaw =
    (units : ℕ → ℕ) (text : List ℕ) (p : Position) (k : ℕ) →
    p.line ≤ line_ends text →
    p.character ≤ units_between units text (line_start text p.line) (line_stop text p.line) →
    denoted units text p ≡ Some k → exact_position units text k ≡ p

-- A position past a line's content denotes its end.
abbrev pub PastLineLaw : Type 0
PastLineLaw =
    (units : ℕ → ℕ) (text : List ℕ) (p : Position) →
    p.line ≤ line_ends text →
    units_between units text (line_start text p.line) (line_stop text p.line) ≤ p.character →
    denoted units text p ≡ Some (line_stop text p.line)

-- A position past the last line denotes the end of the text.
abbrev pub PastTextLaw : Type 0
PastTextLaw = (units : ℕ → ℕ) (text : List ℕ) (p : Position) → line_ends text < p.line →
    denoted units text p ≡ Some (length text)

-- `Ord` compares lines, then characters.
abbrev pub OrderLaw : Type 0
OrderLaw = (first second : Position) → (position_ord.ghosts).cmp first second
    ≡ then_cmp (on (λ p. p.line) nat_cmp) (on (λ p. p.character) nat_cmp) first second

-- The line that is found among the byte offsets of the line starts is the line of the index.
abbrev pub FoundLaw : Type 0
FoundLaw =
    (text : List ℕ) (k line : ℕ) → k ≤ length text →
    IsLineOf (start_places text) (place_of text k) line → line ≡ line_at text k
