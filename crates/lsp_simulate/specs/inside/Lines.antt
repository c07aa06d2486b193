-- The lines of the input while they are taken.
use Rattle.std.specs.Prelude.{◌≡◌, ◌+◌, ◌-◌, ◌*◌, ◌∷◌, if◌then◌else◌}
use Rattle.lsp_simulate.specs.Prelude.{ℕ, Bool, true, false, List, [], take, drop, Option, None, Some, is_some, Vec, ⊤, prepend_known, ReaderState}
use Rattle.std.specs.declared.alloc.Global.{Global}
use Rattle.lsp_simulate.specs.declared.lines.InputLines.{InputLines}
use Rattle.lsp_simulate.specs.Session.{lines_from}

-- The bytes that were read and aren't taken yet.
abbrev pub unused : InputLines → List ℕ
unused lines =
    take (lines.piece.to - lines.piece.from) (drop lines.piece.from lines.piece.bytes)

-- The bytes that are still to be taken, where they are known.
abbrev pub rest : InputLines → ReaderState → Option (List ℕ)
rest lines reader = prepend_known (unused lines) reader.left

-- It falls with each line that is taken.
abbrev pub size : InputLines → ℕ
size lines = lines.turns.left * 8193 + (lines.piece.to - lines.piece.from)

-- Some bytes of a line are there.
abbrev pub is_begun : List ℕ → Bool
is_begun [] = false
is_begun (byte ∷ bytes) = true

-- How many lines that is.
abbrev pub lines_in : Option (Vec ℕ Global) → ℕ
lines_in line = if is_some line then 1 else 0

-- Between these bytes that are to be taken and those there are so many lines, and one that is begun
-- or none.
abbrev pub Passed : Option (List ℕ) → ℕ → Bool → Option (List ℕ) → Type 0
Passed None lines begun later = ⊤
Passed (Some bytes) lines begun None = ⊥
Passed (Some bytes) lines begun (Some later) =
    lines_from false bytes ≡ lines + lines_from begun later
