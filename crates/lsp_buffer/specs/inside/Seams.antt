-- Positions at the seams between blocks.
use Rattle.std.specs.Prelude.{ℕ, ◌≡◌, ◌+◌, ◌-◌, ◌<◌, ◌≤◌, ◌⊎◌}
use Rattle.lsp_text.specs.declared.position.Position.{Position}
use Rattle.lsp_buffer.specs.Blocks.{carried}

-- A position is in this line after `head` units of it, or later.
abbrev pub IsAtOrAfter : ℕ → ℕ → Position → Type 0
IsAtOrAfter line head p = (line < p.line) ⊎ ((p.line ≡ line) × (head ≤ p.character))

-- A position is before the one in this line after `head` units of it.
abbrev pub IsBefore : ℕ → ℕ → Position → Type 0
IsBefore line head p = (p.line < line) ⊎ ((p.line ≡ line) × (p.character < head))

-- A position of a whole text, as it is counted from a block on that begins in this line, after
-- `head` units of it.
abbrev pub position_after : ℕ → ℕ → Position → Position
position_after line head p =
    record { line = p.line - line; character = p.character - carried (p.line - line) head }

-- A position that is counted from a block on, as one of the whole text. The block begins in this
-- line, after `head` units of it.
abbrev pub position_from : ℕ → ℕ → Position → Position
position_from line head p =
    record { line = line + p.line; character = carried p.line head + p.character }
