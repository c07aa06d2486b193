-- A text without its line ends.
use Rattle.std.specs.Prelude.{◌||◌, ◌==◌, ◌∷◌, if◌then◌else◌}
use Rattle.log_session.specs.Prelude.{ℕ, List, []}

-- A body without line feeds and carriage returns. In JSON both are only white space between tokens,
-- so it is the same value, on one line.
abbrev pub one_line : List ℕ → List ℕ
one_line [] = []
one_line (byte ∷ bytes) = if byte == 10 || byte == 13 then one_line bytes else byte ∷ one_line bytes
