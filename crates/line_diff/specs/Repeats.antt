-- Numbers of which many that follow each other are the same, as repeats.
use Rattle.std.specs.Prelude.{ℕ, replicate, List, [], ◌∷◌, ◌++◌}
use Rattle.line_diff.specs.declared.repeats.Repeat.{Repeat}
use Rattle.line_diff.specs.declared.repeats.Row.{Row}

-- The numbers of a repeat.
abbrev pub numbers_of : Repeat → List ℕ
numbers_of repeat = repeat.number ∷ replicate repeat.more repeat.number

-- Those of several repeats.
abbrev pub numbers_in : List Repeat → List ℕ
numbers_in [] = []
numbers_in (repeat ∷ repeats) = numbers_of repeat ++ numbers_in repeats

-- The same, if the last repeat is the first.
abbrev pub stacked : List Repeat → List ℕ
stacked [] = []
stacked (repeat ∷ repeats) = stacked repeats ++ numbers_of repeat

-- The numbers of a row.
abbrev pub row_numbers : Row → List ℕ
row_numbers row = replicate row.count row.number ++ numbers_in row.later.now
