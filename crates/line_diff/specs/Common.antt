-- What is common to two texts: lines, and bytes at the front and at the back.
use Rattle.std.specs.Prelude.{ℕ, zero, suc, ◌-◌, ◌==◌, min, Bool, false, not, if◌then◌else◌, length, slice_index, List, Option, Some}
use Rattle.std.specs.Str.{bytes_eq}

-- Are two lines there, and equal?
abbrev pub are_equal : Option (List ℕ) → Option (List ℕ) → Bool
are_equal (Some line) (Some other) = bytes_eq line other
are_equal line other = false

-- The first of `count` numbers from `from` on with a property, or the one after them.
abbrev pub first_with : (ℕ → Bool) → ℕ → ℕ → ℕ
first_with property zero from = from
first_with property (suc count) from =
    if property from then from else first_with property count (suc from)

-- Have two texts other bytes at an index?
abbrev pub differ_at : List ℕ → List ℕ → ℕ → Bool
differ_at text other k = not (slice_index text k == slice_index other k)

-- The same, counted from the last byte back.
abbrev pub differ_back_at : List ℕ → List ℕ → ℕ → Bool
differ_back_at text other k =
    not (slice_index text (length text - 1 - k) == slice_index other (length other - 1 - k))

-- How many bytes are equal from the first on.
abbrev pub common_front : List ℕ → List ℕ → ℕ
common_front text other = first_with (differ_at text other) (min (length text) (length other)) 0

-- How many bytes are equal from the last back, if so many from the first on don't count.
abbrev pub common_back : ℕ → List ℕ → List ℕ → ℕ
common_back front text other =
    first_with (differ_back_at text other) (min (length text) (length other) - front) 0
