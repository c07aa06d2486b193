-- By which of several numbered changes a line differs from another one.
use Rattle.std.specs.Prelude.{ℕ, zero, suc, ◌+◌, ◌-◌, ◌*◌, ◌==◌, ◌||◌, nat_lt, max, min, if◌then◌else◌, length, drop, take, slice_get, List, [], ◌∷◌, ◌++◌}
use Rattle.std.specs.List.{list_any}
use Rattle.std.specs.Option.{unwrap_or}
use Rattle.line_diff.specs.Common.{common_back, common_front}

-- A number, or 0.
abbrev pub number_at : List ℕ → ℕ → ℕ
number_at numbers index = unwrap_or (slice_get numbers index) 0

-- The greater of a number and another one, which doesn't count if it is named.
abbrev pub greater : List ℕ → ℕ → ℕ → ℕ
greater named most number =
    if list_any (λ one. one == number) named then most else max number most

-- The greatest of a number and of others that aren't named.
abbrev pub greatest : List ℕ → ℕ → List ℕ → ℕ
greatest named most [] = most
greatest named most (number ∷ numbers) = greatest named (greater named most number) numbers

-- The first and each second one after it, so many or all.
abbrev pub seconds : ℕ → List ℕ → List ℕ
seconds zero numbers = []
seconds (suc count) [] = []
seconds (suc count) (number ∷ numbers) = number ∷ seconds count (drop 1 numbers)

-- Numbers and one more, unless it is among them or 9 are there.
abbrev pub with_number : List ℕ → ℕ → List ℕ
with_number found number = if nat_lt 8 (length found) || list_any (λ one. one == number) found
    then found else found ++ number ∷ []

abbrev pub with_numbers : List ℕ → List ℕ → List ℕ
with_numbers found [] = found
with_numbers found (number ∷ numbers) = with_numbers (with_number found number) numbers

-- The changes that made some bytes and places: the first 9, and the last that isn't one of the first 8.
pub record MakerNumbers : Type 0 where
  pub named : List ℕ
  pub last : ℕ

-- The last change that isn't named.
abbrev pub last_beside : List ℕ → List ℕ → List ℕ → List ℕ → ℕ
last_beside named owners places start =
    greatest named (greatest named (greatest named 0 owners) places) start

abbrev pub makers_named : List ℕ → List ℕ → List ℕ → List ℕ → MakerNumbers
makers_named found owners places start =
    record { named = found; last = last_beside (take 8 found) owners places start }

abbrev pub makers_in : List ℕ → List ℕ → List ℕ → MakerNumbers
makers_in owners places start =
    makers_named (with_numbers (with_numbers (with_numbers [] owners) places) start) owners places start

-- ---- the numbers of a text's or a line's places and bytes, in their order: the place before the
-- first byte, that byte, the place after it ..

-- The numbers of so many bytes from an index on.
abbrev pub owners_from : ℕ → ℕ → List ℕ → List ℕ
owners_from start count row = seconds count (drop 1 (drop (2 * start) row))

-- Those of so many places.
abbrev pub places_from : ℕ → ℕ → List ℕ → List ℕ
places_from start count row = seconds count (drop (2 * start) row)

-- The last change at a line's start, if it is later than the first byte: lines may have gone there.
abbrev pub gone_before : List ℕ → List ℕ
gone_before row = if nat_lt (number_at row 1) (number_at row 0) then take 1 row else []

-- The changes by which a line differs from another one, without what is equal at the front and at
-- the back. What differs may begin earlier: of letters that are alike, any may be the one too many.
abbrev pub makers_between : ℕ → ℕ → ℕ → List ℕ → MakerNumbers
makers_between low front end row =
    makers_in (owners_from front (end - front) row) (places_from low (end - low + 1) row)
    (gone_before row)

-- `row` begins at the line's start.
abbrev pub makers_of : List ℕ → List ℕ → List ℕ → MakerNumbers
makers_of row line other =
    makers_between
    (min (common_front line other) (length line - common_back 0 line other))
    (common_front line other)
    (length line - common_back (common_front line other) line other) row

-- ---- in a text with several lines

-- The numbers from each line's start on, and from the end of the last line on.
abbrev pub rows_of : List ℕ → List (List ℕ) → List (List ℕ)
rows_of numbers [] = numbers ∷ []
rows_of numbers (line ∷ lines) = numbers ∷ rows_of (drop (2 * length line) numbers) lines

-- A row, or an empty one.
abbrev pub row_at : List (List ℕ) → ℕ → List ℕ
row_at rows index = unwrap_or (slice_get rows index) []
