-- How a document's text and a file differ, in words.
use Rattle.std.specs.Prelude.{ℕ, zero, suc, ◌+◌, ◌-◌, ◌*◌, Bool, true, false, nat_lt, ◌==◌, if◌then◌else◌, length, take, slice_get, List, [], ◌∷◌, ◌++◌, codes, decimal, flat_map}
use Rattle.std.specs.Option.{unwrap_or}
use Rattle.std.specs.Str.{bytes_eq, chars}
use Rattle.line_diff.specs.declared.hunks.Hunk.{Hunk}
use Rattle.line_diff.specs.Alike.{are_alike, first_end, has_last_end, has_mark, have_same_ends, have_same_marks}
use Rattle.line_diff.specs.Common.{common_front}
use Rattle.line_diff.specs.Hunks.{hunks_of}
use Rattle.line_diff.specs.Lines.{lines_of}
use Rattle.line_diff.specs.Makers.{MakerNumbers, makers_of, number_at, row_at, rows_of}
use Rattle.line_diff.specs.Shown.{shown_around}
use Rattle.line_diff.specs.Tracked.{Tracked}

-- ---- line by line

-- A line, or nothing.
abbrev pub text_at : List (List ℕ) → ℕ → List ℕ
text_at lines index = unwrap_or (slice_get lines index) []

-- The words for `count` lines from an index on.
abbrev pub words_from : (ℕ → List ℕ) → ℕ → ℕ → List ℕ
words_from words zero from = []
words_from words (suc count) from = words from ++ words_from words count (suc from)

-- A later one of several numbers.
abbrev pub later_number : ℕ → List ℕ
later_number number = codes ", " ++ decimal number

-- Several numbers.
abbrev pub number_words : List ℕ → List ℕ
number_words [] = []
number_words (number ∷ numbers) = decimal number ++ flat_map later_number numbers

-- The last one, where not all are named.
unfoldable pub last_maker_words : Bool → ℕ → List ℕ
last_maker_words are_more last = if are_more then codes " and others up to " ++ decimal last else []

-- By which changes a line differs. 8 are named.
unfoldable pub maker_words : MakerNumbers → List ℕ
maker_words makers =
    (if length makers.named == 1 then codes " (made by message " else codes " (made by messages ")
    ++ number_words (take 8 makers.named)
    ++ last_maker_words (nat_lt 8 (length makers.named)) makers.last
    ++ codes ")"

-- How many characters are equal from the first on.
abbrev pub shared : List ℕ → List ℕ → ℕ
shared line other = common_front (chars line) (chars other)

-- A line that the document alone has, with its number from 1, beside the file's in its place.
abbrev pub own_line : ℕ → MakerNumbers → List ℕ → List ℕ → List ℕ
own_line number makers line other =
    codes "line " ++ decimal number ++ maker_words makers ++ codes ": "
    ++ shown_around (shared line other) (chars line) ++ codes "\n"

-- The line of the file in the place of a line of a hunk, or nothing where it has fewer.
abbrev pub other_for : List (List ℕ) → Hunk → ℕ → List ℕ
other_for others hunk index = if nat_lt (index - hunk.start) (hunk.other_end - hunk.other_start)
    then text_at others (hunk.other_start + (index - hunk.start)) else []

-- The lines of a document's text, with the changes that made them, and those of a file.
pub record SideLines : Type 0 where
  pub rows : List (List ℕ)
  pub lines : List (List ℕ)
  pub others : List (List ℕ)

-- A line of a hunk, with the changes by which it differs from the file's in its place.
abbrev pub own_line_at : SideLines → Hunk → ℕ → List ℕ
own_line_at sides hunk index =
    let line = text_at sides.lines index in
    own_line (index + 1)
    (makers_of (row_at sides.rows index) line (other_for sides.others hunk index)) line
    (other_for sides.others hunk index)

-- The document's line in the place of the file's.
abbrev pub own_for : List (List ℕ) → Hunk → ℕ → List ℕ
own_for lines hunk index = if nat_lt (index - hunk.other_start) (hunk.end - hunk.start)
    then text_at lines (hunk.start + (index - hunk.other_start)) else []

-- From which character on, counted from 1, the file's line differs, if so many before it are equal.
abbrev pub file_words : ℕ → List ℕ
file_words equal = if equal == 0 then codes "  the file has: "
    else codes "  the file, which differs from character " ++ decimal (equal + 1) ++ codes " on, has: "

-- A line that the file alone has, beside the document's in its place.
abbrev pub file_line : List ℕ → List ℕ → List ℕ
file_line line own =
    file_words (shared line own) ++ shown_around (shared line own) (chars line) ++ codes "\n"

abbrev pub file_line_at : SideLines → Hunk → ℕ → List ℕ
file_line_at sides hunk index =
    file_line (text_at sides.others index) (own_for sides.lines hunk index)

-- Where lines of the file are missing: after so many lines, with the last change at that place.
abbrev pub missing_words : ℕ → ℕ → List ℕ
missing_words count last =
    codes "after line " ++ decimal count ++ codes " (made by message " ++ decimal last
    ++ codes "):\n"

-- The lines of a hunk, or where they are missing.
abbrev pub hunk_head : SideLines → Hunk → List ℕ
hunk_head sides hunk = if hunk.start == hunk.end
    then missing_words hunk.start (number_at (row_at sides.rows hunk.start) 0)
    else words_from (own_line_at sides hunk) (hunk.end - hunk.start) hunk.start

-- A place at which the texts differ.
unfoldable pub hunk_words : SideLines → Hunk → List ℕ
hunk_words sides hunk =
    hunk_head sides hunk
    ++ words_from (file_line_at sides hunk) (hunk.other_end - hunk.other_start) hunk.other_start

-- What follows.
abbrev pub last_words : List ℕ
last_words = codes "For each line, a message named is wrong, a later one is missing or wrong, or an earlier mistake led it to the wrong line. Look at the lowest numbers after the opening first.\n"

-- How they differ, line by line. Lines that agree are sought where fewer than 2,000 of each text come
-- before them.
unfoldable pub difference_words : List ℕ → List (List ℕ) → List (List ℕ) → List ℕ
difference_words numbers lines others =
    let rows = rows_of numbers lines in
    let sides : SideLines = record { rows = rows; lines = lines; others = others } in
    codes "not the file's:\n" ++ flat_map (hunk_words sides) (hunks_of 2000 lines others)
    ++ last_words

-- ---- texts that are alike

-- What one of both has alone.
abbrev pub alone_words : List ℕ → Bool → Bool → List ℕ
alone_words what true false = what ++ codes ", which the document alone has\n"
alone_words what false true = what ++ codes ", which the file alone has\n"
alone_words what text file = []

-- Line ends, unless they are the same; and by which change the first one differs, if nothing else
-- does before it.
unfoldable pub ends_words : Bool → Bool → ℕ → List ℕ
ends_words same known last = if same then []
    else codes "  line ends"
    ++ (if known then codes ", the first of them made by message " ++ decimal last else [])
    ++ codes "\n"

-- In what a document's text and a file differ that are alike, a line for each.
unfoldable pub alike_words : List ℕ → List ℕ → List ℕ → List ℕ
alike_words text numbers file =
    codes "the file's, but for\n"
    ++ ends_words (have_same_ends text file) (have_same_marks text file)
    (number_at numbers (2 * first_end text file + 1))
    ++ alone_words (codes "  the last line end") (has_last_end text) (has_last_end file)
    ++ alone_words (codes "  a byte order mark") (has_mark text) (has_mark file)

-- ---- all of it

-- Whether the document's text is the file's, and else how they differ.
unfoldable pub judgement : List ℕ → List ℕ → List ℕ → List ℕ
judgement text numbers file =
    if bytes_eq text file then codes "the file's\n"
    else if are_alike text file then alike_words text numbers file
    else difference_words numbers (lines_of text) (lines_of file)

unfoldable pub report_words : Tracked → List ℕ → List ℕ → List ℕ
report_words t text file =
    codes "after message " ++ decimal t.made ++ codes ": the text is " ++ judgement text t.numbers file
