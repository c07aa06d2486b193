-- Which of several numbered changes made each byte of a text so, and which was the last at each place
-- between two bytes, after parts of it were replaced.
use Rattle.std.specs.Prelude.{ℕ, ◌+◌, ◌-◌, ◌*◌, length, drop, take, replicate, List, [], ◌∷◌, ◌++◌}
use Rattle.line_diff.specs.Common.{common_back, common_front}
use Rattle.line_diff.specs.declared.owners.Splice.{Splice}

-- By what a text differs from the one before it, but for what is common at the front and at the back.
abbrev pub splice_between : List ℕ → List ℕ → Splice
splice_between before text = record {
  start = common_front before text;
  end = length before - common_back (common_front before text) before text;
  len = length text - (common_front before text + common_back (common_front before text) before text);
}

-- So many bytes, and the places before each and at the end.
abbrev pub with_places : ℕ → ℕ
with_places len = 2 * len + 1

-- The numbers of a text's places and bytes, in their order, after a part was replaced by bytes of
-- this number; those around it stay. The places at both ends of the part are replaced too.
abbrev pub spliced : ℕ → Splice → List ℕ → List ℕ
spliced number splice numbers =
    take (2 * splice.start) numbers ++ replicate (with_places splice.len) number
    ++ drop (with_places (splice.end - splice.start)) (drop (2 * splice.start) numbers)

-- The same after several parts, each of the text that the one before it leaves.
abbrev pub all_spliced : ℕ → List Splice → List ℕ → List ℕ
all_spliced number [] numbers = numbers
all_spliced number (splice ∷ splices) numbers =
    all_spliced number splices (spliced number splice numbers)
