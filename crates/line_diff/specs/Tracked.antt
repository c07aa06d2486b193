-- Which change made each byte of a text.
use Rattle.std.specs.Prelude.{ℕ, replicate, List}
use Rattle.line_diff.specs.Owners.{all_spliced, with_places}
use Rattle.line_diff.specs.declared.owners.Splice.{Splice}

-- What is known of a text after several numbered changes.
pub record Tracked : Type 0 where
  -- the number of the last change
  pub made : ℕ
  -- in the order of the text: of each place, before a byte or at the end, the number of the last
  -- change there, and of each byte that of the change that made it
  pub numbers : List ℕ

-- Of a text of so many bytes that a change has made whole.
abbrev pub opened_by : ℕ → ℕ → Tracked
opened_by number len = record { made = number; numbers = replicate (with_places len) number }

-- Of a text that a change has made of the one before, by these splices.
abbrev pub changed_by : ℕ → List Splice → Tracked → Tracked
changed_by number splices t =
    record { made = number; numbers = all_spliced number splices t.numbers }
