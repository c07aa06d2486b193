-- Lists of what was counted, in the order in which it came first.
use Rattle.std.specs.Prelude.{◌++◌, if◌then◌else◌, ◌∷◌}
use Rattle.log_report.specs.Prelude.{ℕ, Bool, true, false, List, [], Option, Some, None, codes, decimal, bytes_eq, one_more}

-- What was counted, how often it came, and the number of the first record with it.
pub record Tally : Type 0 where
  pub words : List ℕ
  pub count : ℕ
  pub first : ℕ

-- It came once more.
abbrev pub raised : Tally → Tally
raised t = record t { count = one_more t.count }

-- The same in a list, with the record of this number.
abbrev pub tallied : List ℕ → ℕ → List Tally → List Tally
tallied words number [] = record { words = words; count = 1; first = number } ∷ []
tallied words number (t ∷ ts) =
    if bytes_eq t.words words then raised t ∷ ts
    else t ∷ tallied words number ts

-- The same of what may not have come.
abbrev pub tallied_if : Option (List ℕ) → ℕ → List Tally → List Tally
tallied_if None number ts = ts
tallied_if (Some words) number ts = tallied words number ts

-- How often it came.
abbrev pub count_of : List ℕ → List Tally → ℕ
count_of words [] = 0
count_of words (t ∷ ts) = if bytes_eq t.words words then t.count else count_of words ts

-- Was anything counted?
abbrev pub has_tallies : List Tally → Bool
has_tallies [] = false
has_tallies (t ∷ ts) = true

-- How often something came. `front` says what it is.
abbrev pub tally_words : List ℕ → Tally → List ℕ
tally_words front t =
    front ++ t.words ++ codes ": " ++ decimal t.count ++ codes ", first message "
    ++ decimal t.first ++ codes "\n"
