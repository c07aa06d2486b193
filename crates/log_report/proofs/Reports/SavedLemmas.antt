-- The line in which two texts differ first, and whether one is a stretch of the other.
use Rattle.log_report.proofs.Prelude.{◌≡◌, Option, is_some, ℕ, suc, Bool, ◌&&◌, ◌+◌, ◌<◌, ◌≤◌, List, [], ◌∷◌, length, drop, refl, ap, ap₂, ◌∙◌, add-one, if◌then◌else◌, slice_index, drop-cons, eq-eqb, drop_all, differing_line}
use Rattle.line_diff.specs.Lines.{ends_line}
use Rattle.memchr.specs.Find.{FindsNeedle, first_of, matches}
use Rattle.memchr.proofs.lemmas.ValueLemmas.{FindsNeedle-value}

-- A search says whether a text is a stretch of another.
pub found_part : (part text : List ℕ) (found : Option ℕ) → FindsNeedle text part 0 found
    → is_some found ≡ is_some (first_of (matches text part 0))
found_part part text found is = ap is_some (FindsNeedle-value text part found is)

no_more : (line : ℕ) (text : List ℕ) → differing_line line text [] ≡ line
no_more line [] = refl
no_more line (byte ∷ bytes) = refl

-- The other text is over.
pub is_over : (line next : ℕ) (text other : List ℕ) → length other ≤ next
    → differing_line line (drop next text) (drop next other) ≡ line
is_over line next text other all =
    ap (λ (rest : List ℕ). differing_line line (drop next text) rest) (drop_all next other all)
    ∙ no_more line (drop next text)

over_byte : (ends : Bool) (line byte other : ℕ) (text others : List ℕ) → byte ≡ other
    → (ends_line byte text && ends_line other others) ≡ ends → differing_line line (byte ∷ text) (other ∷ others)
    ≡ differing_line (if ends then suc line else line) text others
over_byte ends line byte other text others same is = rw (eq-eqb byte other same, is) refl

-- Both texts have the same byte at an index.
pub goes_on : (ends : Bool) (line next : ℕ) (text other : List ℕ) → next < length text → next < length other
    → slice_index text next ≡ slice_index other next
    → (ends_line (slice_index text next) (drop (suc next) text)
    && ends_line (slice_index other next) (drop (suc next) other)) ≡ ends
    → differing_line line (drop next text) (drop next other)
    ≡ differing_line (if ends then line + 1 else line) (drop (next + 1) text) (drop (next + 1) other)
goes_on ends line next text other within within_other same is =
    rw (add-one next, add-one line)
    (ap₂ (λ (xs ys : List ℕ). differing_line line xs ys) (drop-cons text next 0 within)
    (drop-cons other next 0 within_other)
    ∙ over_byte ends line (slice_index text next) (slice_index other next) (drop (suc next) text)
    (drop (suc next) other) same is)
