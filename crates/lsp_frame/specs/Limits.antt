-- The four limits and their ranges, and whether they are lenient.
use Rattle.std.specs.Prelude.{ℕ, ◌≤◌, Bool, false, ◌||◌, nat_lt, if◌then◌else◌, Option, Some, None}

-- The four limits: bytes of a body, bytes of a text, open documents, changes of one message.
-- Lenient ones also take a change whatever its version, and a second opening of an open document.
pub record LimitsData : Type 0 where
  pub max_body : ℕ
  pub max_text : ℕ
  pub max_docs : ℕ
  pub max_changes : ℕ
  pub lenient : Bool

-- The limits where a user sets none: 16 MiB of a body and of a text, 1,024 documents, 65,536
-- changes, strict.
abbrev pub default_limits : LimitsData
default_limits = record {
  max_body = 16777216;
  max_text = 16777216;
  max_docs = 1024;
  max_changes = 65536;
  lenient = false;
}

-- The number is out of the range from `least` to `greatest`, both included.
abbrev pub is_outside : ℕ → ℕ → ℕ → Bool
is_outside least greatest n = nat_lt n least || nat_lt greatest n

-- The first limit that is out of its range, counted from 1.
abbrev pub first_out_of_range : LimitsData → Option ℕ
first_out_of_range b =
    if is_outside 4096 1073741824 b.max_body then Some 1
    else if is_outside 0 1073741824 b.max_text then Some 2
    else if is_outside 1 65536 b.max_docs then Some 3
    else if is_outside 1 1048576 b.max_changes then Some 4
    else None

-- Each limit is in its range.
pub record AreInRange (b : LimitsData) : Type 0 where
  pub least_body : 4096 ≤ b.max_body
  pub greatest_body : b.max_body ≤ 1073741824
  pub greatest_text : b.max_text ≤ 1073741824
  pub least_docs : 1 ≤ b.max_docs
  pub greatest_docs : b.max_docs ≤ 65536
  pub least_changes : 1 ≤ b.max_changes
  pub greatest_changes : b.max_changes ≤ 1048576
