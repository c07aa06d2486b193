-- Parts of a JSON value. The suffix `_in`: what a value is read as, if it has that type; an
-- `Option Data` may also be missing.
use Rattle.std.specs.Prelude.{◌∷◌, if◌then◌else◌}
use Rattle.lsp_message.specs.Prelude.{ℕ, Bool, true, ℤ, List, [], Option, Some, option_and_then, is_some, option_map_or, Data, Items, no_items, item, Members, get, as_null, as_bool, as_number, as_str, as_array, as_object, as_i64, as_u64}

infixl 10 ◌>>=◌
-- The next step of what was found, if something was found.
abbrev pub ◌>>=◌ : {A B : Type 0} → Option A → (A → Option B) → Option B
found >>= next = option_and_then next found

-- The member of this name of an object.
abbrev pub member_at : List ℕ → Option Data → Option Data
member_at name value = option_and_then (get name) value

-- The text of a string.
abbrev pub text_in : Option Data → Option (List ℕ)
text_in value = option_and_then as_str value

-- The members of an object.
abbrev pub members_in : Option Data → Option Members
members_in value = option_and_then as_object value

-- The items of an array.
abbrev pub array_in : Option Data → Option Items
array_in value = option_and_then as_array value

-- What `read` reads of each item; none if it reads nothing of one.
abbrev pub each_of : {A : Type 0} → (Data → Option A) → Items → Option (List A)
each_of read no_items = Some []
each_of read (item d ds) = do
  first ← read d
  rest ← each_of read ds
  Some (first ∷ rest)

-- The texts of an array of strings.
abbrev pub texts_in : Option Data → Option (List (List ℕ))
texts_in value = option_and_then (each_of as_str) (array_in value)

-- The value of a boolean.
abbrev pub bool_in : Option Data → Option Bool
bool_in value = option_and_then as_bool value

-- A whole number: in the range of `i64`, written without a fraction and an exponent. `-0` is none.
abbrev pub whole_in : Option Data → Option ℤ
whole_in value = option_and_then as_i64 (option_and_then as_number value)

-- A whole number in the range of `u64`, without a sign.
abbrev pub natural_in : Option Data → Option ℕ
natural_in value = option_and_then as_u64 (option_and_then as_number value)

-- Whether a value is null.
abbrev pub is_null : Data → Bool
is_null value = is_some (as_null value)

-- Whether an optional member is missing. A null counts as missing.
abbrev pub is_missing : Option Data → Bool
is_missing value = option_map_or is_null value true

-- What `read` reads of an optional member; the default where the member is missing.
abbrev pub optional : {A : Type 0} → A → (Option Data → Option A) → Option Data → Option A
optional default read value = if is_missing value then Some default else read value
