-- What only proofs and private contracts use of `Leads`.
use Rattle.std.specs.Prelude.{◌≡◌, ◌+◌, ◌-◌, ◌==◌, if◌then◌else◌, ◌∷◌}
use Rattle.lsp_text.specs.Prelude.{ℕ, nat_lt, List, [], Option, Some, None, option_map, len_utf8}

-- None of these bytes has units.
abbrev pub HaveNone : (ℕ → ℕ) → List ℕ → Type 0
HaveNone lead_units [] = Unit {0}
HaveNone lead_units (byte ∷ bytes) = (lead_units byte ≡ 0) × HaveNone lead_units bytes

-- The first of these bytes has so many units, and the others have none.
abbrev pub FirstHas : (ℕ → ℕ) → List ℕ → ℕ → Type 0
FirstHas lead_units [] units = ⊥
FirstHas lead_units (byte ∷ bytes) units = (lead_units byte ≡ units) × HaveNone lead_units bytes

-- The byte offset in a line's content with c units before it: the content's end if it has no more,
-- none inside a character.
abbrev pub line_place : (ℕ → ℕ) → List ℕ → ℕ → Option ℕ
line_place units [] c = Some 0
line_place units (x ∷ line) c =
    if c == 0 then Some 0 else if nat_lt c (units x) then None else
    option_map (λ n. len_utf8 x + n) (line_place units line (c - units x))

-- The byte offset in a line's content with c units before it, found in the content's bytes: the
-- content's end if it has no more, none inside a character.
abbrev pub byte_place : (ℕ → ℕ) → List ℕ → ℕ → Option ℕ
byte_place lead_units [] c = Some 0
byte_place lead_units (byte ∷ bytes) c =
    if nat_lt c (lead_units byte) then (if c == 0 then Some 0 else None) else
    option_map (λ n. 1 + n) (byte_place lead_units bytes (c - lead_units byte))
