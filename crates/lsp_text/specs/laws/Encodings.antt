-- Laws over the names of encodings, the units of characters, and the default.
use Rattle.std.specs.Prelude.{◌≡◌, ◌≤◌, ◌↔◌}
use Rattle.lsp_text.specs.Prelude.{ℕ, List, Some, Encoding, Utf16}
use Rattle.lsp_text.specs.contracts.encoding.EncodingDefault.TheImpl as encoding_default
use Rattle.lsp_text.specs.Units.{units_in, name_of, encoding_named}

-- An encoding is found by its name, and by no other.
abbrev pub NameLaw : Type 0
NameLaw = (name : List ℕ) (encoding : Encoding) →
    (encoding_named name ≡ Some encoding) ↔ (name ≡ name_of encoding)

-- A character has 1 to 4 units.
abbrev pub UnitLaw : Type 0
UnitLaw = (encoding : Encoding) (c : ℕ) → (1 ≤ units_in encoding c) × (units_in encoding c ≤ 4)

-- The default is UTF-16, as in the protocol.
abbrev pub DefaultLaw : Type 0
DefaultLaw = (encoding : Encoding) → (encoding_default.ghosts).is_default encoding → encoding ≡ Utf16
