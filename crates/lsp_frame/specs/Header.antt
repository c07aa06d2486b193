-- The header of a frame, as it may be read. (LSP 3.17, Base Protocol, Header Part: it states no
-- greatest length, and nothing of a field that comes twice. Those rules are this project's.)
use Rattle.std.specs.Prelude.{ℕ, ◌≡◌, ◌≢◌, ◌≤◌, ◌<◌, ◌⊎◌, List, [], ◌∷◌, ◌++◌, length}
use Rattle.std.specs.List.{AllByRecursion}

-- A byte of a name: a visible ASCII character other than `:`.
abbrev pub IsNameByte : ℕ → Type 0
IsNameByte b = (33 ≤ b) × (b ≤ 126) × (b ≢ 58)

-- A byte of a value: a visible ASCII character, a space or a tab.
abbrev pub IsValueByte : ℕ → Type 0
IsValueByte b = ((32 ≤ b) × (b ≤ 126)) ⊎ (b ≡ 9)

-- One line of a header: a name and a value.
pub record Line : Type 0 where
  pub name : List ℕ
  pub value : List ℕ

-- The line has a name, and only bytes that a name and a value may have.
pub record IsLine (line : Line) : Type 0 where
  pub some : 0 < length line.name
  pub name : AllByRecursion IsNameByte line.name
  pub value : AllByRecursion IsValueByte line.value

-- Each line is such a line.
abbrev pub AreLines : List Line → Type 0
AreLines lines = AllByRecursion IsLine lines

-- The bytes of a line in a header: the name, `:`, the value, CR and LF. (LSP 3.17 writes a blank
-- after the `:`. Here it is a part of the value, and may be missing.)
abbrev pub line_bytes : Line → List ℕ
line_bytes line = line.name ++ (58 ∷ (line.value ++ (13 ∷ 10 ∷ [])))

-- The bytes of the lines, one after another.
abbrev pub lines_bytes : List Line → List ℕ
lines_bytes [] = []
lines_bytes (line ∷ lines) = line_bytes line ++ lines_bytes lines

-- The bytes of a header: its lines, and then CR and LF.
abbrev pub header_of : List Line → List ℕ
header_of lines = lines_bytes lines ++ (13 ∷ 10 ∷ [])

-- The bytes are a whole header.
pub record IsHeader (bytes : List ℕ) : Type 0 where
  pub lines : List Line
  pub each : AreLines lines
  pub is : bytes ≡ header_of lines

-- The bytes are less than a whole header, and some more bytes make them one.
pub record BeginsHeader (bytes : List ℕ) : Type 0 where
  pub lines : List Line
  pub rest : List ℕ
  pub each : AreLines lines
  pub is : header_of lines ≡ bytes ++ rest
  pub more : 0 < length rest
