-- What a framer knows of a frame that is coming in.
use Rattle.std.specs.Prelude.{ℕ, ◌≡◌, ◌+◌, ◌≤◌, ◌<◌, Bool, true, false, not, nat_lt, if◌then◌else◌, List, [], ◌∷◌, ◌++◌, length, codes, Ok}
use Rattle.std.specs.List.{AllByRecursion, list_all}
use Rattle.lsp_frame.specs.Header.{Line, IsLine, AreLines, IsNameByte, lines_bytes, header_of, line_bytes}
use Rattle.lsp_frame.specs.Charset.{trimmed, is_text, has_good_charset}
use Rattle.lsp_frame.specs.Verdict.{values_of, is_digit, is_number, number, judge_header}
use Rattle.lsp_frame.specs.declared.framer.shape.Shape.{Shape}
use Rattle.lsp_frame.specs.declared.framer.shape.Shape.TheVariants as shape
use Rattle.lsp_frame.specs.declared.framer.notes.Length.{Length}
use Rattle.lsp_frame.specs.declared.framer.notes.Length.TheVariants as said
use Rattle.lsp_frame.specs.declared.framer.notes.Charset.{Charset}
use Rattle.lsp_frame.specs.declared.framer.notes.Charset.TheVariants as named
use Rattle.lsp_frame.specs.declared.framer.notes.Notes.{Notes}
use Rattle.lsp_frame.specs.declared.framer.header.Header.{Header}
use Rattle.lsp_frame.specs.declared.framer.stage.Stage.{Stage}
use Rattle.lsp_frame.specs.declared.framer.stage.Stage.TheVariants as stage
use Rattle.lsp_frame.specs.declared.written.WrittenHeader.{WrittenHeader}

-- The bytes of the line that is coming in have this shape.
abbrev pub IsPartOfLine : Shape → List ℕ → Type 0
IsPartOfLine shape.Start part = part ≡ []
IsPartOfLine shape.Name part = (0 < length part) × AllByRecursion IsNameByte part
IsPartOfLine shape.Value part = (line : Line) × IsLine line
    × (part ≡ line.name ++ (58 ∷ line.value))
IsPartOfLine shape.Return part = (line : Line) × IsLine line
    × (part ≡ line.name ++ (58 ∷ (line.value ++ (13 ∷ []))))
IsPartOfLine shape.Whole part = (line : Line) × IsLine line × (part ≡ line_bytes line)
IsPartOfLine shape.LastReturn part = part ≡ 13 ∷ []
IsPartOfLine shape.End part = part ≡ 13 ∷ 10 ∷ []

-- A line feed ended the line.
abbrev pub is_over : Shape → Bool
is_over shape.Whole = true
is_over shape.End = true
is_over other = false

-- A header can continue after these bytes of a line.
pub record CanContinue (part : List ℕ) : Type 0 where
  pub shape : Shape
  pub is : IsPartOfLine shape part
  pub open_line : is_over shape ≡ false

-- What a value says as the length of a body.
abbrev pub length_said : ℕ → List ℕ → Length
length_said max_body value =
    let digits = trimmed value in
    if not (is_number digits) then said.Bad
    else if nat_lt max_body (number digits) then said.TooLong
    else said.Given (number digits)

-- What the length is after one more Content-Length.
abbrev pub length_noted : ℕ → Length → List ℕ → Length
length_noted max_body said.Missing value = length_said max_body value
length_noted max_body length value = said.Repeated

-- What the charset is after one more Content-Type.
abbrev pub charset_noted : Charset → List ℕ → Charset
charset_noted named.Missing value = if has_good_charset value then named.Good else named.Bad
charset_noted charset value = named.Repeated

-- The notes after one more line.
abbrev pub noted : ℕ → Notes → List ℕ → List ℕ → Notes
noted max_body notes name value = record {
  length = if is_text (codes "content-length") name then
      length_noted max_body notes.length value else notes.length;
  charset = if is_text (codes "content-type") name then charset_noted notes.charset value else
      notes.charset;
}

-- What the values of all Content-Length lines say.
abbrev pub length_of : ℕ → List (List ℕ) → Length
length_of max_body [] = said.Missing
length_of max_body (value ∷ []) = length_said max_body value
length_of max_body (value ∷ other ∷ values) = said.Repeated

-- What the values of all Content-Type lines say.
abbrev pub charset_of : List (List ℕ) → Charset
charset_of [] = named.Missing
charset_of (value ∷ []) = if has_good_charset value then named.Good else named.Bad
charset_of (value ∷ other ∷ values) = named.Repeated

-- The notes of a header with these lines.
unfoldable pub notes_of : ℕ → List Line → Notes
notes_of max_body lines = record {
  length = length_of max_body (values_of (codes "content-length") lines);
  charset = charset_of (values_of (codes "content-type") lines);
}

-- The bytes are whole lines, and a part of one more that starts at `header.line`.
pub record IsSoFar (max_body : ℕ) (buffered : List ℕ) (header : Header) : Type 0 where
  pub lines : List Line
  pub part : List ℕ
  pub each : AreLines lines
  pub is : buffered ≡ lines_bytes lines ++ part
  pub starts : header.line ≡ length (lines_bytes lines)
  pub shaped : IsPartOfLine header.shape part
  pub noted : header.notes ≡ notes_of max_body lines

-- The bytes are a whole header with these notes.
pub record IsWhole (max_body : ℕ) (buffered : List ℕ) (notes : Notes) : Type 0 where
  pub lines : List Line
  pub each : AreLines lines
  pub is : buffered ≡ header_of lines
  pub short : length buffered ≤ 8192
  pub noted : notes ≡ notes_of max_body lines

-- The bytes begin with a good header in the written form.
pub record BeginsWritten (max_body : ℕ) (bytes : List ℕ) (header : WrittenHeader) : Type 0 where
  pub digits : List ℕ
  pub rest : List ℕ
  pub is : bytes ≡ codes "Content-Length: " ++ digits ++ codes "\r\n\r\n" ++ rest
  pub some : 0 < length digits
  pub few : length digits ≤ 10
  pub each : list_all is_digit digits ≡ true
  pub len : header.len ≡ 20 + length digits
  pub body : header.body ≡ number digits
  pub small : header.body ≤ max_body

-- The buffered bytes are a part of a header.
pub record IsInHeader (max_body : ℕ) (buffered : List ℕ) (header : Header) : Type 0 where
  pub so_far : IsSoFar max_body buffered header
  pub line_open : is_over header.shape ≡ false
  pub short : length buffered < 8192

-- The buffered bytes are a whole header, and a part of its body or all of it.
pub record IsInBody (max_body : ℕ) (buffered : List ℕ) (start stop_at : ℕ) : Type 0 where
  pub lines : List Line
  pub body : List ℕ
  pub wanted : ℕ
  pub each : AreLines lines
  pub is : buffered ≡ header_of lines ++ body
  pub starts : start ≡ length (header_of lines)
  pub short : start ≤ 8192
  pub good : judge_header max_body lines ≡ Ok wanted
  pub ends : stop_at ≡ start + wanted
  pub within : length buffered ≤ stop_at
  pub small : wanted ≤ max_body

-- The buffered bytes are what the stage says.
abbrev pub IsAtStage : ℕ → List ℕ → Stage → Type 0
IsAtStage max_body buffered (stage.Header header) = IsInHeader max_body buffered header
IsAtStage max_body buffered (stage.Body start stop_at) = IsInBody max_body buffered start stop_at
IsAtStage max_body buffered stage.Failed = length buffered ≤ 8192 + max_body
