-- The objects in handles, and what C asks of a text in one of the three encodings. `as_document` and
-- the like are what an object is, or the code of a refusal if it is of another kind;
-- `in_handle as_document` and the like are the same of what a handle has in it.
use Rattle.std.specs.Prelude.{◌≡◌, ◌≤◌, ◌+◌, ◌++◌, ◌⊎◌, if◌then◌else◌}
use Rattle.laspidru.specs.Prelude.{ℕ, List, length, min, take, drop, Option, Some, None, Result, Ok, Err, nat_eq, nat_lt, option_map, ok_or, chars, is_utf8, Encoding, Utf8, Utf16, Utf32, units_in, Change, MAX_OLD_TEXT, BAD_ENCODING, EMPTY, IN_USE, INSIDE_CHARACTER, NOT_UTF8, OK, OTHER_KIND, OUT_OF_RANGE, TOO_LONG, CPosition, Object, Document, Batch, and_then}
use Rattle.lsp_text.specs.declared.position.Position.{Position}
use Rattle.lsp_text.specs.LineStarts.{IsPlace}
use Rattle.lsp_text.specs.Positions.{denoted, exact_position}
use Rattle.lsp_text.specs.TextLines.{line_ends, line_start, line_stop}
use Rattle.lsp_text.specs.Text.{place_of}
use Rattle.laspidru.specs.declared.structs.Line.{Line}

-- A handle that is to be filled is refused if it has an object.
abbrev pub in_use : Option Object → Option ℕ
in_use (Some object) = Some IN_USE
in_use None = None

-- What is in a handle, read in this way; the code of an empty handle.
abbrev pub in_handle : {X : Type 0} → (Object → Result X ℕ) → Option Object → Result X ℕ
in_handle read (Some object) = read object
in_handle read None = Err EMPTY

-- A URI or another text, if it is UTF-8.
abbrev pub uri_asked : List ℕ → Result (List ℕ) ℕ
uri_asked uri = if is_utf8 uri then Ok uri else Err NOT_UTF8

-- The text of a new document, if it isn't too long and is UTF-8.
abbrev pub text_asked : List ℕ → Result (List ℕ) ℕ
text_asked text =
    if nat_lt MAX_OLD_TEXT (length text) then Err TOO_LONG else uri_asked text

-- The text of a document.
abbrev pub as_document : Object → Result (List ℕ) ℕ
as_document (Document text) = Ok text
as_document other = Err OTHER_KIND

-- The changes of a batch.
abbrev pub as_batch : Object → Result (List Change) ℕ
as_batch (Batch changes) = Ok changes.items
as_batch other = Err OTHER_KIND

-- The encoding of a number of C.
abbrev pub encoding_at : ℕ → Result Encoding ℕ
encoding_at number =
    if nat_eq number 8 then Ok Utf8
    else if nat_eq number 16 then Ok Utf16
    else if nat_eq number 32 then Ok Utf32
    else Err BAD_ENCODING

-- A text with a line of this number.
abbrev pub line_asked : ℕ → Result (List ℕ) ℕ → Result (List ℕ) ℕ
line_asked line document = and_then document (λ text.
    if nat_lt (line_ends (chars text)) line then Err OUT_OF_RANGE else Ok text)

-- The byte offsets at which a line starts, and at which it ends before its line end.
pub record IsLineExtent (number : ℕ) (line : Line) (text : List ℕ) : Type 0 where
  pub start : line.start ≡ place_of (chars text) (line_start (chars text) number)
  pub end : line.end ≡ place_of (chars text) (line_stop (chars text) number)

-- The bytes of a text from `start` on.
abbrev pub rest_asked : ℕ → Result (List ℕ) ℕ → Result (List ℕ) ℕ
rest_asked start document =
    and_then document (λ text.
    if nat_lt (length text) start then Err OUT_OF_RANGE else Ok (drop start text))

-- `new` is `old` with its first bytes replaced by the first `copied` of these: as many as there
-- are, and as `old` has room for.
abbrev pub IsCopy : List ℕ → List ℕ → ℕ → List ℕ → Type 0
IsCopy old new copied bytes =
    (copied ≡ min (length bytes) (length old)) × (new ≡ take copied bytes ++ drop copied old)

-- The position in a `CPosition` of C.
abbrev pub position_at : CPosition → Position
position_at place = record { line = place.line; character = place.character }

-- The byte offset that a position denotes, if it lies inside no character.
abbrev pub offset_in : Position → Encoding → List ℕ → Option ℕ
offset_in position encoding text =
    option_map (place_of (chars text)) (denoted (units_in encoding) (chars text) position)

-- The same, or the code of its refusal.
abbrev pub offset_asked : Position → Result Encoding ℕ → Result (List ℕ) ℕ → Result ℕ ℕ
offset_asked position encoding document = and_then encoding (λ units. and_then document (λ text.
    ok_or (offset_in position units text) INSIDE_CHARACTER))

-- `place` denotes this byte offset, and is the exact position of each character index there.
pub record IsExact (offset : ℕ) (place : CPosition) (encoding : Encoding) (text : List ℕ) : Type 0 where
  pub denotes : offset_in (position_at place) encoding text ≡ Some offset
  pub exact : (k : ℕ) → k ≤ length (chars text) → place_of (chars text) k ≡ offset
      → position_at place ≡ exact_position (units_in encoding) (chars text) k

-- `place` is the exact position of a byte offset, if that lies inside no character and splits no
-- CRLF.
abbrev pub IsPositionAt : ℕ → Encoding → List ℕ → ℕ → CPosition → Type 0
IsPositionAt offset encoding text code place =
    ((code ≡ OK) × IsPlace (chars text) offset × IsExact offset place encoding text)
    ⊎ ((code ≡ INSIDE_CHARACTER) × (¬ (IsPlace (chars text) offset)))
