-- Laws over the indexes of a text and their byte offsets.
use Rattle.std.specs.Prelude.{◌≡◌, ◌+◌, ◌-◌, ◌≤◌, ◌<◌}
use Rattle.lsp_text.specs.Prelude.{ℕ, List, length, take, drop, encode_utf8_all, chars, IsUtf8, IsCharBoundary}
use Rattle.lsp_text.specs.Text.{place_of}

-- Byte offsets rise strictly with the index.
abbrev pub RisingLaw : Type 0
RisingLaw = (text : List ℕ) (j k : ℕ) → j < k → k ≤ length text → place_of text j < place_of text k

-- The first index is before all bytes, and the last after them.
abbrev pub EndsLaw : Type 0
EndsLaw = (bytes : List ℕ) → IsUtf8 bytes → (place_of (chars bytes) 0 ≡ 0)
    × (place_of (chars bytes) (length (chars bytes)) ≡ length bytes)

-- The byte offset is that of this index, and of no other.
pub record IsPlaceOf (text : List ℕ) (place index : ℕ) : Type 0 where
  pub within : index ≤ length text
  pub place_is : place_of text index ≡ place
  pub alone : (other : ℕ) → other ≤ length text → place_of text other ≡ place → other ≡ index

-- A boundary of characters is the byte offset of exactly one index.
abbrev pub BoundaryLaw : Type 0
BoundaryLaw = (bytes : List ℕ) (place : ℕ) → IsUtf8 bytes → IsCharBoundary bytes place →
    (index : ℕ) × IsPlaceOf (chars bytes) place index

-- The byte offset of an index is a boundary of characters.
abbrev pub IndexLaw : Type 0
IndexLaw = (bytes : List ℕ) (index : ℕ) → IsUtf8 bytes → index ≤ length (chars bytes) →
    IsCharBoundary bytes (place_of (chars bytes) index)

-- The bytes before the byte offset of an index are those of the characters before it.
abbrev pub BytesBeforeLaw : Type 0
BytesBeforeLaw =
    (text : List ℕ) (k : ℕ) →
    take (place_of text k) (encode_utf8_all text) ≡ encode_utf8_all (take k text)

-- The bytes after it are those of the characters after it.
abbrev pub BytesAfterLaw : Type 0
BytesAfterLaw =
    (text : List ℕ) (k : ℕ) →
    drop (place_of text k) (encode_utf8_all text) ≡ encode_utf8_all (drop k text)

-- The bytes between the byte offsets of two indexes are those of the characters between them.
abbrev pub BytesBetweenLaw : Type 0
BytesBetweenLaw =
    (text : List ℕ) (j k : ℕ) → j ≤ k → k ≤ length text →
    take (place_of text k - place_of text j) (drop (place_of text j) (encode_utf8_all text)) ≡
    encode_utf8_all (take (k - j) (drop j text))

-- The byte offset of a later index is that of the first, and the bytes of the characters between
-- them.
abbrev pub FurtherLaw : Type 0
FurtherLaw =
    (text : List ℕ) (j n : ℕ) → place_of text (j + n) ≡ place_of text j + place_of (drop j text) n
