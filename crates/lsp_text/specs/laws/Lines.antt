-- What the lines of a text are together: the text. And where each of them starts.
use Rattle.std.specs.Prelude.{ℕ, suc, ◌≡◌, ◌≢◌, ◌-◌, ◌≤◌, ◌<◌, ◌⊎◌, false, List, [], ◌∷◌, length, take, drop, slice_index}
use Rattle.lsp_text.specs.Text.{place_of}
use Rattle.lsp_text.specs.TextLines.{line_feed, carriage_return, splits_crlf, line_at, line_ends, line_start, line_stop}
use Rattle.lsp_text.specs.LineStarts.{start_places}

-- A line end is a line feed, a carriage return, or the two as a CRLF.
abbrev pub IsLineEnd : List ℕ → Type 0
IsLineEnd xs =
    ((xs ≡ line_feed ∷ []) ⊎ (xs ≡ carriage_return ∷ [])) ⊎ (xs ≡ carriage_return ∷ line_feed ∷ [])

-- The characters after a line's content, up to the next line's start.
abbrev pub line_end_of : List ℕ → ℕ → List ℕ
line_end_of text line
    = take (line_start text (suc line) - line_stop text line) (drop (line_stop text line) text)

-- The lines are the text. The first begins where it begins, and the last ends where it ends. After
-- each line but the last is a line end, and after that the next line begins. No content has a line
-- end, and each index is in one of the lines. A CRLF is one line end: a carriage return that ends a
-- line alone has no line feed after it.
pub record LinesPart (text : List ℕ) : Type 0 where
  pub first : line_start text 0 ≡ 0
  pub last : line_stop text (line_ends text) ≡ length text
  pub order : (line : ℕ) → line ≤ line_ends text → line_start text line ≤ line_stop text line
  pub ends : (line : ℕ) → line < line_ends text → IsLineEnd (line_end_of text line)
  pub crlf_is_one : (line : ℕ) → line < line_ends text →
      line_end_of text line ≡ carriage_return ∷ [] →
      slice_index text (line_start text (suc line)) ≢ line_feed
  pub no_feed : (line k : ℕ) → line ≤ line_ends text → line_start text line ≤ k →
      k < line_stop text line → slice_index text k ≢ line_feed
  pub no_return : (line k : ℕ) → line ≤ line_ends text → line_start text line ≤ k →
      k < line_stop text line → slice_index text k ≢ carriage_return
  pub each : (k : ℕ) → k ≤ length text → line_at text k ≤ line_ends text

-- The index is the first of the line.
pub record IsFirstIndex (text : List ℕ) (line first : ℕ) : Type 0 where
  pub within : first ≤ length text
  pub here : line_at text first ≡ line
  pub least : (k : ℕ) → k ≤ length text → line_at text k ≡ line → first ≤ k

-- A line begins at its first index, and the kept start with its number is that index's byte offset.
pub record HasStart (text : List ℕ) (line : ℕ) : Type 0 where
  pub first : IsFirstIndex text line (line_start text line)
  pub kept : slice_index (start_places text) line ≡ place_of text (line_start text line)

-- So it is for each line of a text.
abbrev pub StartsLaw : Type 0
StartsLaw = (text : List ℕ) (line : ℕ) → line ≤ line_ends text → HasStart text line

-- Two texts with the same first k characters split their CRLFs alike before index k.
abbrev pub SplitsLaw : Type 0
SplitsLaw =
    (text other : List ℕ) (j k : ℕ) → take k text ≡ take k other → j < k →
    splits_crlf text j ≡ splits_crlf other j

-- Neither the end of a text nor any index after it splits a CRLF.
abbrev pub PastEndLaw : Type 0
PastEndLaw = (text : List ℕ) (k : ℕ) → length text ≤ k → splits_crlf text k ≡ false
