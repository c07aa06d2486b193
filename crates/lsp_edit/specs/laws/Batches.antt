-- Laws over every batch that has a meaning, and over its canonical batch.
use Rattle.std.specs.Prelude.{◌≡◌, ◌≤◌, ◌↔◌, ◌∷◌, ◌++◌}
use Rattle.lsp_edit.specs.Prelude.{ℕ, suc, true, false, List, [], length, sum_by, Option, Some, None, Ok, Range, splits_crlf, denoted}
use Rattle.lsp_edit.specs.Items.{Item, Old, plain, text_of}
use Rattle.lsp_edit.specs.Batch.{ContentChange, items_after, meaning}
use Rattle.lsp_edit.specs.Canonical.{DoTheSame, Gap, gaps, is_changed, canonical}
use Rattle.lsp_edit.specs.Compose.{then_items}

-- Of an old CRLF, both characters are kept or neither, and nothing is inserted between them.
pub record KeepsPairs (old : List ℕ) (items : List Item) : Type 0 where
  pub after_return : (front rest : List Item) (index : ℕ) → splits_crlf old (suc index) ≡ true →
      items ≡ front ++ Old index ∷ rest
      → (more : List Item) × (rest ≡ Old (suc index) ∷ more)
  pub before_feed : (front rest : List Item) (index : ℕ) → splits_crlf old (suc index) ≡ true →
      items ≡ front ++ Old (suc index) ∷ rest
      → (more : List Item) × (front ≡ more ++ Old index ∷ [])

-- A gap's ends are indexes of the old text, in order, that split no CRLF. So they have exact
-- positions.
pub record HasExactEnds (old : List ℕ) (gap : Gap) : Type 0 where
  pub order : gap.low ≤ gap.high
  pub within : gap.high ≤ length old
  pub low_whole : splits_crlf old gap.low ≡ false
  pub high_whole : splits_crlf old gap.high ≡ false

-- So it is for each changed gap.
abbrev pub AllHaveExactEnds : List ℕ → List Gap → Type 0
AllHaveExactEnds old [] = Unit {0}
AllHaveExactEnds old (gap ∷ gaps) = (is_changed gap ≡ true → HasExactEnds old gap)
    × AllHaveExactEnds old gaps

-- A range denotes the same indexes in two texts.
abbrev pub DenotesAlike : (ℕ → ℕ) → List ℕ → List ℕ → Option Range → Type 0
DenotesAlike units old met None = Unit {0}
DenotesAlike units old met (Some range) =
    (start stop : ℕ) × (denoted units old range.start ≡ Some start)
    × (denoted units met range.start ≡ Some start)
    × (denoted units old range.stop ≡ Some stop) × (denoted units met range.stop ≡ Some stop)

-- Each range of a batch denotes in the text that it meets what it denotes in the old text.
abbrev pub RangesStay : (ℕ → ℕ) → List ℕ → List Item → List ContentChange → Type 0
RangesStay units old items [] = Unit {0}
RangesStay units old items (change ∷ batch) =
    DenotesAlike units old (text_of old items) change.range
    × ((next : List Item) → items_after units old items change ≡ Ok next →
    RangesStay units old next batch)

-- What is true of the items that a batch means, and of their canonical batch. That batch means the
-- same, and each of its ranges denotes the same in the text that it meets as in the old text. It
-- has no more changes, and its texts are no longer than the final text, whatever a character
-- weighs. It equals the canonical batch of another meaning exactly if both do the same, and it is
-- its own canonical batch.
pub record IsCanonical (units : ℕ → ℕ) (old : List ℕ) (batch : List ContentChange)
    (items : List Item) : Type 0 where
  pub pairs : KeepsPairs old items
  pub ends : AllHaveExactEnds old (gaps old items)
  pub means : meaning units old (canonical units old items) ≡ Ok items
  pub ranges : RangesStay units old (plain old) (canonical units old items)
  pub few : length (canonical units old items) ≤ length batch
  pub short : (weight : ℕ → ℕ) →
      sum_by (λ change. sum_by weight change.text) (canonical units old items)
      ≤ sum_by weight (text_of old items)
  pub exactly : (other : List ContentChange) (others : List Item) → meaning units old other ≡ Ok others
      → (canonical units old items ≡ canonical units old others) ↔ DoTheSame items others
  pub again : (more : List Item) → meaning units old (canonical units old items) ≡ Ok more →
      canonical units old more ≡ canonical units old items

-- So it is for every batch that has a meaning, if each character has at least one unit.
abbrev pub CanonicalLaw : Type 0
CanonicalLaw =
    (units : ℕ → ℕ) → ((c : ℕ) → 1 ≤ units c) →
    (old : List ℕ) (batch : List ContentChange) (items : List Item)
    → meaning units old batch ≡ Ok items → IsCanonical units old batch items

-- Two batches, one after the other, mean the composition of their meanings.
abbrev pub ThenLaw : Type 0
ThenLaw =
    (units : ℕ → ℕ) (old : List ℕ) (first second : List ContentChange) (items others : List Item) →
    meaning units old first ≡ Ok items
    → meaning units (text_of old items) second ≡ Ok others →
    meaning units old (first ++ second) ≡ Ok (then_items items others)

-- Composition is associative.
abbrev pub AssociativeLaw : Type 0
AssociativeLaw = (first second third : List Item) →
    then_items (then_items first second) third ≡ then_items first (then_items second third)
