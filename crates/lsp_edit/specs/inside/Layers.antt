-- What only proofs and private contracts use of `Layers` and `Joined`.
use Rattle.std.specs.Prelude.{◌≡◌, ◌+◌, ◌≤◌}
use Rattle.lsp_edit.specs.Prelude.{ℕ, List, Result, Ok, IsUtf8, chars, length, map, string_len, sum_by, Change}
use Rattle.lsp_edit.specs.Items.{Item, plain}
use Rattle.lsp_edit.specs.Batch.{Fault}
use Rattle.lsp_edit.specs.Delta.{AreEndsOf}
use Rattle.lsp_edit.specs.Edited.{content_change}
use Rattle.lsp_edit.specs.Parts.{Part, AreParts, items_of}

-- Parts that are the same items as others, whatever text both are parts of.
abbrev pub AreSameItems : List Part → List Part → Type 0
AreSameItems parts others =
    (old : List ℕ) → AreParts old others →
    AreParts old parts × (items_of (chars old) parts ≡ items_of (chars old) others)

-- Parts of the text with the bytes `reached` are what a batch means on it.
pub record IsLayer (meant : Result (List Item) (ℕ × Fault)) (reached : List ℕ)
    (parts : List Part) : Type 0 where
  pub utf8 : IsUtf8 reached
  pub are : AreParts reached parts
  pub means : meant ≡ Ok (items_of (chars reached) parts)

-- The changes' ranges have these ends, each in the text that its change meets; the first text has
-- `len` bytes. It and the changes' texts have at most 2 GiB together.
pub record AreResolved (units : ℕ → ℕ) (before : List ℕ) (len : ℕ) (changes : List Change)
    (ends : List (ℕ × ℕ)) : Type 0 where
  pub utf8 : IsUtf8 before
  pub len_is : len ≡ length before
  pub room : len + sum_by (λ change. string_len change.text) changes ≤ 2147483648
  pub ends_are : AreEndsOf units (chars before) (plain (chars before)) (map content_change changes)
      ends
