-- What a case of one message means.
use Rattle.std.specs.Prelude.{ℕ, ◌≡◌, List, Ok, map, string_bytes, encode_utf8_all}
use Rattle.std.specs.Str.{chars}
use Rattle.lsp_edit.specs.Items.{Item, text_of}
use Rattle.lsp_edit.specs.Batch.{ContentChange, meaning}
use Rattle.lsp_edit.specs.Canonical.{canonical}
use Rattle.lsp_edit.specs.Edited.{content_change}
use Rattle.lsp_vectors.specs.declared.answer.Left.{Left}

-- The batch has a meaning: its text is the one that is left, and its canonical batch the one there.
pub record IsLeft (units : ℕ → ℕ) (before : List ℕ) (batch : List ContentChange) (left : Left) : Type 0 where
  pub items : List Item
  pub means : meaning units (chars before) batch ≡ Ok items
  pub text : string_bytes left.text ≡ encode_utf8_all (text_of (chars before) items)
  pub same_batch : map content_change left.canonical.items ≡ canonical units (chars before) items
