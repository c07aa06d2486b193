-- What a delta leaves is what the batch means.
use Rattle.std.proofs.Common.{◌≡◌, ◌∙◌, ℕ, List, Ok, map, string_bytes, sym}
use Rattle.std.specs.Str.{chars}
use Rattle.lsp_text.specs.Units.{units_in}
use Rattle.lsp_edit.specs.declared.delta.Delta.{Delta}
use Rattle.lsp_edit.specs.Items.{Item}
use Rattle.lsp_edit.specs.Batch.{ContentChange, meaning}
use Rattle.lsp_edit.specs.Canonical.{canonical}
use Rattle.lsp_edit.specs.Edited.{content_change}
use Rattle.lsp_edit.specs.Delta.{IsDeltaOf, bytes_after, delta_encoding, meant_by}
use Rattle.lsp_edit.proofs.Deltas.DeltaLemmas.{within_told}
use Rattle.lsp_vectors.specs.declared.answer.Left.{Left}
use Rattle.lsp_vectors.specs.inside.Answer.{IsLeft}

pub left_told : (units : ℕ → ℕ) (max_len : ℕ) (before : List ℕ) (batch : List ContentChange) (delta : Delta)
    (left : Left)
    → IsDeltaOf units max_len before batch delta
    → string_bytes left.text ≡ bytes_after before delta
    → ((items : List Item) → meant_by before delta ≡ Ok items → map content_change left.canonical.items
    ≡ canonical (units_in (delta_encoding delta)) (chars before) items) → IsLeft units before batch left
left_told units max_len before batch delta left of text same =
    let left_is = within_told max_len before (meaning units (chars before) batch) (bytes_after before delta) of.is in
    record {
      items = left_is.items;
      means = left_is.means;
      text = text ∙ left_is.is;
      same_batch = rw of.units_are at (same left_is.items (sym of.means ∙ left_is.means));
    }
