-- The canonical batch that a document returns is the one that C gets.
use Rattle.laspidru.proofs.Prelude.{List, map, content_change}
use Rattle.lsp_text.specs.Units.{units_in}
use Rattle.lsp_edit.specs.declared.change.Change.{Change}
use Rattle.lsp_edit.specs.declared.composed.TheConstants.{MAX_OLD_TEXT}
use Rattle.lsp_edit.specs.Batch.{ContentChange}
use Rattle.lsp_edit.specs.Indexed.{IsCanonicalBatch}
use Rattle.laspidru.specs.Edits.{Asked, IsBatchOf}

pub is_batch_of : (asked : Asked ContentChange) (changes : List Change)
    → IsCanonicalBatch (units_in asked.encoding) MAX_OLD_TEXT asked.text asked.edits (map content_change changes)
    → IsBatchOf asked changes
is_batch_of asked changes batch = record { items = batch.items; means = batch.means; is = batch.is }
