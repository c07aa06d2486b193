-- What only proofs use of `Batch`.
use Rattle.std.specs.Prelude.{ℕ, List, Option, Result}
use Rattle.lsp_edit.specs.Items.{Item}
use Rattle.lsp_edit.specs.Batch.{Fault, in_order, put_between}

-- The items with those between the indexes that two ends denote replaced by new characters.
abbrev pub replaced : List Item → List ℕ → Option ℕ → Option ℕ → Result (List Item) Fault
replaced items characters start stop = put_between items characters (in_order start stop)
