-- Items over a text that keep its characters in order, and both characters of a CRLF of it or
-- neither.
use Rattle.std.specs.Prelude.{◌≡◌, ◌≤◌, ◌<◌, ◌⊎◌, ◌∷◌}
use Rattle.lsp_edit.specs.Prelude.{ℕ, suc, false, List, [], length, splits_crlf}
use Rattle.lsp_edit.specs.Items.{Item, Old, New}

-- Items that keep old characters from index `low` on. Where something is deleted or inserted, no
-- CRLF is split.
abbrev pub Keeps : List ℕ → ℕ → List Item → Type 0
Keeps old low [] = (low ≤ length old) × (splits_crlf old low ≡ false)
Keeps old low (New character ∷ items) = (splits_crlf old low ≡ false) × Keeps old low items
Keeps old low (Old index ∷ items) =
    (low ≤ index) × (index < length old)
    × ((low ≡ index) ⊎ ((splits_crlf old low ≡ false) × (splits_crlf old index ≡ false)))
    × Keeps old (suc index) items
