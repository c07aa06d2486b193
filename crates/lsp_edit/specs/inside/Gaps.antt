-- The change of a gap that is known by indexes, or by byte offsets.
use Rattle.std.specs.Prelude.{if◌then◌else◌, ◌∷◌}
use Rattle.lsp_edit.specs.Prelude.{ℕ, List, [], chars}
use Rattle.lsp_edit.specs.Batch.{ContentChange}
use Rattle.lsp_edit.specs.Canonical.{Gap, is_changed, change_of_gap}
use Rattle.lsp_edit.specs.Parts.{index_of}

-- The gap between two indexes, and the text that replaces it.
abbrev pub gap_at : ℕ → ℕ → List ℕ → Gap
gap_at low high text = record { low = low; high = high; text = text }

-- The same between two byte offsets of the text with the bytes `before`.
abbrev pub gap_between : List ℕ → ℕ → ℕ → List ℕ → Gap
gap_between before low high text
    = gap_at (index_of (chars before) low) (index_of (chars before) high) (chars text)

-- The change of a gap, if it is changed.
abbrev pub change_at : (ℕ → ℕ) → List ℕ → Gap → List ContentChange
change_at units old gap = if is_changed gap then change_of_gap units old gap ∷ [] else []
