-- The edits that were passed, on a text: as changes of a batch, and as text edits.
use Rattle.std.specs.Prelude.{ℕ, List, Result, Ok}
use Rattle.lsp_edit.specs.Batch.{ContentChange}
use Rattle.lsp_text.specs.declared.encoding.Encoding.{Encoding}
use Rattle.laspidru.specs.declared.changes.Passed.{Passed}
use Rattle.laspidru.specs.Edits.{Asked, Replacement, edits_of, fitting, replacements_of}

abbrev pub changes_in : Passed → List ContentChange
changes_in passed = edits_of passed.edits.now passed.texts.now

abbrev pub changes_on : Encoding → Passed → List ℕ → Result (Asked ContentChange) ℕ
changes_on encoding passed text = fitting encoding passed.edits.now (changes_in passed) (Ok text)

abbrev pub replacements_in : Passed → List Replacement
replacements_in passed = replacements_of passed.edits.now passed.texts.now

abbrev pub edits_in : Encoding → Passed → List ℕ → Asked Replacement
edits_in encoding passed text =
    record { encoding = encoding; edits = replacements_in passed; text = text }

abbrev pub replacements_on : Encoding → Passed → List ℕ → Result (Asked Replacement) ℕ
replacements_on encoding passed text =
    fitting encoding passed.edits.now (replacements_in passed) (Ok text)
