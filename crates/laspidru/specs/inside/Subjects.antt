-- The text that text edits count in.
use Rattle.std.specs.Prelude.{ℕ, List}
use Rattle.laspidru.specs.declared.edits.Subject.{Subject}
use Rattle.laspidru.specs.declared.edits.Subject.TheVariants.{Own, Open}

abbrev pub subject_text : Subject → List ℕ
subject_text (Own text) = text.now
subject_text (Open document) = document.text
