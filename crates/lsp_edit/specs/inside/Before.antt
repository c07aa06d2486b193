-- The text before any change, the caller's or a copy.
use Rattle.std.specs.Prelude.{ℕ, List}
use Rattle.lsp_edit.specs.declared.pieces.before.Before.{Before}
use Rattle.lsp_edit.specs.declared.pieces.before.Before.TheVariants.{Own, Borrowed}

-- Its bytes.
abbrev pub text_before : Before → List ℕ
text_before (Own text) = text
text_before (Borrowed text) = text.now
