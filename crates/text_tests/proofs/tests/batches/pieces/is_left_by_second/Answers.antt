use Rattle.std.proofs.Common.{sym, ◌∙◌}
use Rattle.std.proofs.lemmas.Str.{chars_from_encodes}
use Rattle.lsp_edit.specs.Edited.{edited_text}
use Rattle.text_tests.proofs.tests.batches.pieces.is_left_by_second.Goals as goal

pub then-requires : goal.then-requires
then-requires c =
    c.in_ok-two.ensures.same ∙ sym (chars_from_encodes (edited_text c.args.one.now.edited) c.args.middle.now
    c.utf8.middle (sym c.requires))
