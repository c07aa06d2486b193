use Rattle.line_diff.proofs.Prelude.{◌≡◌, chars, sym, ◌∙◌, map-id}
use Rattle.std.proofs.lemmas.Iterator.{YieldsList-from_chars}
use Rattle.std.proofs.lemmas.Iterator.Consumers.{YieldsList-end}
use Rattle.line_diff.proofs.shown.chars_of.Goals as goal

pub returns : goal.returns
returns c =
    let all = YieldsList-end (YieldsList-from_chars c.args.line.now c.utf8.line cc) c.loop-character.yielded _
    c.loop-character.yielded_by _ _ c.in-None.is c.next.ensures.steps in
    let shown : c.loop-character.yielded ≡ chars c.args.line.now = sym (map-id c.loop-character.yielded) ∙ all.0 in
    c.loop-character.invariant ∙ shown
