use Rattle.lsp_buffer.proofs.Prelude.{◌+◌, refl, arith, string_bytes, common_steps}
use Rattle.lsp_buffer.proofs.Changes.ChangeLemmas.{left_text, taken_alone, taken_next}
use Rattle.lsp_buffer.proofs.text_buffer.change.text_taken.Goals as goal
use Rattle.std.proofs.lemmas.Grind.{common_steps}

pub returns-then-not-joins : goal.returns-then-not-joins
returns-then-not-joins c =
    grind (arith, common_steps, taken_alone, left_text)

pub returns : goal.returns
returns c =
    taken_next c.args.blocks.now c.args.range c.args.new.now c.requires (string_bytes c.push_str.new.self)
    c.index-blocks-past.result (c.args.range.last + 1) c.utf8.new
    (grind (arith, common_steps, left_text))
    refl (c.joins.ensures.0 c.if-not-joins.false).0 c.index-blocks-past.is
