use Rattle.lsp_text.proofs.Prelude.{arith, common_steps}
use Rattle.lsp_text.proofs.TextLines.IndexesLemmas.{indexes_line, indexes_start, indexes_last, indexes_next}
use Rattle.lsp_text.proofs.position.resolve.content.Goals as goal
use Rattle.std.proofs.lemmas.Grind.{common_steps}

pub stop_before-requires : goal.stop_before-requires
stop_before-requires c =
    let next = indexes_next c.args.bytes.now c.args.starts.now c.args.line c.requires.utf8 c.requires.indexed
    (omega (arith, c.requires.line, c.if-next-starts.false)) in
    record { some = next.some; within = next.within }

pub returns-then-next-starts-clause-start : goal.returns-then-next-starts-clause-start
returns-then-next-starts-clause-start c =
    grind (arith, common_steps, indexes_start, indexes_line, c.requires.indexed, c.requires.line)

pub returns-then-next-starts-clause-stop : goal.returns-then-next-starts-clause-stop
returns-then-next-starts-clause-stop c = indexes_last c.args.bytes.now c.args.starts.now c.args.line c.requires.utf8
    c.requires.indexed c.if-next-starts.true

pub returns-else-next-starts-clause-start : goal.returns-else-next-starts-clause-start
returns-else-next-starts-clause-start c =
    grind (arith, common_steps, indexes_start, indexes_line, c.requires.indexed, c.requires.line)

pub returns-else-next-starts-clause-stop : goal.returns-else-next-starts-clause-stop
returns-else-next-starts-clause-stop c =
    grind (arith, common_steps, indexes_next)
