use Rattle.lsp_edit.proofs.Prelude.{map, refl, content_change}
use Rattle.lsp_edit.proofs.Deltas.WholeLemmas.{batch_too_long, batch_within}
use Rattle.lsp_edit.proofs.indexed.check_whole.Goals as goal

pub returns-then-text-max_len-clause-error : goal.returns-then-text-max_len-clause-error
returns-then-text-max_len-clause-error c = (
  refl,
  λ units before. batch_too_long c.args.max_len c.in-Some.text.now c.in-Some.ensures.utf8
      (map content_change c.args.changes.now) c.in-Some.ensures.some units before c.if-text-max_len.true,
)

pub returns-clause-ok : goal.returns-clause-ok
returns-clause-ok c = λ units before text is. batch_within c.args.max_len c.in-Some.text.now c.in-Some.ensures.utf8
    (map content_change c.args.changes.now) c.in-Some.ensures.some units before c.if-text-max_len.false
