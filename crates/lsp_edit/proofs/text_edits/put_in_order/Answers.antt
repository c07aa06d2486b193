use Rattle.lsp_edit.proofs.Prelude.{rules, answers_always}
use Rattle.lsp_edit.proofs.text_edits.put_in_order.Goals as goal

pub returns : goal.returns
returns c = record {
  same = c.sort_by_key.ensures.permutation;
  sorted = c.in_ok-sort_by_key.ensures.sorted (λ e. e.start) (answers_always _ _ _ (λ f a r g h. search rules));
  stable = c.sort_by_key.ensures.stable (λ e. e.start) (answers_always _ _ _ (λ f a r g h. search rules));
}
