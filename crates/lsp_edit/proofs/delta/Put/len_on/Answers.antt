use Rattle.lsp_edit.proofs.Prelude.{arith, replaced_length}
use Rattle.lsp_edit.proofs.Deltas.DeltaLemmas.{put_in}
use Rattle.lsp_edit.proofs.delta.Put.len_on.Goals as goal

pub overflow_sub-result : goal.overflow_sub-result
overflow_sub-result c = (put_in _ _ _ _ _ c.requires.put).order

pub overflow_sub-result-2 : goal.overflow_sub-result-2
overflow_sub-result-2 c = omega (arith, (put_in _ _ _ _ _ c.requires.put).at_stop.0, c.len.ensures.len)

pub returns : goal.returns
returns c =
    let r = put_in _ _ _ _ _ c.requires.put in
    omega (arith, replaced_length c.args.text.now c.args.self.now.new.now _ _ r.order r.at_stop.0, c.len.ensures.len)
