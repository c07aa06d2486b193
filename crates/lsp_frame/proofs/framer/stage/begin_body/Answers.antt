use Rattle.lsp_frame.proofs.Prelude.{◌≡◌, ◌+◌, length, arith, refl}
use Rattle.lsp_frame.proofs.FrameLemmas.{whole_fault, whole_body, whole_wanted}
use Rattle.lsp_frame.proofs.framer.stage.begin_body.Goals as goal

pub returns-in-Err-clause-error : goal.returns-in-Err-clause-error
returns-in-Err-clause-error c =
    let len : c.len-start.result ≡ length c.args.buffered.now.items = omega (arith, c.len-start.ensures) in
    rw len (whole_fault c.args.max_body c.args.buffered.now.items c.args.rest.now c.args.notes c.in-Err.fault
    c.requires.whole c.in-Err.ensures)

pub overflow_add-end : goal.overflow_add-end
overflow_add-end c =
    let wanted = whole_wanted c.args.max_body c.args.buffered.now.items c.args.notes c.in-Ok.wanted c.requires.whole
    c.in-Ok.ensures in
    omega (arith, wanted, c.len-start.ensures, c.requires.whole.short, c.requires.small)

pub take_body-requires : goal.take_body-requires
take_body-requires c = record {
  in_body = whole_body c.args.max_body c.args.buffered.now.items c.args.notes c.in-Ok.wanted c.len-start.result
      (c.len-start.result + c.in-Ok.wanted) c.requires.whole c.in-Ok.ensures (omega (arith, c.len-start.ensures)) refl;
}
