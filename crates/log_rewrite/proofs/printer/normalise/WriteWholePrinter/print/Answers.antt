use Rattle.log_rewrite.proofs.Prelude.{ap, err_from_is_err_and}
use Rattle.log_rewrite.proofs.NormaliseLog.PrintLemmas.{not_printed, printed, room_left}
use Rattle.log_session.specs.Canonical.{whole_change_body}
use Rattle.log_session.specs.declared.session.canonical.Whole.{Whole}
use Rattle.log_rewrite.proofs.printer.normalise.WriteWholePrinter.print.Goals as goal

pub push_record-requires : goal.push_record-requires
push_record-requires c =
    room_left whole_change_body (λ same. ap (λ (w : Whole). w.written) same) c.in_ok-clear.ensures.nothing
    c.in_ok-clear.ensures.room
    (c.in_ok-taken.ensures c.args.item.now.head c.args.item.now.body.now c.requires.is_read)

pub returns-clause-ok : goal.returns-clause-ok
returns-clause-ok c = λ more.
    rw c.more.ensures
    (printed whole_change_body (λ same. ap (λ (w : Whole). w.written) same) c.in_ok-clear.ensures.nothing
    c.in_ok-clear.ensures.room
    (c.in_ok-taken.ensures c.args.item.now.head c.args.item.now.body.now c.requires.is_read) c.args.item.now.raw.now
    c.in_ok-in_log.ensures.in_log _ c.in_ok-output.ensures.ok more)

pub returns-in_err-output-clause-error : goal.returns-in_err-output-clause-error
returns-in_err-output-clause-error c =
    let p = err_from_is_err_and c.from_residual-in_err-output.result c.from_residual-in_err-output.ensures.1 in
    rw (p.1, p.2)
    (not_printed whole_change_body (λ same. ap (λ (w : Whole). w.written) same) c.in_ok-clear.ensures.nothing
    c.in_ok-clear.ensures.room
    (c.in_ok-taken.ensures c.args.item.now.head c.args.item.now.body.now c.requires.is_read) c.args.item.now.raw.now
    c.in_ok-in_log.ensures.in_log c.in_err-output.field-0.0 c.in_err-output.ensures.error)
