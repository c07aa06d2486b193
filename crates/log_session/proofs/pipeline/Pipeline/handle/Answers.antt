use Rattle.log_session.proofs.Prelude.{output_of}
use Rattle.log_session.proofs.Runs.PipedLemmas.{failed, printed, when_err, when_ok}
use Rattle.log_session.proofs.pipeline.Pipeline.handle.Goals as goal

-- The record is left out.

pub returns-clause-ok : goal.returns-clause-ok
returns-clause-ok g c =
    let admitted = rw c.in-Some.is at
    (c.in_ok-head.ensures.admitted c.args.item.now.body.now c.in_ok-read.ensures.read) in
    when_ok c.print.result
    (λ session given step.
    printed (g.P.Printer.state c.args.self.now.printer).session c.args.item.now.head c.args.item.now.raw.now
    c.args.item.now.body.now c.args.self.now.selection c.admit.new.self.selection c.in-Some.head admitted
    (g.P.Printer.state c.print.new.self).session session
    (g.P.Printer.state c.args.self.now.printer).run_output (g.P.Printer.state c.print.new.self).run_output
    (output_of given.output c.args.item.now.raw.now c.print.new.buffer.items) given.end step)
    (rw c.admit.ensures.printer at c.print.ensures.session) (rw c.admit.ensures.printer at c.print.ensures.ok)

pub returns-clause-error : goal.returns-clause-error
returns-clause-error g c =
    let admitted = rw c.in-Some.is at
    (c.in_ok-head.ensures.admitted c.args.item.now.body.now c.in_ok-read.ensures.read) in
    when_err c.print.result
    (λ fault is.
    failed (g.P.Printer.state c.args.self.now.printer).session c.args.item.now.head c.args.item.now.raw.now
    c.args.item.now.body.now c.args.self.now.selection c.admit.new.self.selection c.in-Some.head admitted
    (g.P.Printer.state c.args.self.now.printer).run_output fault is)
    (rw c.admit.ensures.printer at c.print.ensures.error)
