use Rattle.lsp_simulate.proofs.Prelude.{subst, IsReported, RunFault}
use Rattle.lsp_simulate.proofs.run.end_output.Goals as goal

pub returns-in-Err : goal.returns-in-Err
returns-in-Err g c =
    rw c.in-Err.is
    (subst (λ (fault : RunFault).
    IsReported fault (g.E.Sink.seen c.args.errors.now) (g.E.Sink.seen c.report.new.errors) c.report.result)
    c.from.ensures c.report.ensures)
