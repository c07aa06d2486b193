use Rattle.log_session.proofs.Prelude.{rules, refl}
use Rattle.log_session.proofs.Runs.ReplayLemmas.{report_part}
use Rattle.log_session.proofs.printer.replay.ReplayPrinter.finish.Goals as goal

pub returns-clause-ok : goal.returns-clause-ok
returns-clause-ok c =
    let part = report_part c.args.self.now.next c.args.self.now.session.server.table c.in-Some.document
    (search rules) in
    (rw (c.in_ok-push_document_line.ensures, c.requires) part.0, refl, part.1)
