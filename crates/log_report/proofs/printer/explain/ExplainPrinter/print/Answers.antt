use Rattle.log_report.proofs.Prelude.{ap, ◌∙◌, explaining, Session, record_of}
use Rattle.log_report.proofs.Reports.ExplainLemmas.{line_is}
use Rattle.log_report.proofs.KnownLemmas.{line_first}
use Rattle.log_report.proofs.printer.explain.ExplainPrinter.print.Goals as goal

pub returns-clause-ok : goal.returns-clause-ok
returns-clause-ok c = λ more.
    let r = record_of c.args.item.now in
    let listing = c.args.self.now.listing in
    let known = c.args.self.now.known in
    let s = c.args.self.now.session in
    let facts = c.in_ok-facts.ensures.facts in
    let session = c.in_ok-facts.ensures.session in
    let limits = ap (λ (u : Session). u.server.config.limits) session in
    rw c.more.ensures
    (line_first (explaining listing) known s r (λ e. c.in_ok-facts.ensures.in_log (ap (λ f. f.verdict) facts.are ∙ e))
    c.push_facts.new.buffer.items
    (line_is listing known s r c.take.new.session.server.config.limits limits c.in_ok-facts.facts facts
    c.args.buffer.now.items _ c.requires.empty c.in_ok-push_facts.ensures)
    c.take.new.session session c.take.new.self c.in_ok-facts.ensures.known more)
