use Rattle.log_report.proofs.Prelude.{ap, body_view}
use Rattle.log_report.proofs.KnownLemmas.{facts_are, known_is}
use Rattle.log_report.proofs.facts.Known.take.Goals as goal

pub returns-clause-facts : goal.returns-clause-facts
returns-clause-facts g c =
    let about = rw (c.server.ensures, ap (λ k. k.documents) c.self.view_is, ap (λ k. k.ranged) c.self.view_is) at
    (c.in_ok-about.ensures c.requires.noted) in
    let taken = c.in_ok-taken.ensures c.args.item.now.head c.args.item.now.body.now c.requires.is_read in
    facts_are c.args.self.now c.args.session.now c.args.item.now.head c.args.item.now.body.now
    (body_view c.args.read) c.requires.is_read c.in_ok-about.about about c.take.new.self c.in_ok-taken.taken taken
    c.records.result c.records.ensures c.args.item.now.raw.now _
    c.in_ok-learn.ensures.facts

pub returns-clause-known : goal.returns-clause-known
returns-clause-known g c =
    let about = rw (c.server.ensures, ap (λ k. k.documents) c.self.view_is, ap (λ k. k.ranged) c.self.view_is) at
    (c.in_ok-about.ensures c.requires.noted) in
    let taken = c.in_ok-taken.ensures c.args.item.now.head c.args.item.now.body.now c.requires.is_read in
    known_is c.args.self.now c.args.session.now c.args.item.now.head c.args.item.now.body.now
    (body_view c.args.read) c.requires.is_read c.in_ok-about.about about c.take.new.self c.in_ok-taken.taken taken
    c.records.result c.records.ensures _
    c.in_ok-learn.ensures.known
