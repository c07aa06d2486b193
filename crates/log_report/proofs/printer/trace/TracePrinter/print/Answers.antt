use Rattle.log_report.proofs.Prelude.{◌≡◌, ◌++◌, ◌∷◌, sym, ap, subst, ◌∙◌, nil_from_length, reading, incoming_of, one_more, written_first, first_members, tracing, record_of, output_in, lines}
use Rattle.log_report.specs.declared.printer.trace.Trace.{Trace}
use Rattle.log_report.proofs.KnownLemmas.{line_first}
use Rattle.log_session.specs.Canonical.{canonical_change_body}
use Rattle.log_session.proofs.Records.TakenLemmas.{seen_written}
use Rattle.log_report.proofs.Reports.TraceLemmas.{line_is}
use Rattle.log_report.proofs.printer.trace.TracePrinter.print.Goals as goal

pub returns-clause-ok : goal.returns-clause-ok
returns-clause-ok c = λ more.
    let r = record_of c.args.item.now in
    let old = c.push_asked.new.self in
    let same = c.push_asked.ensures.unchanged in
    let t = c.take.new.session in
    let bytes = c.push_facts.new.buffer.items in
    let facts = c.in_ok-facts.ensures.facts in
    let session = c.in_ok-facts.ensures.session in
    let before = c.clear.new.self in
    let written = seen_written canonical_change_body old.session t c.args.item.now.head c.args.item.now.body.now before
    c.take.new.witness (λ same. same) c.in_ok-clear.ensures.nothing c.in_ok-facts.ensures.shown in
    let members = subst (λ (trace : Trace). c.push_asked.new.buffer.items ≡ c.args.buffer.now.items
    ++ first_members (one_more trace.session.records) r.head (incoming_of (reading r.body)))
    (sym same) c.in_ok-is_json.ensures.members in
    rw c.more.ensures
    (subst (λ (trace : Trace). output_in (lines (tracing trace.details)) trace.known trace.session (r ∷ more)
    ≡ written_first bytes (output_in (lines (tracing old.details)) c.take.new.self t more)) same
    (line_first (tracing old.details) old.known old.session r (λ e. c.in_ok-facts.ensures.in_log (ap (λ f. f.verdict)
    facts.are ∙ e))
    bytes
    (line_is old.details old.known old.session r t session c.in_ok-facts.facts facts c.take.new.witness
    before.bytes.items (nil_from_length before.bytes.items c.in_ok-clear.ensures.room) written c.in_ok-is_json.is_json
    c.in_ok-is_json.ensures.is_json c.args.buffer.now.items c.push_asked.new.buffer.items _ c.requires.empty members
    c.in_ok-push_facts.ensures)
    t session c.take.new.self c.in_ok-facts.ensures.known more))
