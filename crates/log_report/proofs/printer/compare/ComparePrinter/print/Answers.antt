use Rattle.log_report.proofs.Prelude.{[], ap, refl, ◌∙◌, comparing, reading, incoming_of, learned, uri_of, judge, record_of, writes}
use Rattle.log_report.specs.Compare.{closed_text, if_ends_so, splices_in}
use Rattle.log_session.proofs.Records.OutputLemmas.{output_after, unless_not}
use Rattle.log_session.specs.Session.{Session, Verdict}
use Rattle.log_session.specs.inside.Verdicts.{verdict_view}
use Rattle.log_report.proofs.Reports.CompareLemmas.{learned_at, learned_read}
use Rattle.log_report.proofs.printer.compare.ComparePrinter.print.Goals as goal

pub returns-clause-ok : goal.returns-clause-ok
returns-clause-ok c = λ more.
    let r = record_of c.args.item.now in
    let s = c.args.self.now.session in
    let old = c.args.self.now.comparison in
    let t = c.accept.new.self in
    let body = c.args.item.now.body.now in
    let verdict = verdict_view c.in_ok-verdict.verdict in
    let judged = c.in_ok-verdict.ensures.taken body c.requires.is_read in
    let session = c.in_ok-verdict.ensures.session body c.requires.is_read in
    let by_read = rw (
      c.as_deref.ensures.value,
      c.as_deref-2.ensures.value,
      c.in_ok-uri.ensures,
      c.in_ok-splices.ensures,
      c.in_ok-text.ensures,
    ) at c.in_ok-learn.ensures.comparison in
    let m = incoming_of (reading body) in
    let after = λ (v : Verdict) (u : Session). learned (closed_text old.document s.server m)
    (splices_in old.ending s.server m) (if_ends_so old.ending (uri_of r.head.side m)) v u old in
    let next = by_read ∙ ap (learned_at s t old verdict r.head.version body) c.requires.is_read
    ∙ learned_read s t old verdict r.head.version body r.head.side
    ∙ ap (λ (v : Verdict). after v t) judged ∙ ap (after (judge s r).verdict) session in
    rw c.more.ensures
    (output_after comparing old s r (writes [])
    (unless_not r (judge s r).verdict (writes []) (λ e. c.in_ok-verdict.ensures.in_log (judged ∙ e)))
    c.learn.new.self.comparison next c.learn.new.self.session (c.in_ok-learn.ensures.session ∙ session) more
    ∙ rw c.requires.empty refl)
