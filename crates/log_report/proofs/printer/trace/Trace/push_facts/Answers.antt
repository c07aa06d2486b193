use Rattle.log_report.proofs.Reports.MemberLemmas.{last_is, on_ok}
use Rattle.log_report.proofs.printer.trace.Trace.push_facts.Goals as goal

pub returns : goal.returns
returns c =
    let document = rw (c.as_deref.ensures.value, c.store-store.ensures, c.server.ensures) at
    c.document_of-document.ensures in
    let limits = rw (c.store-store.ensures, c.server.ensures) at c.limits.ensures in
    on_ok c.push_words.result
    (last_is _ _ _ _ _ _ _ _ c.args.buffer.now.items _ _ _ _ _ _ _ _ _
    c.in_ok-push_word.ensures (rw limits at c.in_ok-push_why.ensures) c.in_ok-push_mention.ensures
    (rw c.deref.ensures.value at c.in_ok-push_noted.ensures) (rw document at c.in_ok-push_version.ensures)
    (rw c.deref-2.ensures.value at c.in_ok-push_canonical.ensures)
    (rw (document, c.has_text-has_text.ensures) at c.in_ok-push_text.ensures)
    (rw c.has_body-has_body.ensures at c.in_ok-push_body.ensures))
    c.push_words.ensures
