use Rattle.log_rewrite.proofs.Prelude.{sym, ◌∙◌, option_map, string_bytes, part_data, refreshed, body_view, found_now, verdict_view, record_of}
use Rattle.log_rewrite.proofs.Parts.PartLemmas.{found_next, part_continues, part_ends}
use Rattle.log_rewrite.proofs.printer.part.ReplayPartPrinter.print.Goals as goal

pub returns-then-not-is_last-clause-ok : goal.returns-then-not-is_last-clause-ok
returns-then-not-is_last-clause-ok c = λ more.
    let r = record_of c.args.item.now in
    let part = part_data c.args.self.now.part in
    let s = c.args.self.now.session in
    let verdict = verdict_view c.in_ok-verdict.verdict in
    let judged = c.in_ok-verdict.ensures.taken c.args.item.now.body.now c.requires.is_read in
    let session = c.in_ok-verdict.ensures.session c.args.item.now.body.now c.requires.is_read in
    let next = found_next part s c.accept.new.self r verdict judged session (body_view c.args.read) c.requires.is_read
    c.args.self.now.chosen c.keep.new.self c.take.new.self (option_map string_bytes c.in_ok-closed.closed)
    (option_map string_bytes c.in_ok-uri.uri) (option_map string_bytes c.opened_if-opened.result)
    (rw c.uri-found.ensures at c.in_ok-closed.ensures) c.in_ok-uri.ensures c.opened_if-opened.ensures c.keep.ensures
    (rw c.as_deref.ensures.value at c.take.ensures) in
    rw c.more.ensures
    (part_continues part (found_now c.args.self.now) s r c.accept.new.self verdict
    (refreshed c.accept.new.self.server.table c.take.new.self) judged c.in_ok-verdict.ensures.in_log session next
    c.args.buffer.now.items c.requires.empty (sym c.is_last.ensures ∙ c.if-not-is_last.true) more)

pub returns-clause-ok : goal.returns-clause-ok
returns-clause-ok c = λ more.
    let r = record_of c.args.item.now in
    let part = part_data c.args.self.now.part in
    let s = c.args.self.now.session in
    let verdict = verdict_view c.in_ok-verdict.verdict in
    let judged = c.in_ok-verdict.ensures.taken c.args.item.now.body.now c.requires.is_read in
    let session = c.in_ok-verdict.ensures.session c.args.item.now.body.now c.requires.is_read in
    let next = found_next part s c.accept.new.self r verdict judged session (body_view c.args.read) c.requires.is_read
    c.args.self.now.chosen c.keep.new.self c.take.new.self (option_map string_bytes c.in_ok-closed.closed)
    (option_map string_bytes c.in_ok-uri.uri) (option_map string_bytes c.opened_if-opened.result)
    (rw c.uri-found.ensures at c.in_ok-closed.ensures) c.in_ok-uri.ensures c.opened_if-opened.ensures c.keep.ensures
    (rw c.as_deref.ensures.value at c.take.ensures) in
    part_ends part (found_now c.args.self.now) s r c.accept.new.self verdict
    (refreshed c.accept.new.self.server.table c.take.new.self) judged c.in_ok-verdict.ensures.in_log session next
    c.push_report.new.buffer.items c.in_ok-outcome.outcome
    (sym c.is_last.ensures ∙ c.if-not-is_last.false)
    (rw c.requires.empty at c.in_ok-outcome.ensures.bytes) c.in_ok-outcome.ensures.outcome more
