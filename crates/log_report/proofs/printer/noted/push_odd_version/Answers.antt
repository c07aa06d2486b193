use Rattle.log_report.proofs.Prelude.{◌≡◌, ◌++◌, changes_words, codes, rules, signed_decimal, usual_words}
use Rattle.log_report.proofs.Reports.MemberLemmas.{eight_words}
use Rattle.log_report.proofs.printer.noted.push_odd_version.Goals as goal

pub returns : goal.returns
returns c =
    let first : c.push_came_after.new.buffer.items
    ≡ c.args.buffer.now.items ++ codes "version " ++ signed_decimal c.args.sent ++ codes " came after "
    ++ signed_decimal c.args.before = search rules in
    eight_words c.push_usual.result _ c.args.buffer.now.items (codes "version ") (signed_decimal c.args.sent)
    (codes " came after ") (signed_decimal c.args.before) (codes ", with ") (changes_words c.args.changes)
    (codes ", and until here it grew by ") (usual_words c.args.usual)
    (rw (c.in_ok-push_words-2.ensures, c.in_ok-push_changes.ensures, c.in_ok-push_words.ensures, first) at
    c.push_usual.ensures)
