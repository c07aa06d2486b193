use Rattle.log_report.proofs.Prelude.{Some, sym, ap, ◌∙◌, arith, units_in}
use Rattle.log_report.proofs.Reports.NoteLemmas.{no_range_left, range_long, range_put}
use Rattle.log_report.proofs.notes.changes.replaced.leave_range.Goals as goal

pub returns-in_default-clause-left : goal.returns-in_default-clause-left
returns-in_default-clause-left c =
    no_range_left (units_in c.args.encoding) c.args.text.now c.len-len.ensures.utf8 c.args.range c.args.new.now
    c.utf8.new c.in_default.ensures.none

pub returns-then-len-stop-gt-MAX_OLD_TEXT-clause-left : goal.returns-then-len-stop-gt-MAX_OLD_TEXT-clause-left
returns-then-len-stop-gt-MAX_OLD_TEXT-clause-left c =
    range_long (units_in c.args.encoding) c.args.text.now c.len-len.ensures.utf8 c.args.range c.args.new.now c.utf8.new
    c.in-Some.start c.in-Some.stop c.in-Some.ensures.ends c.in-Some.ensures.order c.in-Some.ensures.start
    c.in-Some.ensures.stop
    (omega (arith, c.if-len-stop-gt-MAX_OLD_TEXT.true, c.len-len.ensures.len))

pub returns-clause-left : goal.returns-clause-left
returns-clause-left c =
    range_put (units_in c.args.encoding) c.args.text.now c.len-len.ensures.utf8 c.args.range c.args.new.now c.utf8.new
    c.in-Some.start c.in-Some.stop c.in-Some.ensures.ends c.in-Some.ensures.order c.in-Some.ensures.start
    c.in-Some.ensures.stop
    (omega (arith, c.if-len-stop-gt-MAX_OLD_TEXT.false, c.len-len.ensures.len))
    ∙ ap (λ t. Some t) (sym c.in_ok-replace_range.ensures.changed)
