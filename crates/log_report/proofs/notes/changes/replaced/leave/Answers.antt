use Rattle.log_report.proofs.Prelude.{◌∙◌, arith, units_in}
use Rattle.log_session.proofs.Records.TakenLemmas.{if_ok}
use Rattle.log_report.proofs.Reports.NoteLemmas.{all_left, nothing_left, range_left}
use Rattle.log_report.proofs.notes.changes.replaced.leave.Goals as goal

pub returns-then-len-gt-MAX_NEW_TEXT-clause-left : goal.returns-then-len-gt-MAX_NEW_TEXT-clause-left
returns-then-len-gt-MAX_NEW_TEXT-clause-left c =
    nothing_left (units_in c.args.encoding) c.args.text.now c.args.change.now
    (omega (arith, c.if-len-gt-MAX_NEW_TEXT.true, c.len.ensures))

-- The change is the whole text.
pub returns-in_ok-text-in-None-clause-left : goal.returns-in_ok-text-in-None-clause-left
returns-in_ok-text-in-None-clause-left c =
    all_left (units_in c.args.encoding) c.args.text.now c.args.change.now _
    (omega (arith, c.if-len-gt-MAX_NEW_TEXT.false, c.len.ensures)) c.in-None.is
    (c.in_ok-text-in-None.ensures ∙ (c.in_ok-from_str-in-None.ensures.ok ∙ c.deref.ensures))

pub returns-in-Some-clause-left : goal.returns-in-Some-clause-left
returns-in-Some-clause-left c =
    if_ok c.leave_range.result
    (λ is_left is. range_left (units_in c.args.encoding) c.args.text.now c.args.change.now c.in-Some.range _
    (omega (arith, c.if-len-gt-MAX_NEW_TEXT.false, c.len.ensures)) c.in-Some.is is)
    (rw c.deref-in-Some.ensures at c.leave_range.ensures.left)
