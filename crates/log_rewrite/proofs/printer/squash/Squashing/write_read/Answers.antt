use Rattle.log_rewrite.proofs.Prelude.{◌≢◌, inr, err_from_is_err_and, bad, verdict_view, record_of}
use Rattle.log_rewrite.proofs.Squash.SeenLemmas.{seen_joined, seen_open, unjoined}
use Rattle.log_rewrite.proofs.Squash.PrintLemmas.{told_as_it_is, told_bad, told_more, told_next, told_too_long}
use Rattle.log_rewrite.proofs.printer.squash.Squashing.write_read.Goals as goal

-- any record but an accepted change
pub returns-in_default-clause-ok : goal.returns-in_default-clause-ok
returns-in_default-clause-ok c =
    rw (← c.self.view_is)
    (let not_bad : verdict_view c.in_ok-taken.taken.verdict ≢ bad = c.in_ok-in_log.ensures.in_log in
    let taken = c.in_ok-taken.ensures c.args.item.now.head c.args.item.now.body.now c.requires.is_read in
    let s = c.self.inside.session in
    let writing = seen_joined c.new-joiner.ensures taken in
    let ended = unjoined c.new-joiner.ensures taken c.in_default.is in
    record {
      session = taken.session;
      step = told_as_it_is s c.self.inside.texts.front.items c.self.inside.texts.singles.items c.self.inside.batches
          (record_of c.args.item.now)
          (verdict_view c.in_ok-taken.taken.verdict) taken.judged
          c.take.result c.take.ensures.value c.args.buffer.now.items c.requires.empty
          c.take-2.new.witness.batches ended not_bad (rw (c.in_default.is, ← taken.judged) at writing)
          c.push_end.new.output.items c.push_front.new.output.items c.extend_from_slice.new.self.items
          c.in_ok-push_end.ensures c.in_ok-push_front.ensures
          c.in_ok-extend_from_slice.ensures.items
          c.take.new.self c.take.ensures.after _ _;
    })

pub returns-in_err-in_log-clause-error : goal.returns-in_err-in_log-clause-error
returns-in_err-in_log-clause-error c =
    let taken = c.in_ok-taken.ensures c.args.item.now.head c.args.item.now.body.now c.requires.is_read in
    let p = err_from_is_err_and c.from_residual-in_err-in_log.result c.from_residual-in_err-in_log.ensures.1 in
    rw (← c.self.view_is, p.1, p.2, c.in_err-in_log.ensures.error.0)
    (inr (
      tt,
      told_bad c.self.inside.session c.self.inside.texts.front.items c.self.inside.texts.singles.items
          c.self.inside.batches
          (record_of c.args.item.now)
          (verdict_view c.in_ok-taken.taken.verdict) taken.judged c.in_err-in_log.ensures.error.1,
    ))

pub returns-in-TooLong-clause-error : goal.returns-in-TooLong-clause-error
returns-in-TooLong-clause-error c =
    rw (← c.self.view_is)
    (let taken = c.in_ok-taken.ensures c.args.item.now.head c.args.item.now.body.now c.requires.is_read in
    let s = c.self.inside.session in
    let writing = rw (c.in-Some.is, c.in-TooLong.is, ← taken.judged) at (seen_joined c.new-joiner.ensures taken) in
    inr (
      tt,
      told_too_long s c.self.inside.texts.front.items c.self.inside.texts.singles.items c.self.inside.batches
          (record_of c.args.item.now)
          (verdict_view c.in_ok-taken.taken.verdict) taken.judged writing.0 writing.1 writing.2 writing.3,
    ))

pub returns-in-Continues-clause-ok : goal.returns-in-Continues-clause-ok
returns-in-Continues-clause-ok c =
    rw (← c.self.view_is)
    (let taken = c.in_ok-taken.ensures c.args.item.now.head c.args.item.now.body.now c.requires.is_read in
    let s = c.self.inside.session in
    let writing = rw (c.in-Some.is, c.in-Continues.is, ← taken.judged) at (seen_joined c.new-joiner.ensures taken) in
    record {
      session = taken.session;
      step = told_more s c.self.inside.texts.front.items c.self.inside.texts.singles.items c.self.inside.batches
          (record_of c.args.item.now)
          (verdict_view c.in_ok-taken.taken.verdict) taken.judged
          c.take.result c.take.ensures.value c.args.buffer.now.items c.requires.empty
          c.in-Continues.frame.items c.in-Continues.batches writing.0 writing.1
          c.deref.result.now c.continue_with.new.self.front.items c.continue_with.new.self.singles.items
          c.deref.ensures.value c.in_ok-continue_with-in-Continues.ensures.front
          c.in_ok-continue_with-in-Continues.ensures.singles;
    })

pub returns-clause-ok : goal.returns-clause-ok
returns-clause-ok c =
    rw (← c.self.view_is)
    (let taken = c.in_ok-taken.ensures c.args.item.now.head c.args.item.now.body.now c.requires.is_read in
    let s = c.self.inside.session in
    let writing = rw (c.in-Some.is, c.in-Begins.is, ← taken.judged) at (seen_joined c.new-joiner.ensures taken) in
    record {
      session = taken.session;
      step = told_next s c.self.inside.texts.front.items c.self.inside.texts.singles.items c.self.inside.batches
          (record_of c.args.item.now)
          (verdict_view c.in_ok-taken.taken.verdict) taken.judged
          c.take.result c.take.ensures.value c.args.buffer.now.items c.requires.empty
          c.in-Begins.frame.items c.in-Begins.ended c.in-Begins.batches writing.0 writing.1 writing.2 writing.3
          c.push_end-in-Begins.new.output.items c.deref-in-Begins.result.now c.begin.new.self.front.items
          c.begin.new.self.singles.items
          c.in_ok-push_end-in-Begins.ensures c.deref-in-Begins.ensures.value c.in_ok-begin-in-Begins.ensures.front
          c.in_ok-begin-in-Begins.ensures.singles;
    })

-- the batches that are open then
pub invariant_of-self-in-Continues : goal.invariant_of-self-in-Continues
invariant_of-self-in-Continues c =
    let taken = c.in_ok-taken.ensures c.args.item.now.head c.args.item.now.body.now c.requires.is_read in
    rw c.in-Continues.is at (seen_open c.new-joiner.ensures taken c.in-Some.writing c.in-Some.is)

pub invariant_of-self-in-Begins : goal.invariant_of-self-in-Begins
invariant_of-self-in-Begins c =
    let taken = c.in_ok-taken.ensures c.args.item.now.head c.args.item.now.body.now c.requires.is_read in
    rw c.in-Begins.is at (seen_open c.new-joiner.ensures taken c.in-Some.writing c.in-Some.is)
