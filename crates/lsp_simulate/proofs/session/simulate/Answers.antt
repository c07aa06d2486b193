use Rattle.lsp_simulate.proofs.Prelude.{ℕ, List, Option, false, is_some, ap, ◌∙◌, subst, Vec, Global, err_from_is_err_and, Appends, AppendsFront, Spends, allowed_turns, rose_after, spends_more, Passed, lines_in, rest, unused}
use Rattle.lsp_simulate.proofs.InputLemmas.{none_spent, nothing_taken}
use Rattle.lsp_simulate.proofs.SessionLemmas.{begun, end_cut, ended, out_of_memory, stepped, stopped, unread, unwritten}
use Rattle.lsp_simulate.proofs.session.simulate.Goals as goal

pub events-init : goal.events-init
events-init g c =
    let input = g.R.Source.seen c.args.input.now in
    record {
      way = begun c.args.setting input.left (rest c.new-lines.result input) (g.W.Sink.seen c.args.output.now)
          c.new-turns.result.left c.in_ok-pair.pair c.in_ok-pair.ensures.sound c.in_ok-pair.ensures.new
          c.new-turns.ensures (nothing_taken input.left (unused c.new-lines.result) c.new-lines.ensures.unused);
      reads = none_spent input.calls allowed_turns c.new-lines.result.turns.left c.new-lines.ensures.turns;
    }

pub returns-in_err-text-in-Ok-Some : goal.returns-in_err-text-in-Ok-Some
returns-in_err-text-in-Ok-Some g c =
    let p = err_from_is_err_and c.from_residual-in_err-text-in-Ok-Some.result
    c.from_residual-in_err-text-in-Ok-Some.ensures.1 in
    let there = rest c.events.lines (g.R.Source.seen c.events.input) in
    let after = rest c.next.new.self (g.R.Source.seen c.next.new.input) in
    let one = subst (λ (line : Option (Vec ℕ Global)). Passed there (lines_in line) false after)
    c.in-Ok-Some.field-0-is c.in-Ok-Some.ensures.taken in
    rw (p.1, p.2)
    (stopped _ (g.R.Source.seen c.args.input.now) (g.R.Source.seen c.next.new.input) _ _ _ _ _ _ c.events.invariant.way
    _ _ _ c.saturating_add-number.ensures one c.in_err-text-in-Ok-Some.ensures.error)

pub returns-in_err-write_given-in-Ok-Some : goal.returns-in_err-write_given-in-Ok-Some
returns-in_err-write_given-in-Ok-Some g c =
    let p = err_from_is_err_and c.from_residual-in_err-write_given-in-Ok-Some.result
    c.from_residual-in_err-write_given-in-Ok-Some.ensures.1 in
    let there = rest c.events.lines (g.R.Source.seen c.events.input) in
    let after = rest c.next.new.self (g.R.Source.seen c.next.new.input) in
    let one = subst (λ (line : Option (Vec ℕ Global)). Passed there (lines_in line) false after)
    c.in-Ok-Some.field-0-is c.in-Ok-Some.ensures.taken in
    let mid = g.W.Sink.seen c.events.output in
    let new = g.W.Sink.seen c.write_given.new.writer in
    rw p.1
    (unwritten _ (g.R.Source.seen c.args.input.now) (g.R.Source.seen c.next.new.input) _ mid _ _ _ _ _ _
    c.events.invariant.way one c.saturating_add-number.ensures _ _ new _ _ _ p.2
    c.in_ok-text-in-Ok-Some.ensures.stepped c.in_err-write_given-in-Ok-Some.ensures.error
    (subst (λ (z : List ℕ). AppendsFront mid.written new.written z) c.deref-in-Ok-Some.ensures.value
    c.in_err-write_given-in-Ok-Some.ensures.front) c.in_err-write_given-in-Ok-Some.ensures.calls)

pub events-preserved : goal.events-preserved
events-preserved g c =
    let there = rest c.events.lines (g.R.Source.seen c.events.input) in
    let after = rest c.next.new.self (g.R.Source.seen c.next.new.input) in
    let one = subst (λ (line : Option (Vec ℕ Global)). Passed there (lines_in line) false after)
    c.in-Ok-Some.field-0-is c.in-Ok-Some.ensures.taken in
    let mid = g.W.Sink.seen c.events.output in
    let new = g.W.Sink.seen c.write_given.new.writer in
    record {
      way = stepped _ (g.R.Source.seen c.args.input.now) (g.R.Source.seen c.next.new.input) _ mid _ _ _ _ _ _
          c.events.invariant.way one c.saturating_add-number.ensures _ _ new _ c.in_ok-text-in-Ok-Some.ensures.stepped
          (subst (λ (z : List ℕ). Appends mid.written new.written z) c.deref-in-Ok-Some.ensures.value
          c.in_ok-write_given-in-Ok-Some.ensures.wrote) c.in_ok-write_given-in-Ok-Some.ensures.calls.spent;
      reads = spends_more _ _ _ _ _ _ c.events.invariant.reads c.next.ensures.spent;
    }

pub returns-in_err-text-in-Ok-None : goal.returns-in_err-text-in-Ok-None
returns-in_err-text-in-Ok-None g c =
    let p = err_from_is_err_and c.from_residual-in_err-text-in-Ok-None.result
    c.from_residual-in_err-text-in-Ok-None.ensures.1 in
    rw (p.1, p.2)
    (out_of_memory _ (g.R.Source.seen c.args.input.now) (g.R.Source.seen c.next.new.input) _ _ _ _ _ _
    c.events.invariant.way)

pub returns-in_err-write_given-in-Ok-None : goal.returns-in_err-write_given-in-Ok-None
returns-in_err-write_given-in-Ok-None g c =
    let p = err_from_is_err_and c.from_residual-in_err-write_given-in-Ok-None.result
    c.from_residual-in_err-write_given-in-Ok-None.ensures.1 in
    rw p.1
    (end_cut _ (g.R.Source.seen c.args.input.now) (g.R.Source.seen c.next.new.input) _ _ _ _ _ _
    c.events.invariant.way (g.W.Sink.seen c.write_given-in-Ok-None.new.writer) _ _ _ _ p.2
    (c.deref-in-Ok-None.ensures.value ∙ c.in_ok-text-in-Ok-None.ensures)
    c.in_err-write_given-in-Ok-None.ensures.error c.in_err-write_given-in-Ok-None.ensures.front
    c.in_err-write_given-in-Ok-None.ensures.calls)

pub returns-in-Ok-None : goal.returns-in-Ok-None
returns-in-Ok-None g c =
    let there = rest c.events.lines (g.R.Source.seen c.events.input) in
    let after = rest c.next.new.self (g.R.Source.seen c.next.new.input) in
    let none = subst (λ (line : Option (Vec ℕ Global)). Passed there (lines_in line) false after)
    c.in-Ok-None.field-0-is c.in-Ok-None.ensures.taken in
    let mid = g.W.Sink.seen c.events.output in
    let new = g.W.Sink.seen c.write_given-in-Ok-None.new.writer in
    let end = c.in-Ok-None.ensures.end (ap (λ (line : Option (Vec ℕ Global)). is_some line) c.in-Ok-None.field-0-is) in
    ended _ (g.R.Source.seen c.args.input.now) (g.R.Source.seen c.next.new.input) _ _ _ _ _ _ c.events.invariant.way
    after new end.0 none end.1 (subst (λ (z : List ℕ). Appends mid.written new.written z)
    (c.deref-in-Ok-None.ensures.value ∙ c.in_ok-text-in-Ok-None.ensures) c.in_ok-write_given-in-Ok-None.ensures.wrote)

pub returns-in-Err : goal.returns-in-Err
returns-in-Err g c =
    let input = g.R.Source.seen c.args.input.now in
    let mid = g.R.Source.seen c.events.input in
    let now = g.R.Source.seen c.next.new.input in
    rw c.read_fault.ensures
    (unread _ input now _ _ _ _ _ _ c.events.invariant.way c.in-Err.fault c.in-Err.ensures.error
    (λ is. (
      (c.in-Err.ensures.failed is).0,
      rose_after input.calls mid.calls now.calls c.events.invariant.reads.least (c.in-Err.ensures.failed is).1,
    ))
    (λ is. subst (λ (n : ℕ). Spends input.calls now.calls allowed_turns n) (c.in-Err.ensures.none_left is)
    (spends_more _ _ _ _ _ _ c.events.invariant.reads c.next.ensures.spent)))
