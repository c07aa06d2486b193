use Rattle.std.proofs.Common.{◌≡◌, ℕ, false, take, drop, sym, arith}
use Rattle.std.proofs.lemmas.Bool.{false_from_ne_true}
use Rattle.std.proofs.lemmas.Result.{err_from_is_err_and}
use Rattle.std.proofs.lemmas.List.{length-take, length-drop, take-append-drop}
use Rattle.lsp_stream.proofs.PortLemmas.{kept, not_all, nothing_more, more_written}
use Rattle.lsp_stream.proofs.turns.write_out.Goals as goal

pub returns-in_err-spend-clause-front : goal.returns-in_err-spend-clause-front
returns-in_err-spend-clause-front g c =
    let p = err_from_is_err_and c.from_residual.result c.from_residual.ensures.1 in
    rw p.1 (
      take c.writes.at c.args.bytes.now,
      drop c.writes.at c.args.bytes.now,
      sym (take-append-drop c.writes.at c.args.bytes.now),
      c.writes.invariant.wrote,
    )

pub returns-in_err-spend-clause-short : goal.returns-in_err-spend-clause-short
returns-in_err-spend-clause-short g c =
    let p = err_from_is_err_and c.from_residual.result c.from_residual.ensures.1 in
    rw (p.1, p.2) (λ _. not_all _ _ c.args.bytes.now c.writes.at c.writes.invariant.wrote c.writes-test.true)

pub returns-in-Ok-eq0-clause-front : goal.returns-in-Ok-eq0-clause-front
returns-in-Ok-eq0-clause-front g c = nothing_more _ _ _ c.args.bytes.now _ c.writes.at c.in-Ok-eq0.field-0
    c.writes.invariant.wrote c.in-Ok-eq0.ensures.bytes c.in-Ok-eq0.field-0-test

pub writes-preserved-in-Ok : goal.writes-preserved-in-Ok
writes-preserved-in-Ok g c =
    let well : (g.W.Sink.seen c.write.new.self).failed ≡ false = false_from_ne_true _
    (λ failed. omega (arith, c.in-Ok.n-test, (c.in-Ok.ensures.failed.0 failed).0)) in
    record {
      within = omega (arith, c.in-Ok.ensures.bound, length-take {A = ℕ}, length-drop {A = ℕ});
      wrote = more_written _ _ _ c.args.bytes.now c.writes.at c.in-Ok.n c.writes.invariant.wrote c.in-Ok.ensures.bytes;
      well = λ before. well;
      few = omega (
        arith,
        c.writes.invariant.few,
        c.in-Ok.ensures.few (omega (arith, c.in-Ok.n-test, c.in-Ok.ensures.bound)) well,
      );
      spent = record {
        within = omega (arith, c.writes.invariant.spent.within, c.in_ok-spend.ensures.spent);
        least = omega (arith, c.writes.invariant.spent.least, c.in-Ok.ensures.counted);
        most = omega (arith, c.writes.invariant.spent.most, c.in_ok-spend.ensures.spent, c.in-Ok.ensures.counted);
        exact = λ h. omega (
          arith,
          h,
          c.writes.invariant.spent.exact,
          c.in_ok-spend.ensures.spent,
          c.in-Ok.ensures.counted,
        );
      };
    }

pub returns-then-not-is_interrupted-clause-front : goal.returns-then-not-is_interrupted-clause-front
returns-then-not-is_interrupted-clause-front g c =
    kept _ _ _ c.args.bytes.now c.writes.at c.writes.invariant.wrote c.in-Err.ensures.bytes
