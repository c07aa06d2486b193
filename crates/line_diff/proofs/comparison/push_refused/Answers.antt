use Rattle.line_diff.proofs.Prelude.{◌≡◌, true, false, append_assoc, arith, nat_tests}
use Rattle.std.specs.Prelude.{nat_lt}
use Rattle.line_diff.proofs.comparison.push_refused.Goals as goal

pub returns-then-refusals-le-NAMED : goal.returns-then-refusals-le-NAMED
returns-then-refusals-le-NAMED c =
    let few : nat_lt 5 c.args.refusals ≡ false = grind (arith, nat_tests) in
    rw (
      c.in_ok-push_words-2.ensures,
      c.in_ok-extend_from_slice.ensures.items,
      c.in_ok-push_words.ensures,
      few,
    ) (simp append_assoc)

pub returns : goal.returns
returns c =
    let many : nat_lt 5 c.args.refusals ≡ true = grind (arith, nat_tests) in
    rw (
      c.in_ok-push_words-4.ensures,
      c.in_ok-push_number.ensures,
      c.in_ok-push_words-3.ensures,
      c.in_ok-extend_from_slice.ensures.items,
      c.in_ok-push_words.ensures,
      many,
    ) (simp append_assoc)
