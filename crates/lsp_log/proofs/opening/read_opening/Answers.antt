use Rattle.lsp_log.proofs.Prelude.{ℕ, ◌≡◌, ◌≤◌, ◌-◌, true, false, length, sym, ◌∙◌, arith, length-take, length-drop, false_from_ne_true, common_steps}
use Rattle.lsp_log.proofs.OpeningLemmas.{next_read, next_len, stays}
use Rattle.lsp_log.proofs.opening.read_opening.Goals as goal

pub returns-then-not-is_undecided-clause-read : goal.returns-then-not-is_undecided-clause-read
returns-then-not-is_undecided-clause-read g c =
    grind (
      arith,
      common_steps,
      next_read,
      length-take,
      length-drop,
      c.in_ok-n.ensures.bound,
      c.opening.invariant.read,
      c.in_ok-n.ensures.read,
    )

pub returns-then-not-is_undecided-clause-known : goal.returns-then-not-is_undecided-clause-known
returns-then-not-is_undecided-clause-known g c = λ more last.
    stays c.args.versions c.version_of-version.result _ more
    (λ looks front. last (c.is_undecided.ensures.no c.if-not-is_undecided.true looks front))
    c.version_of-version.ensures

pub opening-preserved : goal.opening-preserved
opening-preserved g c =
    let within : c.opening.len ≤ length c.opening.buf = omega arith in
    let long : length c.read_piece.new.buf ≡ length c.opening.buf - c.opening.len =
    omega (arith, c.read_piece.auto.buf, length-take {A = ℕ}, length-drop {A = ℕ}) in
    let front = c.is_undecided.ensures.yes c.if-not-is_undecided.false in
    let goes_on : (g.R.Source.seen c.read_piece.new.reader).ended ≡ false = grind (
      arith,
      common_steps,
      false_from_ne_true,
      c.in_ok-n.ensures.ended.0,
      c.is_undecided.ensures.not_ended,
      c.if-not-is_undecided.false,
    ) in
    record {
      within = grind (arith, common_steps, next_len, c.in_ok-n.ensures.bound);
      front = front;
      unread = λ no. absurd (let two : false ≡ true = sym no ∙ c.is_undecided.ensures.looked_for
          c.if-not-is_undecided.false in cc);
      read = next_read _ _ _ c.opening.len c.in_ok-n.n c.opening.buf c.read_piece.new.buf within long
          c.in_ok-n.ensures.bound c.opening.invariant.read c.in_ok-n.ensures.read;
      not_ended = λ _. goes_on;
      well = λ before. c.in_ok-n.ensures.calls.well (c.opening.invariant.well before);
      few = omega (arith, c.opening.invariant.few, c.in_ok-n.ensures.few.not_ended goes_on);
      spent = record {
        within = omega (arith, c.opening.invariant.spent.within, c.in_ok-n.ensures.calls.spent.within);
        least = omega (arith, c.opening.invariant.spent.least, c.in_ok-n.ensures.calls.spent.least);
        most = omega (arith, c.opening.invariant.spent.most, c.in_ok-n.ensures.calls.spent.most);
        exact = grind (
          arith,
          common_steps,
          c.opening.invariant.spent.exact,
          c.in_ok-n.ensures.calls.spent.exact,
          c.in_ok-n.ensures.calls.spent.least,
        );
      };
    }
