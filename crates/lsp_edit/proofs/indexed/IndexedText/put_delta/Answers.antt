use Rattle.lsp_edit.proofs.Prelude.{arith, err_from_is_err_and, inr, refl, units_in, common_steps}
use Rattle.lsp_edit.proofs.Composing.AppliedLemmas.{places_seen}
use Rattle.lsp_edit.proofs.Deltas.InPlaceLemmas.{range_fault, range_means, range_too_long, range_within}
use Rattle.lsp_edit.proofs.indexed.IndexedText.put_delta.Goals as goal

pub returns-in_err-start-clause-error : goal.returns-in_err-start-clause-error
returns-in_err-start-clause-error c =
    let p = err_from_is_err_and c.from_residual.result c.from_residual.ensures.1 in
    rw (p.1, p.2)
    (range_fault (units_in c.args.encoding) c.args.self.now c.len.ensures.utf8 c.args.range c.args.new.now c.utf8.new
    c.args.max_len _ (places_seen (units_in c.args.encoding) 0 c.args.range _ _ _ c.text.ensures
    c.in_err-start.ensures))

pub returns-then-len-max_len-clause-error : goal.returns-then-len-max_len-clause-error
returns-then-len-max_len-clause-error c =
    inr
    (range_too_long (units_in c.args.encoding) c.args.self.now c.len.ensures.utf8 c.args.range c.args.new.now c.utf8.new
    c.in_ok-start.start c.in_ok-start.stop
    (places_seen (units_in c.args.encoding) 0 c.args.range _ _ _ c.text.ensures c.in_ok-start.ensures) c.args.max_len
    (omega arith))

pub returns-clause-ok : goal.returns-clause-ok
returns-clause-ok c =
    let found = places_seen (units_in c.args.encoding) 0 c.args.range _ _ _ c.text.ensures c.in_ok-start.ensures in
    record {
      on = grind (arith, common_steps, c.requires.size, c.utf8.new, c.requires.fits);
      units_are = refl;
      means = range_means (units_in c.args.encoding) c.args.self.now c.len.ensures.utf8 c.args.range c.args.new.now
          c.utf8.new c.in_ok-start.start c.in_ok-start.stop found;
      is = range_within (units_in c.args.encoding) c.args.self.now c.len.ensures.utf8 c.args.range c.args.new.now
          c.utf8.new c.in_ok-start.start c.in_ok-start.stop found c.args.max_len (omega arith);
    }
