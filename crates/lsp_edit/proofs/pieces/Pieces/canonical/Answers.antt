use Rattle.lsp_edit.proofs.Prelude.{same_edited, units_in, arith, common_steps}
use Rattle.lsp_edit.proofs.Composing.AppliedLemmas.{keeps_seen}
use Rattle.lsp_edit.proofs.Batches.LawLemmas.{canonical_law, units_some}
use Rattle.lsp_edit.proofs.Canonical.PairLemmas.{pairs_kept}
use Rattle.lsp_edit.proofs.Canonical.RebuiltLemmas.{canonical_makes}
use Rattle.lsp_edit.proofs.pieces.Pieces.canonical.Goals as goal

pub canonical_of-requires-clause-keeps : goal.canonical_of-requires-clause-keeps
canonical_of-requires-clause-keeps c =
    rw (c.get-before.ensures, c.as_slice.ensures) c.self.invariant.0.keeps

pub returns : goal.returns
returns c =
    let keeps = keeps_seen _ _ _ _ c.args.self.now.edited c.self.invariant.0 (same_edited c.self.view_is) in
    let makes = canonical_makes (units_in c.args.encoding) (units_some c.args.encoding) c.args.self.now.edited.before
    c.args.self.now.edited.items keeps in record {
      batch = grind (arith, common_steps);
      means = makes.leaves 0;
      ranges = makes.ranges;
      pairs = pairs_kept c.args.self.now.edited.before c.args.self.now.edited.items keeps;
      law = λ batch is. canonical_law (units_in c.args.encoding) (units_some c.args.encoding)
          c.args.self.now.edited.before batch c.args.self.now.edited.items is;
    }
