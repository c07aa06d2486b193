use Rattle.lsp_edit.proofs.Prelude.{arith, common_steps}
use Rattle.lsp_edit.proofs.Parts.PassingLemmas.{ended_behind}
use Rattle.lsp_edit.proofs.pieces.replace.ended_by.Goals as goal

pub returns-clause-front : goal.returns-clause-front
returns-clause-front c =
    grind (
      arith,
      common_steps,
      ended_behind,
      c.passed_by.ensures.passed,
      c.passed_by.ensures.before,
      c.passed_by.ensures.rest_after,
      c.requires.cut,
    )
