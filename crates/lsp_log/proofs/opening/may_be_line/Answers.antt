use Rattle.lsp_log.proofs.Prelude.{arith, common_steps}
use Rattle.lsp_log.proofs.OpeningLemmas.{front_yes, front_no}
use Rattle.lsp_log.proofs.opening.may_be_line.Goals as goal

pub returns-then-bytes : goal.returns-then-bytes
returns-then-bytes c = grind (arith, common_steps, front_yes, front_no, c.starts_with.ensures.value, c.if-bytes.true)
