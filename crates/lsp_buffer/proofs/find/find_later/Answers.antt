use Rattle.lsp_buffer.proofs.Prelude.{arith, common_steps}
use Rattle.lsp_buffer.proofs.Queries.FoundLemmas.{same_found}
use Rattle.lsp_buffer.proofs.find.find_later.Goals as goal
use Rattle.std.proofs.lemmas.Grind.{common_steps}

pub returns-then-inner-len : goal.returns-then-inner-len
returns-then-inner-len c =
    grind (arith, common_steps, same_found)
