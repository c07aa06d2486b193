use Rattle.lsp_text.proofs.Prelude.{arith, common_steps}
use Rattle.lsp_text.proofs.TextLines.IndexesLemmas.{indexes_count}
use Rattle.lsp_text.proofs.lines.Lines.count.Goals as goal

pub returns-clause-line_ends : goal.returns-clause-line_ends
returns-clause-line_ends c = grind (arith, common_steps, indexes_count, c.len.ensures, c.self.view_is)
