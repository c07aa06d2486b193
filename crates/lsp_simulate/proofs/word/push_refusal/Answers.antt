use Rattle.lsp_simulate.proofs.WordLemmas.{appended}
use Rattle.lsp_simulate.proofs.word.push_refusal.Goals as goal

pub returns-in-InvalidParams : goal.returns-in-InvalidParams
returns-in-InvalidParams c =
    rw c.in-InvalidParams.is (appended _ _ c.extend_from_slice.result c.extend_from_slice.ensures.items)
