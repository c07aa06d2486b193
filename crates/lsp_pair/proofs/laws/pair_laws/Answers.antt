use Rattle.lsp_pair.proofs.Steps.StepLemmas.{steps_at, agrees}
use Rattle.lsp_pair.proofs.Histories.DocumentLemmas.{documents_at}
use Rattle.lsp_pair.proofs.LawLemmas.{last_proper}
use Rattle.lsp_pair.proofs.laws.pair_laws.Goals as goal

pub returns : goal.returns
returns c = record {
  step = λ setting events event happened old new sound at next steps.
      steps_at setting sound old new events event happened (last_proper events event next.proper) at steps;
  agree = λ setting events pair sound at. agrees setting pair events sound at;
  commanded = λ setting events pair sound at. documents_at setting pair events sound at;
}
