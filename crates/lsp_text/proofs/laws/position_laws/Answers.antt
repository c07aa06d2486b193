use Rattle.lsp_text.proofs.Prelude.{refl}
use Rattle.lsp_text.proofs.Positions.PositionLemmas.{exact_denotes, exact_same, denoted_whole, denoted_exact}
use Rattle.lsp_text.proofs.Positions.NearLemmas.{exact_near}
use Rattle.lsp_text.proofs.Positions.PastLemmas.{past_line, past_text}
use Rattle.lsp_text.proofs.Examples.{holds_on_examples}
use Rattle.lsp_text.proofs.laws.position_laws.Goals as goal

pub returns : goal.returns
returns c = record {
  denotes = exact_denotes;
  whole = λ units text p k h. ((denoted_whole units text p k h).within, (denoted_whole units text p k h).whole);
  near = exact_near;
  alone = exact_same;
  exact = denoted_exact;
  past_line = past_line;
  past_text = past_text;
  order = λ first second. refl;
  examples = holds_on_examples;
}
