use Rattle.lsp_text.proofs.TextLines.LineLemmas.{splits_none_past}
use Rattle.lsp_text.proofs.Positions.NearLemmas.{agree_from_take, splits_near}
use Rattle.lsp_text.proofs.TextLines.PartLemmas.{lines_part}
use Rattle.lsp_text.proofs.LawLemmas.{starts_law}
use Rattle.lsp_text.proofs.Positions.ExactLemmas.{found_law}
use Rattle.lsp_text.proofs.laws.line_laws.Goals as goal

pub returns : goal.returns
returns c = record {
  parts = lines_part;
  starts = starts_law;
  found = found_law;
  splits = λ text other j k same before. splits_near text other k j (agree_from_take text other k same) before;
  past_end = splits_none_past;
}
