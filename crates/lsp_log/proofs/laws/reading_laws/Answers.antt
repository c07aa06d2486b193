use Rattle.lsp_log.proofs.UniqueLemmas.{unique_law, same_version, first_of}
use Rattle.lsp_log.proofs.AllRecordsLemmas.{all_records_law}
use Rattle.lsp_log.proofs.RestLemmas.{buffered_law, rest_law}
use Rattle.lsp_log.proofs.laws.reading_laws.Goals as goal

pub returns : goal.returns
returns c = record {
  all_records = all_records_law c.frame_laws.ensures.decision;
  unique = unique_law c.frame_laws.ensures.front;
  version = same_version;
  first = first_of c.frame_laws.ensures.front;
  buffered = buffered_law;
  rest = rest_law;
}
