use Rattle.log_rewrite.proofs.WroteLemmas.{report_law}
use Rattle.log_rewrite.proofs.NormaliseLog.NormaliseLemmas.{canonical_log_law, whole_log_law, whole_of_canonical_law}
use Rattle.log_rewrite.proofs.Squash.StopLemmas.{stops_alike}
use Rattle.log_rewrite.proofs.Squash.SquashLogLemmas.{squashed_law}
use Rattle.log_rewrite.proofs.ConvertLog.ConvertLogLemmas.{converted_law}
use Rattle.log_report.proofs.Reports.TraceLawLemmas.{trace_law}
use Rattle.lsp_replay.proofs.laws.log_laws.Goals as goal

pub returns : goal.returns
returns c = record {
  unique = c.reading_laws.ensures.unique;
  report = report_law;
  canonical_log = canonical_log_law;
  stops = stops_alike;
  squashed = squashed_law;
  converted = converted_law;
  whole = whole_log_law;
  whole_of_canonical = whole_of_canonical_law;
  traced = trace_law;
}
