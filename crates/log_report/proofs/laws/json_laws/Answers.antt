use Rattle.log_report.proofs.JsonLines.JsonLawLemmas.{trace_json_law}
use Rattle.log_report.proofs.JsonLines.LineLemmas.{document_json}
use Rattle.log_report.proofs.laws.json_laws.Goals as goal

pub returns : goal.returns
returns c = record { trace = trace_json_law; replay = document_json }
