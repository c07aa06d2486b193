use Rattle.lsp_frame.proofs.FaultLemmas.{decided_hopeless}
use Rattle.lsp_frame.proofs.StreamLemmas.{decided_more}
use Rattle.lsp_frame.proofs.FramedLemmas.{same_frame, same_read}
use Rattle.lsp_frame.proofs.WrittenLemmas.{written_is_frame}
use Rattle.lsp_frame.proofs.DecisionLemmas.{decision_law, all_frames_law}
use Rattle.lsp_frame.proofs.LawLemmas.{one_frame_law, bound_law, frames_law, fault_law, injective_law}
use Rattle.lsp_frame.proofs.laws.frame_laws.Goals as goal

pub returns : goal.returns
returns c = record {
  one_frame = one_frame_law;
  front = same_frame;
  bound = bound_law;
  decision = decision_law;
  all_frames = all_frames_law;
  frames = frames_law;
  reading = same_read;
  fault = fault_law;
  staying = decided_more;
  hopeless = decided_hopeless;
  written = written_is_frame;
  injective = injective_law;
}
