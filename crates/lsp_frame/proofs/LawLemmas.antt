-- The laws over frames, streams and faults.
use Rattle.lsp_frame.proofs.Prelude.{◌≡◌, ℕ, ◌+◌, ◌<◌, [], ◌++◌, length, sym, ap, subst, append-nil, arith, length-append, frame, IsFrameOf, OneFrameLaw, BoundLaw, FramesLaw, FaultLaw, InjectiveLaw, SameFrame, common_steps}
use Rattle.lsp_frame.proofs.FrameLemmas.{judge_within}
use Rattle.lsp_frame.proofs.FramedLemmas.{Way, same_frame, same_frames, way_of, not_before, same_kind}
use Rattle.lsp_frame.proofs.WrittenLemmas.{written_is_frame}

pub one_frame_law : OneFrameLaw
one_frame_law max_body raw more body other first second =
    let same : SameFrame raw (raw ++ more) body other more [] =
    same_frame max_body raw (raw ++ more) body other more [] first second (sym (append-nil (raw ++ more))) in
    (same.rest_is, same.body_is)

pub bound_law : BoundLaw
bound_law max_body raw body is_frame_of = grind (arith, common_steps, judge_within, length-append)

pub frames_law : FramesLaw
frames_law max_body stream bodies others rest other first second =
    same_frames max_body stream bodies others rest other first.framed second.framed first.longest second.longest

pub fault_law : FaultLaw
fault_law max_body bytes j k fault other first second =
    let one = way_of max_body bytes j fault first in
    let two = way_of max_body bytes k other second in
    let before : j < k → ⊥ = not_before max_body bytes j k fault other one two in
    let rest_after : k < j → ⊥ = not_before max_body bytes k j other fault two one in
    let place : k ≡ j = omega (arith, before, rest_after) in
    let here : Way max_body bytes j other = subst (λ (n : ℕ). Way max_body bytes n other) place two in
    (sym place, same_kind max_body bytes j fault other one here)

pub injective_law : InjectiveLaw
injective_law body other small small_other same =
    let limit = length body + length other in
    let first : IsFrameOf limit (frame body) body = written_is_frame limit body (omega arith) small in
    let second : IsFrameOf limit (frame other) other = written_is_frame limit other (omega arith) small_other in
    (same_frame limit (frame body) (frame other) body other [] [] first second (ap (λ bytes. bytes ++ []) same)).body_is
