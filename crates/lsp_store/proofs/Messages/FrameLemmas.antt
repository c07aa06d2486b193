-- A written frame has one body.
use Rattle.lsp_store.proofs.Prelude.{ℕ, ◌≡◌, ◌+◌, ◌<◌, ◌^◌, List, [], length, ap, arith, append-nil, frame}
use Rattle.lsp_frame.proofs.LawLemmas.{one_frame_law}
use Rattle.lsp_frame.proofs.WrittenLemmas.{frame_len, written_is_frame}

-- Equal frames have equal bodies.
pub frame_one : (body other : List ℕ) → length (frame body) < 2 ^ 64 → frame body ≡ frame other → body ≡ other
frame_one body other small e =
    let most : ℕ = length body + length other in
    let own = written_is_frame most body (omega arith) (omega (arith, frame_len body, small)) in
    let same = written_is_frame most other (omega arith) (omega (arith, frame_len other, small, ap length e)) in
    (one_frame_law most (frame body) [] body other own
    (rw (append-nil (frame body), e) same)).1
