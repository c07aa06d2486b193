use Rattle.lsp_frame.proofs.Prelude.{◌≡◌, List, ℕ, None, take, map, Vec, Global, subst, take_all, flat_map, IsRead}
use Rattle.lsp_frame.proofs.StreamLemmas.{piece_faulty, piece_behind, behind_read, piece_some, on_err}
use Rattle.lsp_frame.proofs.stream.take_pieces.Goals as goal

pub returns-in_err-fault-clause-some : goal.returns-in_err-fault-clause-some
returns-in_err-fault-clause-some c =
    let some = piece_some (λ (p : Vec ℕ Global). p.items) c.args.pieces.now c.loop-piece.piece-index c.piece-item.result
    c.deref.result.now c.loop-piece-test.true c.piece-item.is c.deref.ensures.value c.in_err-fault.ensures.some in
    on_err c.from_residual.result some

pub returns-in-Some-clause-read : goal.returns-in-Some-clause-read
returns-in-Some-clause-read c = λ max_body at.
    let error = c.in_ok-fault.ensures.taken max_body _ (c.loop-piece.invariant.rest_after max_body at) in
    piece_faulty max_body (λ (p : Vec ℕ Global). p.items) c.args.pieces.now c.loop-piece.piece-index c.piece-item.result
    c.deref.result.now _ c.in-Some.fault c.loop-piece-test.true c.piece-item.is c.deref.ensures.value
    (rw c.in-Some.is at error)

pub loop-piece-preserved : goal.loop-piece-preserved
loop-piece-preserved c =
    let none = rw c.in_default.is at c.in_ok-fault.ensures.none in
    record {
      none = none.0;
      sound = none.1;
      rest_after = λ max_body at.
          let error = c.in_ok-fault.ensures.taken max_body _ (c.loop-piece.invariant.rest_after max_body at) in
          piece_behind max_body (λ (p : Vec ℕ Global). p.items) c.args.pieces.now c.loop-piece.piece-index
          c.piece-item.result c.deref.result.now _ c.take_frames.new.framer c.loop-piece-test.true c.piece-item.is
          c.deref.ensures.value (rw c.in_default.is at error);
    }

pub returns-clause-read : goal.returns-clause-read
returns-clause-read c = λ max_body at.
    let all : take c.loop-piece.piece-index c.args.pieces.now ≡ c.args.pieces.now =
    take_all c.loop-piece.piece-index c.args.pieces.now c.loop-piece-test.false in
    subst (λ (ps : List (Vec ℕ Global)). IsRead max_body (flat_map (λ (p : Vec ℕ Global). p.items) ps)
    (map (λ (v : Vec ℕ Global). v.items) c.loop-piece.bodies.items) None) all
    (behind_read max_body _ _ c.loop-piece.framer (c.loop-piece.invariant.rest_after max_body at))
