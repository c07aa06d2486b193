use Rattle.lsp_frame.proofs.Prelude.{◌≡◌, ◌-◌, ◌++◌, List, ℕ, length, take, drop, map, Vec, Global, subst, refl, arith, take_all, length-take, length-drop, HasTaken, common_steps}
use Rattle.lsp_frame.proofs.ProgressLemmas.{taken_more}
use Rattle.lsp_frame.proofs.StreamLemmas.{fault_behind, fed_holding}
use Rattle.lsp_frame.proofs.stream.take_frames.Goals as goal

pub loop-at-preserved : goal.loop-at-preserved
loop-at-preserved c = record {
  within = grind (arith, common_steps, length-take, length-drop, c.in-Ok.ensures.taken, c.loop-at.invariant.within);
  none = c.in_ok-take_frame.ensures.none.0;
  sound = c.in_ok-take_frame.ensures.none.1;
  taken = λ max_body stream at.
      let before : List ℕ = stream ++ take c.loop-at.at c.args.piece.now in
      let more : List ℕ =
      take c.in-Ok.taken (take (length c.args.piece.now - c.loop-at.at) (drop c.loop-at.at c.args.piece.now)) in
      let holding = fed_holding max_body (stream ++ take c.loop-at.at c.args.piece.now) _ c.loop-at.framer
      c.feed.new.self more (c.loop-at.invariant.taken max_body stream at) c.in-Ok.ensures.buffered
      c.in-Ok.ensures.part in
      subst (λ (z : List ℕ). HasTaken max_body z (map (λ (v : Vec ℕ Global). v.items) c.take_frame.new.bodies.items)
      c.take_frame.new.framer)
      (taken_more stream c.args.piece.now (stream ++ take c.loop-at.at c.args.piece.now) _ c.loop-at.at c.in-Ok.taken
      refl refl)
      (c.in_ok-take_frame.ensures.taken max_body _ holding);
}

pub returns-clause-taken : goal.returns-clause-taken
returns-clause-taken c = λ max_body stream at.
    let all : take c.loop-at.at c.args.piece.now ≡ c.args.piece.now =
    take_all c.loop-at.at c.args.piece.now c.loop-at-test.false in
    subst (λ (z : List ℕ). HasTaken max_body (stream ++ z) (map (λ (v : Vec ℕ Global). v.items) c.loop-at.bodies.items)
    c.loop-at.framer) all (c.loop-at.invariant.taken max_body stream at)

pub returns-in-Err-clause-taken : goal.returns-in-Err-clause-taken
returns-in-Err-clause-taken c = λ max_body stream at.
    rw c.in_ok-fault_of_stream-in-Err.ensures.found
    (fault_behind max_body stream c.args.piece.now c.loop-at.at _ c.loop-at.framer c.feed.new.self c.in-Err.fault
    (c.loop-at.invariant.taken max_body stream at) c.in-Err.ensures.error
    c.in_ok-fault_of_stream-in-Err.ensures.of_stream)
