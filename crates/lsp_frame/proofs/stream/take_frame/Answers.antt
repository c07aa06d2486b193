use Rattle.lsp_frame.proofs.Prelude.{◌≡◌, List, [], ◌∷◌, ◌++◌, ℕ, ap, sym, subst, ◌∙◌, map, Vec, Global, IsFrameOf, map_push}
use Rattle.lsp_frame.proofs.StreamLemmas.{given_none, given_behind}
use Rattle.lsp_frame.proofs.FaultLemmas.{frame_of}
use Rattle.lsp_frame.proofs.stream.take_frame.Goals as goal

pub returns-in_ok-push-clause-none : goal.returns-in_ok-push-clause-none
returns-in_ok-push-clause-none c =
    given_none c.args.framer.now c.next.new.self
    (c.next.ensures.given c.requires.sound (frame_of _ _ c.in-Some.body.now c.in-Some.ensures.1)) c.requires.sound

pub returns-in_ok-push-clause-taken : goal.returns-in_ok-push-clause-taken
returns-in_ok-push-clause-taken c = λ max_body stream at.
    let pushed : map (λ (v : Vec ℕ Global). v.items) c.push.new.self.items ≡ map (λ (v : Vec ℕ Global). v.items)
    c.args.bodies.now.items ++ c.in-Some.body.now ∷ [] =
    ap (map (λ (v : Vec ℕ Global). v.items)) c.in_ok-push.ensures.items ∙ map_push (λ (v : Vec ℕ Global). v.items)
    c.args.bodies.now.items c.in_ok-from_slice.field-0
    ∙ ap (λ (b : List ℕ). map (λ (v : Vec ℕ Global). v.items) c.args.bodies.now.items ++ b ∷ [])
    c.in_ok-from_slice.ensures.items in
    given_behind max_body stream _ _ c.args.framer.now c.next.new.self c.in-Some.body.now at
    (c.next.ensures.given c.requires.sound (frame_of _ _ c.in-Some.body.now c.in-Some.ensures.1)) c.in-Some.ensures.1
    pushed

pub returns-in_default-clause-none : goal.returns-in_default-clause-none
returns-in_default-clause-none c = (
  λ frame. c.in_default.ensures c.requires.sound frame.body frame.is_frame_of,
  c.requires.sound,
)

pub returns-in_default-clause-taken : goal.returns-in_default-clause-taken
returns-in_default-clause-taken c = λ max_body stream at. record {
  holding = at;
  none = λ frame. c.in_default.ensures c.requires.sound frame.body
      (subst (λ (n : ℕ). IsFrameOf n c.args.framer.now.buffered frame.body) (sym at.limit) frame.is_frame_of);
}
