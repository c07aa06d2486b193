use Rattle.lsp_frame.proofs.Prelude.{◌≡◌, List, [], ℕ, map, Vec, Global, ap, sym, subst, HasTaken}
use Rattle.lsp_frame.proofs.StreamLemmas.{new_behind}
use Rattle.lsp_frame.proofs.FramedLemmas.{same_read}
use Rattle.lsp_frame.proofs.stream.read_frames.Goals as goal

pub returns-clause-read : goal.returns-clause-read
returns-clause-read c =
    let bodies : [] ≡ map (λ (v : Vec ℕ Global). v.items) c.new-bodies.result.items =
    ap (map (λ (v : Vec ℕ Global). v.items)) (sym c.new-bodies.ensures.items) in
    let rest_after = subst (λ (b : List (List ℕ)). HasTaken c.args.limits.max_body [] b c.new-framer.result) bodies
    (new_behind c.args.limits c.new-framer.result c.new-framer.ensures) in
    c.in_ok-fault.ensures.read c.args.limits.max_body rest_after

pub returns-clause-only : goal.returns-clause-only
returns-clause-only c = λ others fault other.
    let bodies : [] ≡ map (λ (v : Vec ℕ Global). v.items) c.new-bodies.result.items =
    ap (map (λ (v : Vec ℕ Global). v.items)) (sym c.new-bodies.ensures.items) in
    let rest_after = subst (λ (b : List (List ℕ)). HasTaken c.args.limits.max_body [] b c.new-framer.result) bodies
    (new_behind c.args.limits c.new-framer.result c.new-framer.ensures) in
    same_read c.args.limits.max_body _ _ others c.in_ok-fault.fault fault
    (c.in_ok-fault.ensures.read c.args.limits.max_body rest_after) other
