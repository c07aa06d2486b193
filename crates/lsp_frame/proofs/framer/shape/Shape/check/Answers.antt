use Rattle.lsp_frame.proofs.Prelude.{◌≡◌, ℕ, ◌+◌, List, [], ◌∷◌, ◌++◌, take, get_or, ap, sym, subst, ◌∙◌, append_assoc, take_more, StopsHeader}
use Rattle.lsp_frame.proofs.HeaderLemmas.{not_over}
use Rattle.lsp_frame.proofs.framer.shape.Shape.check.Goals as goal

pub returns-in-None-clause-stops : goal.returns-in-None-clause-stops
returns-in-None-clause-stops c = λ part is.
    let piece : List ℕ = c.args.piece.now in
    let i : ℕ = c.loop-i.i in
    let more : part ++ take (i + 1) piece ≡ (part ++ take i piece) ++ get_or piece i 0 ∷ [] =
    ap (λ x. part ++ x) (take_more piece i 0 c.loop-i-test.true)
    ∙ sym (append_assoc part (take i piece) (get_or piece i 0 ∷ [])) in
    subst StopsHeader (sym more)
    (c.in-None.ensures.none (not_over c.loop-i.shape piece i c.loop-i.invariant.over c.requires.one_line
    c.loop-i-test.true) (part ++ take i piece) (c.loop-i.invariant.so_far part is))
