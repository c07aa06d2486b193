use Rattle.lsp_frame.proofs.Prelude.{refl, lt-ltb, number}
use Rattle.lsp_frame.proofs.WordLemmas.{number_above}
use Rattle.lsp_frame.proofs.framer.notes.number_within.Goals as goal

pub returns-then-n-most : goal.returns-then-n-most
returns-then-n-most c =
    rw (lt-ltb c.args.most (number c.args.digits.now)
    (number_above c.args.digits.now c.loop-b.n c.loop-b.b-index c.args.most c.loop-b.invariant.is c.loop-b-test.true
    c.if-n-most.true)) refl
