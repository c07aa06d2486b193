use Rattle.lsp_buffer.proofs.Prelude.{ℕ, List, subst, IsFound}
use Rattle.lsp_buffer.proofs.Queries.FoundLemmas.{part_of}
use Rattle.lsp_buffer.proofs.text_buffer.TextBuffer.part_at.Goals as goal

pub returns : goal.returns
returns c =
    part_of c.self.inside.blocks.items c.args.self.now c.args.target c.find-found.result c.index.result.now
    c.self.invariant.0.are c.self.invariant.0.size c.self.view_is
    (subst (λ (bs : List (List ℕ)). IsFound bs c.args.target c.find-found.result) c.deref.ensures.value
    c.find-found.ensures) c.index.ensures
