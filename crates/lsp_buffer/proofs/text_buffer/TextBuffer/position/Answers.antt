use Rattle.lsp_buffer.proofs.Prelude.{◌∙◌, arith, chars, units_in}
use Rattle.lsp_text.proofs.Positions.ExactLemmas.{exact_resolves}
use Rattle.lsp_buffer.proofs.Queries.FoundLemmas.{exact_few, exact_part, inner_part, units_some}
use Rattle.lsp_buffer.proofs.text_buffer.TextBuffer.position.Goals as goal

pub position-inner-requires : goal.position-inner-requires
position-inner-requires c =
    inner_part c.args.self.now c.part_at.result.block.now c.part_at.result.before c.args.offset
    c.part_at.ensures c.requires

pub position_from-requires : goal.position_from-requires
position_from-requires c =
    let few = exact_few c.args.self.now c.part_at.result.block.now c.part_at.result.before c.args.offset
    c.part_at.ensures c.args.encoding c.head.result c.position-inner.result c.head.ensures c.requires
    c.position-inner.ensures in
    record {
      line = omega (arith, few.0, c.part_at.ensures.at.size);
      character = omega (
        arith,
        few.1,
        c.part_at.ensures.at.size,
      );
    }

pub returns-clause-exact : goal.returns-clause-exact
returns-clause-exact c = λ k within k_at.
    c.position_from.ensures ∙ exact_part c.args.self.now c.part_at.result.block.now c.part_at.result.before
    c.args.offset c.part_at.ensures c.args.encoding c.head.result c.position-inner.result c.head.ensures c.requires
    c.position-inner.ensures k within k_at

pub returns-clause-resolves : goal.returns-clause-resolves
returns-clause-resolves c = exact_resolves (units_in c.args.encoding) (units_some c.args.encoding)
    (chars c.args.self.now) c.args.offset _ c.requires (returns-clause-exact c)
