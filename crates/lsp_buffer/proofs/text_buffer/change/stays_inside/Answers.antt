use Rattle.lsp_buffer.proofs.Prelude.{arith, common_steps}
use Rattle.lsp_buffer.proofs.Changes.ChangeLemmas.{first_here, first_small}
use Rattle.lsp_buffer.proofs.text_buffer.change.stays_inside.Goals as goal

pub fits-requires : goal.fits-requires
fits-requires c = grind (arith, common_steps, first_small, first_here, c.requires, c.index-blocks-range.is)
