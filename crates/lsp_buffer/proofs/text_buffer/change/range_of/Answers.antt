use Rattle.lsp_buffer.proofs.Changes.ChangeLemmas.{range_is}
use Rattle.lsp_buffer.proofs.text_buffer.change.range_of.Goals as goal

pub returns : goal.returns
returns c = range_is c.args.blocks.now c.find-from.result c.find_later-to.result c.args.start c.args.end
    (record {
      are = c.requires.are.are;
      size = c.requires.are.size;
      from_is = c.find-from.ensures;
      to_is = c.find_later-to.ensures;
      order = c.requires.order;
      at_start = c.requires.at_start;
      at_end = c.requires.at_end;
    })
