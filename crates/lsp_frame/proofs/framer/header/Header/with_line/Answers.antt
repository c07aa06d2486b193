use Rattle.lsp_frame.proofs.ProgressLemmas.{with_line_so_far}
use Rattle.lsp_frame.proofs.framer.header.Header.with_line.Goals as goal

pub returns-clause-so_far : goal.returns-clause-so_far
returns-clause-so_far c =
    with_line_so_far c.args.max_body c.args.buffered.now c.args.self c.split_line.result.0.now c.split_line.result.1.now
    c.add.result c.requires.so_far c.requires.whole c.split_line.ensures c.add.ensures
