use Rattle.lsp_frame.proofs.Prelude.{ℕ, List, subst, IsHeaderStop}
use Rattle.lsp_frame.proofs.ProgressLemmas.{taken_more, all_of}
use Rattle.lsp_frame.proofs.framer.stage.take_from_header.Goals as goal

pub returns-in-Ok-begin_body-clause-buffered : goal.returns-in-Ok-begin_body-clause-buffered
returns-in-Ok-begin_body-clause-buffered c =
    taken_more c.args.buffered.now.items c.args.piece.now c.take_header.new.buffered.items
    c.begin_body.new.buffered.items c.in-Ok.taken c.in-Ok-begin_body.more c.in-Ok.ensures.buffered
    c.in-Ok-begin_body.ensures.buffered

pub returns-in-Err-begin_body-clause-error : goal.returns-in-Err-begin_body-clause-error
returns-in-Err-begin_body-clause-error c =
    subst (λ (x : List ℕ). IsHeaderStop c.args.max_body x c.in-Err-begin_body.stop)
    (all_of c.args.buffered.now.items c.args.piece.now c.take_header.new.buffered.items c.in-Ok.taken
    c.in-Ok.ensures.buffered) c.in-Err-begin_body.ensures.error
