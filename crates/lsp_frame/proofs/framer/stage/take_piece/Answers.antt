use Rattle.lsp_frame.proofs.Prelude.{refl, subst, IsInHeader, IsInBody, IsAtStage, Stage}
use Rattle.lsp_frame.proofs.ProgressLemmas.{so_far_begins}
use Rattle.lsp_frame.proofs.FaultLemmas.{no_frame_at_header, frame_len}
use Rattle.lsp_frame.proofs.framer.stage.take_piece.Goals as goal

pub returns-in-Ok-clause-whole : goal.returns-in-Ok-clause-whole
returns-in-Ok-clause-whole c = λ frame.
    let at : IsInHeader c.args.max_body c.args.buffered.now.items c.in-Header.header =
    subst (λ (s : Stage). IsAtStage c.args.max_body c.args.buffered.now.items s) c.in-Header.is c.requires.at_stage in
    no_frame_at_header c.args.max_body c.args.buffered.now.items
    (so_far_begins c.args.max_body c.args.buffered.now.items c.in-Header.header at.so_far at.line_open) frame

pub returns-in-Err-clause-whole : goal.returns-in-Err-clause-whole
returns-in-Err-clause-whole c = λ frame.
    let at : IsInHeader c.args.max_body c.args.buffered.now.items c.in-Header.header =
    subst (λ (s : Stage). IsAtStage c.args.max_body c.args.buffered.now.items s) c.in-Header.is c.requires.at_stage in
    no_frame_at_header c.args.max_body c.args.buffered.now.items
    (so_far_begins c.args.max_body c.args.buffered.now.items c.in-Header.header at.so_far at.line_open) frame

pub returns-in-Body-clause-whole : goal.returns-in-Body-clause-whole
returns-in-Body-clause-whole c = λ frame.
    let at : IsInBody c.args.max_body c.args.buffered.now.items c.in-Body.start c.in-Body.end =
    subst (λ (s : Stage). IsAtStage c.args.max_body c.args.buffered.now.items s) c.in-Body.is c.requires.at_stage in
    let none = c.take_body.ensures.quiet (frame_len c.args.max_body c.args.buffered.now.items c.in-Body.start
    c.in-Body.end at frame) in
    rw none refl
