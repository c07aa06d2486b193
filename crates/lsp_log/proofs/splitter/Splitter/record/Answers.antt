use Rattle.lsp_log.proofs.splitter.Splitter.record.Goals as goal

pub returns-in_err-body : goal.returns-in_err-body
returns-in_err-body c =
    rw c.from_residual-in_err-body.ensures (λ sound frame. c.in_err-body.ensures sound frame.body frame.is_frame_of)
