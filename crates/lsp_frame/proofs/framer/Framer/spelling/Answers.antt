use Rattle.lsp_frame.proofs.Prelude.{arith}
use Rattle.lsp_frame.proofs.FaultLemmas.{unfinished, no_body}
use Rattle.lsp_frame.proofs.framer.Framer.spelling.Goals.{in_default-via-in-Body+else-len-end, in_default-via-in_default}
use Rattle.lsp_frame.proofs.framer.Framer.spelling.Goals as goal

pub returns-in_default : goal.returns-in_default
returns-in_default c = elim c.in_default.branch [
  | in_default-via-in-Body+else-len-end w ↦
      unfinished c.args.self.now c.self.inside.place c.self.inside.buffered.items c.self.inside.stage
      c.self.inside.limits w.in-Body.start w.in-Body.end c.self.view_is c.self.invariant w.in-Body.is
      (λ e. w.if-len-end.false (omega (arith, w.len.ensures, e)))
  | in_default-via-in_default w ↦
      no_body c.args.self.now c.self.inside.place c.self.inside.buffered.items c.self.inside.stage c.self.inside.limits
      c.self.view_is c.self.invariant w.in_default.not-Body
]
