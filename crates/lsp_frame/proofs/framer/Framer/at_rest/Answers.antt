use Rattle.lsp_frame.proofs.FaultLemmas.{framing_part, part_one}
use Rattle.lsp_frame.proofs.framer.Framer.at_rest.Goals as goal

pub returns-after-matches-clause-part : goal.returns-after-matches-clause-part
returns-after-matches-clause-part c =
    framing_part c.args.self.now c.self.inside.place c.self.inside.buffered.items c.self.inside.stage
    c.self.inside.limits c.self.view_is c.self.invariant

pub returns-else-is_empty-clause-one : goal.returns-else-is_empty-clause-one
returns-else-is_empty-clause-one c = λ sound.
    part_one _ _ (framing_part c.args.self.now c.self.inside.place c.self.inside.buffered.items c.self.inside.stage
    c.self.inside.limits c.self.view_is c.self.invariant sound)

pub returns-else-is_empty-clause-part : goal.returns-else-is_empty-clause-part
returns-else-is_empty-clause-part c =
    framing_part c.args.self.now c.self.inside.place c.self.inside.buffered.items c.self.inside.stage
    c.self.inside.limits c.self.view_is c.self.invariant
