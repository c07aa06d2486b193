use Rattle.lsp_log.proofs.Prelude.{ap, arith, length}
use Rattle.lsp_log.proofs.SplitLemmas.{given_ready, given_stands, some_side}
use Rattle.lsp_log.proofs.splitter.Splitter.next.Goals as goal

pub returns-in-Some-clause-ready : goal.returns-in-Some-clause-ready
returns-in-Some-clause-ready c =
    given_ready c.args.self.now c.next.new.self c.first_side-self.result c.saturating_add-self.result
    (c.next.ensures.given c.requires.sound c.in-Some.ensures.1) c.requires.sound

pub returns-in-Some-clause-is_after : goal.returns-in-Some-clause-is_after
returns-in-Some-clause-is_after c = λ log_rules input more body records is_frame_of at.
    given_stands log_rules input more body records c.args.self.now c.next.new.self c.first_side-self.result
    c.mark_len-mark.result c.saturating_add-self.result
    (some_side c.args.self.now c.requires c.in-Some.ensures.1)
    (c.next.ensures.given c.requires.sound c.in-Some.ensures.1) c.first_side-self.ensures.side
    c.first_side-self.ensures.none c.mark_len-mark.ensures
    (omega (arith, c.saturating_add.ensures, c.saturating_add-self.ensures, ap length c.in-Some.ensures.2))
    is_frame_of at
