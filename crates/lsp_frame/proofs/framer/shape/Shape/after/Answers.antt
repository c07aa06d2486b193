use Rattle.lsp_frame.proofs.Prelude.{refl, false≢true}
use Rattle.lsp_frame.proofs.HeaderLemmas.{stops_at_start, stops_at_name, stops_at_value, stops_at_return, stops_at_last, colon_part, value_part}
use Rattle.lsp_frame.proofs.framer.shape.Shape.after.Goals as goal

pub returns-in-Name-2-clause-next : goal.returns-in-Name-2-clause-next
returns-in-Name-2-clause-next c = colon_part c.args.self c.args.b c.in-Name.is c.if-b-eq58.true

pub returns-in-Value-clause-next : goal.returns-in-Value-clause-next
returns-in-Value-clause-next c = value_part c.args.self c.args.b c.in-Value.is ((c.if-is_value_byte.ensures).0 refl)

pub returns-in_default-clause-none : goal.returns-in_default-clause-none
returns-in_default-clause-none c =
    λ _. stops_at_start c.args.self c.args.b c.in-Start.is (λ h. false≢true (c.if-is_name_byte.ensures.1 h))
    c.if-b-eq13.false

pub returns-in_default-2-clause-none : goal.returns-in_default-2-clause-none
returns-in_default-2-clause-none c =
    λ _. stops_at_name c.args.self c.args.b c.in-Name.is (λ h. false≢true (c.if-is_name_byte-2.ensures.1 h))
    c.if-b-eq58.false

pub returns-in_default-3-clause-none : goal.returns-in_default-3-clause-none
returns-in_default-3-clause-none c =
    λ _. stops_at_value c.args.self c.args.b c.in-Value.is (λ h. false≢true (c.if-is_value_byte.ensures.1 h))
    c.if-b-eq13-2.false

pub returns-in_default-4-clause-none : goal.returns-in_default-4-clause-none
returns-in_default-4-clause-none c = λ _. stops_at_return c.args.self c.args.b c.in-Return.is c.if-b-eq10.false

pub returns-in_default-5-clause-none : goal.returns-in_default-5-clause-none
returns-in_default-5-clause-none c = λ _. stops_at_last c.args.self c.args.b c.in-LastReturn.is c.if-b-eq10-2.false
