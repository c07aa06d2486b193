use Rattle.lsp_message.proofs.Prelude.{arith, rules, common_steps, value_is, null, number, string, number_of, number_data}
use Rattle.lsp_message.proofs.Grammar.{parsed}
use Rattle.lsp_message.proofs.reader.scalar.read_scalar.Goals as goal

pub returns-in-String-clause-ok : goal.returns-in-String-clause-ok
returns-in-String-clause-ok c =
    (string c.in-String.text.now, grind (arith, common_steps, value_is, c.in-String.is), search rules)

pub returns-in-Null-clause-ok : goal.returns-in-Null-clause-ok
returns-in-Null-clause-ok c = (null, grind (arith, common_steps, value_is, c.in-Null.is), search rules)

pub returns-in-Some-clause-ok : goal.returns-in-Some-clause-ok
returns-in-Some-clause-ok c =
    let kept = parsed (number_data c.in-Some.number) (number_of c.in-Number.text.now) c.in-Some.ensures in
    (number kept.0, grind (arith, common_steps, value_is, kept.1), kept.2)
