use Rattle.lsp_message.proofs.Prelude.{sym, ap, ◌∙◌, incoming_of}
use Rattle.lsp_message.proofs.Readings.{reading_of_value, reading_of_none}
use Rattle.lsp_message.proofs.reader.incoming.read_body.Goals as goal

pub returns-in_default-clause-ok : goal.returns-in_default-clause-ok
returns-in_default-clause-ok c =
    sym (ap incoming_of (reading_of_none c.args.body.now (λ utf8. absurd (c.in_default.ensures.cases.0 utf8))))

pub returns-in-Ok-Some-clause-ok : goal.returns-in-Ok-Some-clause-ok
returns-in-Ok-Some-clause-ok c =
    let same = c.in-Ok.ensures.cases in
    let read = rw c.in-Ok-Some.field-0-is at c.in-Ok-Some.ensures.ok in
    read.2 ∙ sym (ap incoming_of (reading_of_value c.args.body.now read.0 same.1 (rw (← same.0) read.1)))
