use Rattle.lsp_message.proofs.Prelude.{◌≡◌, refl, sym, ap, ◌∙◌, incoming_of, lengths_of, message_of, reading}
use Rattle.lsp_message.proofs.Readings.{reading_of_value, reading_of_none}
use Rattle.lsp_message.proofs.reader.incoming.Incoming.read_noted.Goals as goal

pub returns-in_default-clause-ok : goal.returns-in_default-clause-ok
returns-in_default-clause-ok c =
    let none = reading_of_none c.args.body.now (λ utf8. absurd (c.in_default.ensures.cases.0 utf8)) in
    c.nothing-in_default.ensures _ _ (sym (ap incoming_of none)) refl

pub returns-clause-ok : goal.returns-clause-ok
returns-clause-ok c =
    let same = c.in-Ok.ensures.cases in
    let read = rw c.in-Some.is at c.in_ok-params.ensures in
    let is : reading c.args.body.now ≡ message_of read.0 =
    reading_of_value c.args.body.now read.0 same.1 (rw (← same.0) read.1) in
    record {
      asks = sym (ap incoming_of is ∙ read.2);
      lengths = c.in_ok-vec.ensures.items ∙ sym (ap lengths_of is ∙ read.3);
      params = refl;
    }
