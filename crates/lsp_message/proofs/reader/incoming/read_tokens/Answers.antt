use Rattle.lsp_message.proofs.Prelude.{◌≡◌, [], Some, sym, ap, ◌∙◌, arith, tokens, incoming_of, message_of, value_at, IfSome_then}
use Rattle.lsp_message.proofs.Grammar.{text_read}
use Rattle.lsp_message.proofs.reader.incoming.read_tokens.Goals as goal

pub returns-in_ok-incoming-in-Of-clause-ok : goal.returns-in_ok-incoming-in-Of-clause-ok
returns-in_ok-incoming-in-Of-clause-ok c =
    let start : c.in_ok-reader.reader ≡ tokens c.args.text.now = c.in_ok-reader.ensures.ok in
    let read = c.in_ok-read.ensures.ok in
    let kept = rw c.in-Of.is at read.2 in
    let none : c.read_object.new.reader ≡ [] = grind arith in
    let whole = text_read c.args.text.now read.0 (ap (value_at 127) (sym start) ∙ read.1
    ∙ ap (λ r. Some (read.0, r)) none) in
    IfSome_then c.in_ok-incoming-in-Of.field-0 c.in_ok-incoming-in-Of.ensures (λ m asks. (
      read.0,
      whole,
      asks kept.0 kept.2 ∙ ap (λ d. incoming_of (message_of d)) (sym kept.1),
    ))
