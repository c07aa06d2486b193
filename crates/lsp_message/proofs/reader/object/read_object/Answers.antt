use Rattle.lsp_message.proofs.Prelude.{◌≡◌, ◌∷◌, refl, ap, ◌∙◌, arith, parse_map, token_of, object, value_at}
use Rattle.lsp_message.proofs.Grammar.{value_at-object}
use Rattle.lsp_message.proofs.reader.object.read_object.Goals as goal

pub returns-in_ok-kept-in-BeginObject-clause-ok : goal.returns-in_ok-kept-in-BeginObject-clause-ok
returns-in_ok-kept-in-BeginObject-clause-ok g c =
    let first : c.args.reader.now ≡ token_of c.in_ok-token.token ∷ c.next.new.self = grind arith in
    let read = c.in_ok-kept-in-BeginObject.ensures.ok in (
      object read.0,
      ap (value_at c.args.depth) (first ∙ ap (λ k. token_of k ∷ c.next.new.self) c.in-BeginObject.is)
          ∙ value_at-object c.args.depth c.next.new.self (omega arith) ∙ ap (parse_map object) read.1,
      (read.0, refl, read.2),
    )
