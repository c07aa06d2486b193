use Rattle.lsp_message.proofs.Prelude.{◌≡◌, ◌∷◌, ap, ◌∙◌, arith, IfOk-weaker, parse_map, token_of, array, value_at}
use Rattle.lsp_message.proofs.Grammar.{value_at-array}
use Rattle.lsp_message.proofs.reader.changes.read_changes.Goals as goal

pub returns-else-depth-eq0-clause-ok : goal.returns-else-depth-eq0-clause-ok
returns-else-depth-eq0-clause-ok c =
    let first : c.args.reader.now ≡ token_of c.in_ok-token.token ∷ c.next.new.self = grind arith in
    let opened = ap (value_at c.args.depth) (first ∙ ap (λ k. token_of k ∷ c.next.new.self) c.in-BeginArray.is)
    ∙ value_at-array c.args.depth c.next.new.self (omega arith) in
    IfOk-weaker c.read_items.result _ _ (λ r read. (array read.0, opened ∙ ap (parse_map array) read.1, read.2))
    c.read_items.ensures.ok
