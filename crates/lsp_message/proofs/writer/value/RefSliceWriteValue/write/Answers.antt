use Rattle.lsp_message.proofs.Prelude.{◌≡◌, ◌∷◌, sym, take, arith, take_all, flat_map, Appends, tokens_of}
use Rattle.lsp_message.proofs.Tokens.{add, ending, array_tokens}
use Rattle.json.specs.Token as token
use Rattle.lsp_message.proofs.writer.value.RefSliceWriteValue.write.Goals as goal

pub returns-clause-tokens : goal.returns-clause-tokens
returns-clause-tokens g c =
    let values = c.args.self.now.now in
    let all : take c.loop-value.value-index values ≡ values = take_all _ _ (omega (arith, c.loop-value-test.false)) in
    let written : Appends c.args.writer.now c.loop-value.writer
    (token.begin_array ∷ flat_map (λ value. tokens_of (g.V.WriteValue.value value)) values) =
    rw (sym all) c.loop-value.invariant in
    rw (array_tokens g.V.WriteValue.value values) (ending c.end_array.result (λ e. add written e) c.end_array.ensures)
