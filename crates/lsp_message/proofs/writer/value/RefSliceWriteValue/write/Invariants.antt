use Rattle.lsp_message.proofs.Prelude.{◌∷◌, take, flat_map, Appends, tokens_of}
use Rattle.json.specs.Token as token
use Rattle.lsp_message.proofs.writer.value.RefSliceWriteValue.write.Given as goal

-- the tokens of the values so far
abbrev pub invariant-loop-value : goal.invariant-loop-value
invariant-loop-value g l =
    Appends l.fn.writer l.writer
    (token.begin_array ∷ flat_map (λ value. tokens_of (g.V.WriteValue.value value)) (take l.value-index l.self.now))
