use Rattle.lsp_buffer.proofs.Prelude.{◌≡◌, take, string_bytes, concat}
use Rattle.lsp_buffer.proofs.text_buffer.TextBuffer.to_string.Given as goal

abbrev pub invariant-loop-block : goal.invariant-loop-block
invariant-loop-block l = string_bytes l.text ≡ concat (take l.block-index l.block-items)
