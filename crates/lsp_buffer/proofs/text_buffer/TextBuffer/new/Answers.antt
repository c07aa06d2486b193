use Rattle.lsp_buffer.proofs.Prelude.{string_bytes, IsUtf8-string_bytes}
use Rattle.lsp_buffer.proofs.Blocks.CutLemmas.{one_are}
use Rattle.lsp_buffer.proofs.text_buffer.TextBuffer.new.Goals as goal

pub of_blocks-requires-clause-are : goal.of_blocks-requires-clause-are
of_blocks-requires-clause-are c =
    one_are c.in_ok-blocks.blocks.items c.push.new.self.items c.in_ok-new.field-0 (string_bytes c.args.text)
    c.in_ok-blocks.ensures.items c.in_ok-push.ensures.items c.in_ok-new.ensures (IsUtf8-string_bytes c.args.text)
