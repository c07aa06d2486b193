use Rattle.lsp_message.proofs.Prelude.{arith, common_steps}
use Rattle.lsp_message.proofs.Lexemes.{escape_up_to}
use Rattle.lsp_message.proofs.reader.cursor.plain_len.Goals as goal

pub returns-then-stops : goal.returns-then-stops
returns-then-stops c =
    grind (arith, common_steps, escape_up_to, c.loop-byte.invariant.0, c.loop-byte-test.true, c.loop-byte.invariant.1)

pub returns : goal.returns
returns c = grind (arith, common_steps, escape_up_to, c.loop-byte.invariant.0, c.loop-byte.invariant.1)
