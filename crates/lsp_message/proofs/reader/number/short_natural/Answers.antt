use Rattle.lsp_message.proofs.Prelude.{◌≡◌, arith, take_all, common_steps}
use Rattle.lsp_message.proofs.Digits.{natural_of_digits, one_more_digit}
use Rattle.lsp_message.proofs.reader.number.short_natural.Goals as goal

pub loop-byte-preserved : goal.loop-byte-preserved
loop-byte-preserved c =
    let before = c.loop-byte.invariant in
    let after = one_more_digit c.args.bytes.now c.loop-byte.byte-index c.loop-byte.value _ c.in_ok-digit.digit
    c.loop-byte-test.true before.0 before.1 c.from.ensures c.in_ok-digit.ensures.value in
    let same : c.from-in-loop-byte.result ≡ c.in_ok-digit.digit = c.from-in-loop-byte.ensures in
    let digit = c.in_ok-digit.ensures.value in
    (after.0, rw same after.1, omega (arith, same, digit.0, digit.1, c.if-value-ge-ROOM.false))

pub returns-else-is_empty : goal.returns-else-is_empty
returns-else-is_empty c =
    grind (arith, common_steps, take_all, natural_of_digits, c.loop-byte.invariant, c.loop-byte-test.false)
