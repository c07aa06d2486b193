use Rattle.lsp_message.proofs.Prelude.{◌≡◌, ◌<◌, ◌^◌, take, AllDigits, digits_value}
use Rattle.lsp_message.proofs.reader.number.short_natural.Given as goal

abbrev pub invariant-loop-byte : goal.invariant-loop-byte
invariant-loop-byte l =
    AllDigits 10 (take l.byte-index l.bytes) × (l.value ≡ digits_value 10 (take l.byte-index l.bytes))
    × (l.value < 2 ^ 64)
