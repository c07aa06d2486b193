use Rattle.lsp_frame.proofs.Prelude.{◌≡◌, true, take, list_all, is_digit}
use Rattle.lsp_frame.proofs.written.digits_len.Given as goal

abbrev pub invariant-loop-i : goal.invariant-loop-i
invariant-loop-i l = list_all is_digit (take l.i l.bytes) ≡ true
