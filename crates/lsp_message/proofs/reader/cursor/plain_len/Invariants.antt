use Rattle.lsp_message.proofs.Prelude.{◌≡◌, ℕ, ◌<◌, get_or, false, is_stop}
use Rattle.lsp_message.proofs.reader.cursor.plain_len.Given as goal

abbrev pub invariant-loop-byte : goal.invariant-loop-byte
invariant-loop-byte l = (l.len ≡ l.byte-index) × ((k : ℕ) → k < l.byte-index → is_stop (get_or l.text k 0) ≡ false)
