use Rattle.lsp_buffer.proofs.Prelude.{◌≡◌, ◌≤◌, ◌-◌, ◌++◌, string_bytes, slice_range, IsCharBoundary}
use Rattle.lsp_buffer.proofs.text_buffer.TextBuffer.push_range.Given as goal

abbrev pub invariant-loop-offset : goal.invariant-loop-offset
invariant-loop-offset l = record {
  low : l.start ≤ l.offset;
  high : l.offset ≤ l.end;
  at : IsCharBoundary l.self l.offset;
  text : string_bytes l.out ≡ string_bytes l.fn.out ++ slice_range l.self l.start l.offset;
}

abbrev pub decreases-loop-offset : goal.decreases-loop-offset
decreases-loop-offset l = l.end - l.offset
