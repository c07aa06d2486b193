use Rattle.lsp_frame.proofs.Prelude.{◌≡◌, ◌≢◌, ◌-◌, ◌<◌, ◌≤◌, ◌++◌, length, take, vec_capacity, IsSoFar}
use Rattle.lsp_frame.specs.declared.framer.shape.Shape.TheVariants as shape
use Rattle.lsp_frame.proofs.framer.header.take_header.Given as goal

abbrev pub invariant-loop-at : goal.invariant-loop-at
invariant-loop-at l = record {
  within : l.at ≤ length l.piece;
  buffered : l.buffered.items ≡ l.fn.buffered.items ++ take l.at l.piece;
  so_far : IsSoFar l.max_body l.buffered.items l.header;
  line_start : l.header.shape ≢ shape.Whole;
  short : length l.buffered.items ≤ 8192;
  capacity : vec_capacity l.fn.buffered ≤ vec_capacity l.buffered;
  room : l.header.shape ≢ shape.End → length l.buffered.items < 8192;
}

abbrev pub decreases-loop-at : goal.decreases-loop-at
decreases-loop-at l = length l.piece - l.at
