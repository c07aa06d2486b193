use Rattle.line_diff.proofs.Prelude.{◌≡◌, ◌≤◌, ◌++◌, drop, map, between, lines_begun, lines_of}
use Rattle.std.specs.Str.{IsCharBoundary}
use Rattle.line_diff.proofs.lines.lines_of.Given as goal

abbrev pub invariant-loop-index : goal.invariant-loop-index
invariant-loop-index l = record {
  order : l.start ≤ l.index;
  boundary : IsCharBoundary l.text l.start;
  cut : map (λ line. line.now) l.lines.items ++ lines_begun (between l.start l.index l.text) (drop l.index l.text)
      ≡ lines_of l.text;
}
