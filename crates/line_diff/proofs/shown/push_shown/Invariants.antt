use Rattle.line_diff.proofs.Prelude.{◌≡◌, ◌++◌, codes, flat_map, shown_char}
use Rattle.line_diff.proofs.shown.push_shown.Given as goal

abbrev pub invariant-loop-character : goal.invariant-loop-character
invariant-loop-character l = l.buffer.items ≡ (l.fn.buffer.items ++ codes "\"") ++ flat_map shown_char l.yielded
