use Rattle.std.specs.Str.{chars}
use Rattle.std.proofs.Common.{◌≡◌}
use Rattle.lsp_text.specs.Units.{units_in}
use Rattle.lsp_long_lines.proofs.LimitLemmas.{IsWalkedTo}
use Rattle.lsp_long_lines.proofs.long_lines.excess.Given as goal

abbrev pub invariant-loop-encoding : goal.invariant-loop-encoding
invariant-loop-encoding l =
    record {
      line : l.start.line ≡ l.fn.line;
      walked : IsWalkedTo (units_in l.fn.encoding) (chars l.fn.text) l.start;
    }

abbrev pub decreases-loop-encoding : goal.decreases-loop-encoding
decreases-loop-encoding l = l.start.character
