use Rattle.std.proofs.Common.{◌≡◌}
use Rattle.std.specs.Str.{chars}
use Rattle.lsp_text.specs.Units.{units_in}
use Rattle.lsp_long_lines.proofs.LineEndLemmas.{ranges_before}
use Rattle.lsp_long_lines.proofs.long_lines.long_lines.Given as goal

abbrev pub invariant-loop-line : goal.invariant-loop-line
invariant-loop-line l =
    l.ranges.items ≡ ranges_before (units_in l.fn.encoding) (chars l.fn.document.text) l.line
