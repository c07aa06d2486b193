use Rattle.line_diff.proofs.Prelude.{◌≡◌, drop}
use Rattle.line_diff.specs.Owners.{all_spliced}
use Rattle.line_diff.proofs.numbers.Numbers.after_all.Given as goal

abbrev pub invariant-loop-splice : goal.invariant-loop-splice
invariant-loop-splice l =
    all_spliced l.number (drop l.splice-index l.splices) l.numbers ≡ all_spliced l.number l.splices l.self
