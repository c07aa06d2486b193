use Rattle.log_report.proofs.Prelude.{◌≡◌, ◌++◌, flat_map, take, tally_words}
use Rattle.log_report.proofs.printer.explain.push_tallies.Given as goal

abbrev pub invariant-loop-tally : goal.invariant-loop-tally
invariant-loop-tally l = l.buffer.items
    ≡ l.fn.buffer.items ++ flat_map (tally_words l.front) (take l.tally-index l.tallies)
