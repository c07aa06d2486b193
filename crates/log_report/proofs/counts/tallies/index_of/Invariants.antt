use Rattle.log_report.proofs.Prelude.{ℕ, ◌≡◌, ◌≤◌, ◌++◌, ◌-◌, drop, length, take, count_of, tallied}
use Rattle.log_report.proofs.counts.tallies.index_of.Given as goal

abbrev pub invariant-tallies : goal.invariant-tallies
invariant-tallies l = record {
  within : l.next ≤ length l.tallies;
  others : (number : ℕ) → tallied l.words number l.tallies
      ≡ take l.next l.tallies ++ tallied l.words number (drop l.next l.tallies);
  count : count_of l.words l.tallies ≡ count_of l.words (drop l.next l.tallies);
}

abbrev pub decreases-tallies : goal.decreases-tallies
decreases-tallies l = length l.tallies - l.next
