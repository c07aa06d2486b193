use Rattle.std.proofs.Common.{◌≡◌, ◌++◌, map}
use Rattle.std.specs.Vec.Iter.{into_iter_items}
use Rattle.laspidru.specs.Edits.{replacement_by, replacement_of}
use Rattle.laspidru.specs.inside.Passed.{replacements_in}
use Rattle.laspidru.proofs.edits.text_edits_of.Given as goal

-- the edits so far and the changes that are left are all edits
abbrev pub invariant-loop-change : goal.invariant-loop-change
invariant-loop-change l = record {
  going : goal.iterator-loop-change.can_next l.change-iterator;
  finite : goal.iterator-loop-change.is_finite l.change-iterator;
  all : map replacement_of l.edits.items ++ map replacement_by (into_iter_items l.change-iterator)
      ≡ replacements_in l.passed;
}
