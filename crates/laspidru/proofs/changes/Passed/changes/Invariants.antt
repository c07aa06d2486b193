use Rattle.laspidru.proofs.Prelude.{content_change, edits_of, len_of, refused_edit}
use Rattle.std.proofs.Common.{◌≡◌, ◌++◌, ◌+◌, drop, map, sum_by, string_len, None}
use Rattle.laspidru.specs.Edits.{replacement_by, replacements_of}
use Rattle.laspidru.proofs.changes.Passed.changes.Given as goal

-- the changes so far and those that are left are all edits, and none of those that are left is refused
abbrev pub invariant-loop-edit : goal.invariant-loop-edit
invariant-loop-edit l = let left = drop l.edit-index l.self.edits.now in record {
  changes : map content_change l.changes.items ++ edits_of left l.rest ≡ edits_of l.self.edits.now l.self.texts.now;
  edits : map replacement_by l.changes.items ++ replacements_of left l.rest
      ≡ replacements_of l.self.edits.now l.self.texts.now;
  len : sum_by (λ change. string_len change.text) l.changes.items + len_of left ≡ len_of l.self.edits.now;
  taken : refused_edit left l.rest ≡ None;
}
