use Rattle.line_diff.proofs.NumberLemmas.{spliced_is}
use Rattle.line_diff.proofs.numbers.Numbers.splice.Goals as goal

pub returns-clause-spliced : goal.returns-clause-spliced
returns-clause-spliced c =
    rw (
      ← c.self.view_is,
      ← c.in_ok-start.ensures,
      ← c.saturating_sub.ensures,
      ← c.in_ok-removed.ensures,
      ← c.in_ok-added.ensures,
    )
    (spliced_is c.self.inside.before c.self.inside.after c.cut_at.new.before c.cut_at.new.after c.add.new.self
    c.remove.new.self c.in_ok-start.start c.args.number c.in_ok-added.added c.in_ok-removed.removed
    c.in_ok-cut_at.ensures.whole c.in_ok-cut_at.ensures.len c.in_ok-add.ensures.added c.remove.ensures)
