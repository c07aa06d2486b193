use Rattle.line_diff.proofs.Prelude.{refl}
use Rattle.line_diff.proofs.RepeatLemmas.{numbers_in-append, numbers_in-reverse, reverse-stacked}
use Rattle.line_diff.proofs.numbers.Numbers.repeats.Goals as goal

pub returns : goal.returns
returns c =
    rw (
      c.in_ok-extend_from_slice.ensures.items,
      numbers_in-append,
      c.deref.ensures.value,
      c.reverse.ensures.items,
      numbers_in-reverse,
      c.in_ok-rest.ensures,
      ← reverse-stacked,
      c.in_ok-repeats.ensures,
      ← c.self.view_is,
    ) refl
