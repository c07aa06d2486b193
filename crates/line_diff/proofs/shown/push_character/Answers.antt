use Rattle.line_diff.proofs.Prelude.{rules}
use Rattle.line_diff.specs.Shown.{shown_char}
use Rattle.line_diff.proofs.shown.push_character.Goals as goal

pub returns-in-Some : goal.returns-in-Some
unfolding shown_char
returns-in-Some c = rw (← c.sign_of.ensures, c.in-Some.is) (search rules)

pub returns-in-None : goal.returns-in-None
unfolding shown_char
returns-in-None c = rw (← c.sign_of.ensures, c.in-None.is, ← c.is_unseen.ensures, c.if-is_unseen.true) (search rules)

pub returns-in-None-2 : goal.returns-in-None-2
unfolding shown_char
returns-in-None-2 c = rw (← c.sign_of.ensures, c.in-None.is, ← c.is_unseen.ensures, c.if-is_unseen.false) (search rules)
