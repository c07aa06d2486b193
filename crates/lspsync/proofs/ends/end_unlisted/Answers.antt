use Rattle.lspsync.proofs.ends.end_unlisted.Goals as goal

pub returns : goal.returns
returns g c = rw c.missing_text.ensures at c.say_both.ensures
