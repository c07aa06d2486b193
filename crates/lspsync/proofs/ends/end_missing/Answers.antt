use Rattle.lspsync.proofs.ends.end_missing.Goals as goal

pub returns : goal.returns
returns g c = rw c.missing_text.ensures at c.say_list.ensures
