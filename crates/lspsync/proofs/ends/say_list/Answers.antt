use Rattle.lspsync.proofs.Prelude.{codes}
use Rattle.lspsync.proofs.EndLemmas.{ends, list_pieces}
use Rattle.lspsync.proofs.ends.say_list.Goals as goal

pub returns : goal.returns
returns g c =
    ends c.args.status _ _ c.print.result _ _ c.new.result c.new.ensures
    (list_pieces (codes "lspsync: ") c.args.name.now (codes ": ") c.args.what.now (codes "\n") c.args.words.now)
    c.print.ensures
