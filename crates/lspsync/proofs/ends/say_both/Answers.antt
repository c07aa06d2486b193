use Rattle.lspsync.proofs.Prelude.{Some, codes, error_line}
use Rattle.lspsync.proofs.EndLemmas.{ends, more_pieces}
use Rattle.lspsync.proofs.ends.say_both.Goals as goal

pub returns : goal.returns
returns g c =
    let name = c.args.name.now in
    ends c.args.status _ _ c.print.result _ _ c.new.result c.new.ensures
    (more_pieces (codes "lspsync: ") name (codes ": ") c.args.first.now (codes "\n")
    (error_line (Some name) c.args.second.now))
    c.print.ensures
