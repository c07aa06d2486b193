use Rattle.lsp_pair.proofs.Prelude.{no_history, rules}
use Rattle.lsp_pair.proofs.Steps.NewLemmas.{sound_from}
use Rattle.lsp_pair.proofs.Histories.HistoryLemmas.{new_history}
use Rattle.lsp_pair.proofs.pair.Pair.new.Goals as goal

pub invariant_of-result : goal.invariant_of-result
invariant_of-result c =
    let sound = sound_from c.args.limits c.args.offers c.args.config c.are_within.ensures.in_range.0
    c.are_within.ensures.in_range.1 (search rules) (search rules) in
    rw (c.new.ensures, c.new-2.ensures, c.new-3.ensures.items, c.new-4.ensures.items) (no_history, new_history _ sound)

pub returns-clause-history : goal.returns-clause-history
returns-clause-history c =
    let sound = sound_from c.args.limits c.args.offers c.args.config c.are_within.ensures.in_range.0
    c.are_within.ensures.in_range.1 (search rules) (search rules) in
    rw (c.new.ensures, c.new-2.ensures, c.new-3.ensures.items, c.new-4.ensures.items) (new_history _ sound)
