use Rattle.std.proofs.lemmas.Result.{err_from_is_err_and}
use Rattle.lsp_log.proofs.Prelude.{◌≡◌, drop}
use Rattle.lsp_log.proofs.LogLemmas.{first_is}
use Rattle.lsp_log.proofs.SplitLemmas.{fed_stands, feed_fault, marked_stands, not_none, none_there}
use Rattle.lsp_log.proofs.splitter.Splitter.feed.Goals as goal

pub returns-clause-is_after : goal.returns-clause-is_after
returns-clause-is_after c = λ log_rules input records at.
    fed_stands log_rules input c.args.piece.now records c.args.self.now c.feed.new.self c.in_ok-feed.field-0
    c.in_ok-feed.ensures.buffered c.in_ok-feed.ensures.part c.in_ok-feed.ensures.one at

pub returns-in_err-feed-clause-error : goal.returns-in_err-feed-clause-error
returns-in_err-feed-clause-error c =
    let given = err_from_is_err_and c.from_residual.result c.from_residual.ensures.1 in
    rw (given.1, given.2)
    (λ log_rules input records at.
    feed_fault log_rules input c.args.piece.now records c.args.self.now c.feed.new.self c.in_err-feed.field-0.0
    (not_none c.args.self.now.side c.is_none.result c.is_none.ensures c.if-is_none.false)
    c.in_err-feed.ensures.error c.requires.fed.sound at)

pub returns-then-is_none-clause-is_after : goal.returns-then-is_none-clause-is_after
returns-then-is_none-clause-is_after c = λ log_rules input records at.
    let between = none_there c.args.self.now.side c.is_none.result c.is_none.ensures c.if-is_none.true in
    marked_stands log_rules input c.args.piece.now (drop 1 c.args.piece.now) c.in-Some.mark.now records c.args.self.now
    c.in-Some-of_mark.side c.skip.new.self between (c.requires.fed.between between)
    (first_is c.args.piece.now c.in-Some.mark.now c.in-Some.ensures.value) c.in-Some-of_mark.ensures c.skip.ensures at
