use Rattle.lsp_buffer.proofs.Prelude.{◌+◌, ◌≤◌, Some, None, length, arith, chars, units_in}
use Rattle.std.proofs.lemmas.Result.{err_from_is_err_and}
use Rattle.lsp_text.proofs.Positions.ResolveLemmas.{denoted_place, denoted_boundary}
use Rattle.lsp_buffer.proofs.Queries.FoundLemmas.{resolved_part}
use Rattle.lsp_buffer.proofs.text_buffer.TextBuffer.resolve.Goals as goal

pub returns-clause-value : goal.returns-clause-value
returns-clause-value c =
    resolved_part c.args.self.now c.part_at.result.block.now c.part_at.result.before c.args.encoding
    c.args.position c.part_at.ensures c.head.result c.head.ensures c.position_after-inner.result
    (Some c.in_ok-offset.offset) c.position_after-inner.ensures c.in_ok-offset.ensures

pub returns-clause-place : goal.returns-clause-place
returns-clause-place c =
    denoted_place (units_in c.args.encoding) (chars c.args.self.now) c.args.position
    (c.part_at.result.before.len + c.in_ok-offset.offset) (returns-clause-value c)

pub returns-clause-boundary : goal.returns-clause-boundary
returns-clause-boundary c =
    denoted_boundary (units_in c.args.encoding) c.args.self.now c.args.position
    (c.part_at.result.before.len + c.in_ok-offset.offset) c.part_at.ensures.at.utf8 (returns-clause-value c)

pub overflow_add-result : goal.overflow_add-result
overflow_add-result c =
    let within : c.part_at.result.before.len + c.in_ok-offset.offset ≤ length c.args.self.now =
    (denoted_boundary (units_in c.args.encoding) c.args.self.now c.args.position
    (c.part_at.result.before.len + c.in_ok-offset.offset) c.part_at.ensures.at.utf8
    (resolved_part c.args.self.now c.part_at.result.block.now c.part_at.result.before c.args.encoding
    c.args.position c.part_at.ensures c.head.result c.head.ensures c.position_after-inner.result
    (Some c.in_ok-offset.offset) c.position_after-inner.ensures c.in_ok-offset.ensures)).0 in
    omega (arith, within, c.part_at.ensures.at.size)

pub returns-in_err-offset-clause-value : goal.returns-in_err-offset-clause-value
returns-in_err-offset-clause-value c =
    let p = err_from_is_err_and c.from_residual.result c.from_residual.ensures.1 in
    rw p.1 (resolved_part c.args.self.now c.part_at.result.block.now c.part_at.result.before
    c.args.encoding c.args.position c.part_at.ensures c.head.result c.head.ensures c.position_after-inner.result None
    c.position_after-inner.ensures c.in_err-offset.ensures)
