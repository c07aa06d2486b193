use Rattle.lsp_text.proofs.Prelude.{◌+◌, ◌≤◌, length, arith, chars, common_steps}
use Rattle.lsp_text.proofs.TextLines.IndexesLemmas.{indexes_line, indexes_count}
use Rattle.lsp_text.proofs.Positions.ResolveLemmas.{resolved_past, resolved_at, content_order, content_within, content_utf8, place_in_content, denoted_place, denoted_boundary}
use Rattle.lsp_text.proofs.position.resolve.resolve_in.Goals as goal
use Rattle.std.proofs.lemmas.Grind.{common_steps}

pub returns-then-line-starts-clause-value : goal.returns-then-line-starts-clause-value
returns-then-line-starts-clause-value g c =
    grind (arith, common_steps, resolved_past, indexes_count)

pub slice_bounds-place_in-count : goal.slice_bounds-place_in-count
slice_bounds-place_in-count g c =
    content_order c.args.bytes.now c.args.position.line _ _ (grind (arith, common_steps, indexes_line))

pub slice_bounds-place_in-start : goal.slice_bounds-place_in-start
slice_bounds-place_in-start g c =
    content_order c.args.bytes.now c.args.position.line _ _ (grind (arith, common_steps, indexes_line))

pub slice_bounds-place_in-end : goal.slice_bounds-place_in-end
slice_bounds-place_in-end g c =
    grind (arith, common_steps, content_within, indexes_line)

pub place_in-requires : goal.place_in-requires
place_in-requires g c =
    content_utf8 c.args.bytes.now c.args.position.line _ _ c.requires.utf8 (grind (arith, common_steps, indexes_line))

pub overflow_add-result : goal.overflow_add-result
overflow_add-result g c =
    let within : c.content-start.result.0 + c.in-Some.place ≤ length c.args.bytes.now =
    grind (arith, common_steps, place_in_content, indexes_line) in
    omega (arith, within, c.requires.indexed.size)

pub returns-in-Some-clause-value : goal.returns-in-Some-clause-value
returns-in-Some-clause-value g c =
    resolved_at g.U.Units.units_of (λ x. (g.met.U.Units.bounds x).0) c.args.bytes.now c.args.position
    c.content-start.result.0 c.content-start.result.1 _ c.requires.utf8
    (grind (arith, common_steps, indexes_line))
    c.in-Some.ensures

pub returns-in-None-clause-value : goal.returns-in-None-clause-value
returns-in-None-clause-value g c =
    resolved_at g.U.Units.units_of (λ x. (g.met.U.Units.bounds x).0) c.args.bytes.now c.args.position
    c.content-start.result.0 c.content-start.result.1 _ c.requires.utf8
    (grind (arith, common_steps, indexes_line))
    c.in-None.ensures

pub returns-then-line-starts-clause-place : goal.returns-then-line-starts-clause-place
returns-then-line-starts-clause-place g c =
    denoted_place g.U.Units.units_of (chars c.args.bytes.now) c.args.position (length c.args.bytes.now)
    (returns-then-line-starts-clause-value g c)

pub returns-in-Some-clause-place : goal.returns-in-Some-clause-place
returns-in-Some-clause-place g c =
    denoted_place g.U.Units.units_of (chars c.args.bytes.now) c.args.position
    (c.content-start.result.0 + c.in-Some.place)
    (returns-in-Some-clause-value g c)

pub returns-in-Some-clause-boundary : goal.returns-in-Some-clause-boundary
returns-in-Some-clause-boundary g c =
    denoted_boundary g.U.Units.units_of c.args.bytes.now c.args.position (c.content-start.result.0 + c.in-Some.place)
    c.requires.utf8
    (returns-in-Some-clause-value g c)
