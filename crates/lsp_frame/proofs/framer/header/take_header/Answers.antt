use Rattle.lsp_frame.proofs.Prelude.{◌≡◌, ◌+◌, ◌-◌, ◌≤◌, ◌++◌, length, take, arith, refl, false≢true, common_steps}
use Rattle.std.proofs.lemmas.Result.{err_from_is_err_and}
use Rattle.lsp_frame.proofs.ProgressLemmas.{header_stop, held_more, take_short, window_len, too_long, open_shape}
use Rattle.lsp_frame.proofs.framer.header.take_header.Goals.{else-len-eq-LONGEST_HEADER-via-then-len-eq-LONGEST_HEADER+else-not-is_end-2, else-len-eq-LONGEST_HEADER-via-else-len-eq-LONGEST_HEADER}
use Rattle.lsp_frame.proofs.framer.header.take_header.Goals as goal

pub returns-in_err-at-clause-error : goal.returns-in_err-at-clause-error
returns-in_err-at-clause-error c =
    let room : length c.loop-at.buffered.items + (8192 - c.len.result) ≤ 8192 =
    omega (arith, c.len.ensures, c.loop-at.invariant.short) in
    let p = err_from_is_err_and c.from_residual.result c.from_residual.ensures.1 in
    rw (p.1, p.2)
    (header_stop c.args.max_body c.args.buffered.now.items c.args.piece.now c.loop-at.buffered.items
    c.first-window.result.now c.loop-at.at (8192 - c.len.result) _ c.loop-at.invariant.within
    c.loop-at.invariant.buffered c.first-window.ensures room c.in_err-at.ensures.error)

pub returns-then-not-is_end-2-clause-unchanged : goal.returns-then-not-is_end-2-clause-unchanged
returns-then-not-is_end-2-clause-unchanged c = (
  c.loop-at.at + c.in_ok-at.field-0,
  grind (
    arith,
    common_steps,
    held_more,
    c.in_ok-at.ensures.buffered,
    c.loop-at.invariant.buffered,
    c.first-window.ensures,
    c.in_ok-at.ensures.taken.1,
  ),
)

pub returns-then-not-is_end-2-clause-error : goal.returns-then-not-is_end-2-clause-error
returns-then-not-is_end-2-clause-error c =
    let more : c.take_line.new.buffered.items ≡ c.args.buffered.now.items ++ take (c.loop-at.at +
    c.in_ok-at.field-0)
    c.args.piece.now =
    grind (
      arith,
      common_steps,
      held_more,
      c.in_ok-at.ensures.buffered,
      c.loop-at.invariant.buffered,
      c.first-window.ensures,
      c.in_ok-at.ensures.taken.1,
    ) in
    let lens = window_len c.args.piece.now c.first-window.result.now c.loop-at.at (8192 - c.len.result)
    c.first-window.ensures in
    let within : c.loop-at.at + c.in_ok-at.field-0 ≤ length c.args.piece.now =
    omega (arith, lens.1, c.in_ok-at.ensures.taken.1, c.loop-at.invariant.within) in
    let full : length c.take_line.new.buffered.items ≡ 8192 =
    omega (arith, c.len-in-loop-at.ensures, c.if-len-eq-LONGEST_HEADER.true) in
    too_long c.args.max_body c.args.buffered.now.items c.args.piece.now c.take_line.new.buffered.items
    c.take_line.new.header (c.loop-at.at + c.in_ok-at.field-0) within more full c.in_ok-at.ensures.so_far
    (open_shape c.take_line.new.header.shape c.in_ok-at.ensures.line_start
    (λ e. false≢true (c.if-not-is_end-2.ensures.1 e)))

pub loop-at-preserved : goal.loop-at-preserved
loop-at-preserved c =
    let more : c.take_line.new.buffered.items ≡ c.args.buffered.now.items ++ take (c.loop-at.at +
    c.in_ok-at.field-0)
    c.args.piece.now =
    grind (
      arith,
      common_steps,
      held_more,
      c.in_ok-at.ensures.buffered,
      c.loop-at.invariant.buffered,
      c.first-window.ensures,
      c.in_ok-at.ensures.taken.1,
    ) in
    let lens = window_len c.args.piece.now c.first-window.result.now c.loop-at.at (8192 - c.len.result)
    c.first-window.ensures in
    let short : length c.take_line.new.buffered.items ≤ 8192 =
    grind (arith, common_steps, take_short, c.in_ok-at.ensures.buffered, c.len.ensures, c.loop-at.invariant.short) in
    record {
      within = omega (arith, lens.1, c.in_ok-at.ensures.taken.1, c.loop-at.invariant.within);
      buffered = more;
      so_far = c.in_ok-at.ensures.so_far;
      line_start = c.in_ok-at.ensures.line_start;
      short = short;
      capacity = omega (arith, c.loop-at.invariant.capacity, c.take_line.ensures.capacity);
      room = elim c.else-len-eq-LONGEST_HEADER.branch [
        | else-len-eq-LONGEST_HEADER-via-then-len-eq-LONGEST_HEADER+else-not-is_end-2 w ↦ λ ne. absurd
            (ne (w.if-not-is_end-2.ensures.0 refl))
        | else-len-eq-LONGEST_HEADER-via-else-len-eq-LONGEST_HEADER w ↦ grind (
          arith,
          common_steps,
          c.len-in-loop-at.ensures,
          w.if-len-eq-LONGEST_HEADER.false,
        )
      ];
    }
