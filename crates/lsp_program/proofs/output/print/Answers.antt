use Rattle.std.proofs.Common.{List, ℕ, ◌+◌, ◌++◌, drop, subst}
use Rattle.std.proofs.KnownBytes.{Appends-trans}
use Rattle.std.proofs.lemmas.Result.{err_from_is_err_and}
use Rattle.lsp_stream.specs.Turns.{AppendsFront}
use Rattle.lsp_program.specs.Output.{allowed_turns}
use Rattle.lsp_program.proofs.CallLemmas.{front_after, front_before, spends_more, stopped_after}
use Rattle.lsp_program.proofs.PieceLemmas.{one_more, texts}
use Rattle.lsp_program.proofs.output.print.Goals as goal

pub returns-in_err-write_given : goal.returns-in_err-write_given
returns-in_err-write_given g c =
    let p = err_from_is_err_and c.from_residual.result c.from_residual.ensures.1 in
    let before = g.W.Sink.seen c.args.output.now in
    let mid = g.W.Sink.seen c.loop-piece.output in
    let after = g.W.Sink.seen c.write_given.new.writer in
    let text = c.loop-piece.invariant.wrote.0 in
    let piece = c.as_bytes.result.now in
    rw (p.1, p.2) (
      subst (λ (z : List ℕ). AppendsFront before.written after.written z)
          (one_more c.args.pieces.now c.loop-piece.piece-index text piece c.loop-piece-test.true
          c.as_bytes.ensures.value c.loop-piece.invariant.wrote.2)
          (front_before before.written after.written (text ++ piece)
          (texts (drop (c.loop-piece.piece-index + 1) c.args.pieces.now))
          (front_after before.written mid.written after.written text piece c.loop-piece.invariant.wrote.1
          c.in_err-write_given.ensures.front)),
      stopped_after before mid after c.loop-piece.turns.left c.write_given.new.turns.left
          c.in_err-write_given.field-0.0 c.loop-piece.invariant.spent c.in_err-write_given.ensures.calls
          c.in_err-write_given.ensures.error,
    )

pub loop-piece-preserved : goal.loop-piece-preserved
loop-piece-preserved g c =
    let before = g.W.Sink.seen c.args.output.now in
    let mid = g.W.Sink.seen c.loop-piece.output in
    let after = g.W.Sink.seen c.write_given.new.writer in
    let text = c.loop-piece.invariant.wrote.0 in
    let piece = c.as_bytes.result.now in
    record {
      wrote = (
        text ++ piece,
        Appends-trans before.written mid.written after.written text piece c.loop-piece.invariant.wrote.1
            c.in_ok-write_given.ensures.wrote,
        one_more c.args.pieces.now c.loop-piece.piece-index text piece c.loop-piece-test.true
            c.as_bytes.ensures.value c.loop-piece.invariant.wrote.2,
      );
      spent = spends_more before.calls mid.calls after.calls allowed_turns c.loop-piece.turns.left
          c.write_given.new.turns.left c.loop-piece.invariant.spent c.in_ok-write_given.ensures.calls.spent;
    }
