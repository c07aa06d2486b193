use Rattle.std.proofs.Common.{map, ◌≡◌, List, ℕ, ◌++◌, drop}
use Rattle.std.specs.List.{concat}
use Rattle.std.specs.Io.KnownBytes.{Appends}
use Rattle.lsp_stream.specs.Turns.{Spends}
use Rattle.lsp_program.specs.Output.{allowed_turns}
use Rattle.lsp_program.proofs.output.print.Given as goal

abbrev pub invariant-loop-piece : goal.invariant-loop-piece
invariant-loop-piece g l = record {
  wrote : (text : List ℕ)
      × Appends (g.W.Sink.seen l.fn.output).written (g.W.Sink.seen l.output).written text
      × (text ++ concat (map (λ piece. piece.now) (drop l.piece-index l.pieces))
      ≡ concat (map (λ piece. piece.now) l.pieces));
  spent : Spends (g.W.Sink.seen l.fn.output).calls (g.W.Sink.seen l.output).calls allowed_turns l.turns.left;
}
