use Rattle.log_session.proofs.Prelude.{pipe_quiet, ◌≡◌, true, false, ◌∙◌, ◌&&◌, not, sym}
use Rattle.log_session.proofs.Runs.ProgressLemmas.{cut_answer, end_answer}
use Rattle.log_session.proofs.engine.finish_run.Goals as goal

pub returns-then-not-at_rest-clause-answer : goal.returns-then-not-at_rest-clause-answer
returns-then-not-at_rest-clause-answer g c = λ start input w placed ended_before ended error.
    cut_answer w c.requires
    (pipe_quiet c.args.pipeline.now.selection (g.P.Printer.state c.args.pipeline.now.printer)) ended_before ended
    (c.args.flushes && not (g.W.Sink.seen c.args.writer.now).flushed) _ c.args.place
    (λ nothing. let wrong : true ≡ false = sym (c.at_rest.ensures.1 nothing) ∙ c.if-not-at_rest.true in cc) error placed

pub returns-clause-answer : goal.returns-clause-answer
returns-clause-answer g c = λ start input w placed ended_before ended error.
    end_answer w c.requires
    (pipe_quiet c.args.pipeline.now.selection (g.P.Printer.state c.args.pipeline.now.printer)) ended_before ended
    (c.args.flushes && not (g.W.Sink.seen c.write_last.new.writer).flushed)
    (c.at_rest.ensures.0 c.if-not-at_rest.false) error (rw c.line_due-due.ensures at c.write_last.ensures.last)
