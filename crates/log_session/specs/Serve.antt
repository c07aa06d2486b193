-- `serve`: each reply as it comes, up to `exit`.
use Rattle.log_session.specs.Prelude.{false, List, [], Ok, frame, reply, exits, LogRules, Record, Config, true}
use Rattle.log_session.specs.RunOutput.{RunOutput}
use Rattle.log_session.specs.Session.{Session, opened, Verdict, answered, session_outcome}
use Rattle.log_session.specs.View.{RecordOutput, writes, ends, View, output_in}
use Rattle.log_session.specs.Run.{Engine}

-- ---- `serve`: each reply as it comes, up to `exit`

-- A reply is written, and `exit` ends the run with its status.
abbrev pub serve_output : Session → Verdict → RecordOutput
serve_output s (answered (reply m)) = writes m.frame
serve_output s (answered (exits status))
    = ends [] (Ok (record (session_outcome s) { status = status }))
serve_output s verdict = writes []

-- If the input ends without `exit`, the status is 1.
abbrev pub serving : View (Unit {0})
serving = record {
  record_output = λ _ s r j. serve_output j.session j.verdict;
  next = λ _ s r j. tt;
  end_output = λ _ s line_due. [];
  outcome = λ _ s. record (session_outcome s) { status = 1 };
}

-- The output of `serve`.
abbrev pub replies : Config → List Record → RunOutput
replies config = output_in serving tt (opened config)

-- How each input is read: `serve` reads frames without a log's line, and the log commands read both
-- versions. `convert` refuses version 2.
abbrev pub as_stream : Config → LogRules
as_stream config = record { max_body = config.limits.max_body; versions = false; refuses_two = false }

-- ---- the engines of `serve`, `check`, `replay`, `normalise` and `convert`

-- `serve` reads frames and no log, and flushes each reply.
abbrev pub serve_engine : Config → Engine
serve_engine config
    = record {
      log_rules = as_stream config;
      run_output = replies config;
      flushes = true;
      in_parts = false;
    }
