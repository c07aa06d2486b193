-- `convert`: a log of version 2, with the replies in it.
use Rattle.std.specs.Prelude.{◌==◌, ◌++◌, if◌then◌else◌}
use Rattle.log_rewrite.specs.Prelude.{ℕ, true, List, [], codes, reply, LogRules, Record, version_line, Settings}
use Rattle.log_session.specs.RunOutput.{RunOutput}
use Rattle.log_session.specs.Session.{Session, opened, Verdict, answered, session_outcome}
use Rattle.log_session.specs.View.{writes, View, output_in, unless_bad}
use Rattle.log_session.specs.Settings.{log_config}
use Rattle.log_session.specs.Run.{Engine, log_engine}

-- ---- `convert`: a log of version 2, with the replies in it

-- The record of a server's reply: its mark and its frame.
abbrev pub reply_record : Verdict → List ℕ
reply_record (answered (reply m)) = codes "<" ++ m.frame
reply_record verdict = []

-- The line of version 2 comes before the first record, or alone if there is none.
abbrev pub line_before : Session → List ℕ
line_before s = if s.records == 0 then version_line else []

-- `convert` writes each record with its mark, and after it the reply.
abbrev pub converting : View (Unit {0})
converting = record {
  record_output = λ _ s r j.
      unless_bad r j.verdict
      (writes (line_before s ++ codes ">" ++ r.raw ++ reply_record j.verdict));
  next = λ _ s r j. tt;
  end_output = λ _ s line_due. line_before s;
  outcome = λ _ s. session_outcome s;
}

-- The output of `convert`.
abbrev pub converted : Settings → List Record → RunOutput
converted settings = output_in converting tt (opened (log_config settings))

-- A log, of which version 2 is refused.
abbrev pub as_converted : Settings → LogRules
as_converted settings
    = record { max_body = settings.limits.max_body; versions = true; refuses_two = true }

-- `convert` refuses version 2.
abbrev pub convert_engine : Settings → Engine
convert_engine settings =
    record (log_engine settings (converted settings)) { log_rules = as_converted settings }
