-- `normalise`: each accepted change as its canonical message, or as the whole text that it leaves,
-- and every other byte as it is.
use Rattle.std.specs.Prelude.{◌++◌, if◌then◌else◌}
use Rattle.log_rewrite.specs.Prelude.{ℕ, nat_lt, length, List, [], Option, Some, None, Err, frame, BodyTooLong, Head, Record, mark_of, Settings}
use Rattle.lsp_message.specs.Params.{ChangeData}
use Rattle.lsp_server.specs.Step.{ServerData}
use Rattle.log_session.specs.RunOutput.{RunOutput}
use Rattle.log_session.specs.Session.{Session, opened, Judged, session_outcome}
use Rattle.log_session.specs.View.{RecordOutput, writes, ends, View, output_in, unless_bad}
use Rattle.log_session.specs.Selection.{line_if}
use Rattle.log_session.specs.Canonical.{body_of_record, canonical_change_body, whole_change_body}
use Rattle.log_session.specs.Settings.{log_config}

-- The bytes before a record's frame: the line of version 2, if it is due, and the record's mark.
abbrev pub front_of : Head → List ℕ
front_of head = line_if head.line_due ++ mark_of head.version head.side

-- A record is written with its own frame, or with the frame of another body, unless that is too
-- long.
abbrev pub written : ℕ → Record → List ℕ → Option (List ℕ) → RecordOutput
written max_body r front None = writes (front ++ r.raw)
written max_body r front (Some body) = if nat_lt max_body (length body) then
    ends [] (Err (BodyTooLong r.head.place)) else writes (front ++ frame body)

-- The output of a record where an accepted change is written with another body.
abbrev pub rewritten_output : (ServerData → ChangeData → List ℕ) → Session → Record → Judged
    → RecordOutput
rewritten_output body s r j
    = written s.server.config.limits.max_body r (front_of r.head)
    (body_of_record body s r.body j.verdict)

-- The output of `normalise` for a record.
abbrev pub canonical_output : Session → Record → Judged → RecordOutput
canonical_output s r j = rewritten_output canonical_change_body s r j

-- Each record is written, an accepted change with another body, and at the end nothing. A log of
-- version 2 without records is its line.
abbrev pub rewriting : (ServerData → ChangeData → List ℕ) → View (Unit {0})
rewriting body = record {
  record_output = λ _ s r j. unless_bad r j.verdict (rewritten_output body s r j);
  next = λ _ s r j. tt;
  end_output = λ _ s line_due. line_if line_due;
  outcome = λ _ s. session_outcome s;
}

-- `normalise` writes the canonical body of each.
abbrev pub normalising : View (Unit {0})
normalising = rewriting canonical_change_body

-- `normalise --whole` writes the text that each leaves.
abbrev pub writing_whole : View (Unit {0})
writing_whole = rewriting whole_change_body

-- The output of `normalise` without squash.
abbrev pub canonical_log : Settings → List Record → RunOutput
canonical_log settings = output_in normalising tt (opened (log_config settings))

-- The output of `normalise --whole`.
abbrev pub whole_log : Settings → List Record → RunOutput
whole_log settings = output_in writing_whole tt (opened (log_config settings))
