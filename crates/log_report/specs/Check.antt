-- `check`: a line for each record, its number and a word.
use Rattle.std.specs.Prelude.{◌++◌}
use Rattle.log_report.specs.Prelude.{ℕ, List, [], Option, Some, None, codes, decimal, ErrorCode, ParseError, InvalidRequest, MethodNotFound, InvalidParams, ServerNotInitialized, server_refusal_code, AnswerData, reply, changed, dropped, ignored, refused, exits, already_ended, Sent, Record, Settings}
use Rattle.log_session.specs.RunOutput.{RunOutput}
use Rattle.log_session.specs.Session.{opened, Verdict, answered, recorded, bad, session_outcome}
use Rattle.log_session.specs.View.{writes, View, output_in, unless_bad}
use Rattle.log_session.specs.Settings.{log_config}
use Rattle.log_session.specs.Run.{Engine, log_engine}

-- ---- `check`: a line for each record, its number and a word

-- The word of a reply: `reply`, or its error code (LSP 3.17, Response Message).
abbrev pub code_word : Option ErrorCode → List ℕ
code_word None = codes "reply"
code_word (Some ParseError) = codes "error -32700"
code_word (Some InvalidRequest) = codes "error -32600"
code_word (Some MethodNotFound) = codes "error -32601"
code_word (Some InvalidParams) = codes "error -32602"
code_word (Some ServerNotInitialized) = codes "error -32002"

-- The word of what a server answers to a message.
abbrev pub word_of : AnswerData Sent → List ℕ
word_of (reply m) = code_word m.code
word_of changed = codes "changed"
word_of dropped = codes "dropped"
word_of ignored = codes "ignored"
word_of (refused refusal) = codes "refused " ++ server_refusal_code refusal
word_of (exits status) = codes "exit " ++ decimal status
word_of already_ended = []

-- The word of a record: `server` for one of the server's.
abbrev pub verdict_word : Verdict → List ℕ
verdict_word (answered answer) = word_of answer
verdict_word recorded = codes "server"
verdict_word bad = []

-- A line of `check`: the record's number and its word.
abbrev pub check_line : ℕ → Verdict → List ℕ
check_line n verdict = decimal n ++ codes " " ++ verdict_word verdict ++ codes "\n"

-- `check` writes a line for each record, and nothing at the end.
abbrev pub checking : View (Unit {0})
checking = record {
  record_output = λ _ s r j.
      unless_bad r j.verdict (writes (check_line j.session.records j.verdict));
  next = λ _ s r j. tt;
  end_output = λ _ s line_due. [];
  outcome = λ _ s. session_outcome s;
}

-- The output of `check`.
abbrev pub verdicts : Settings → List Record → RunOutput
verdicts settings = output_in checking tt (opened (log_config settings))

-- `check`.
abbrev pub check_engine : Settings → Engine
check_engine settings = log_engine settings (verdicts settings)
