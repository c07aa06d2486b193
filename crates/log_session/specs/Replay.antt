-- `replay`: at the end a line for each open document, in order of opening.
use Rattle.std.specs.Prelude.{◌++◌}
use Rattle.log_session.specs.Prelude.{ℕ, drop, List, [], codes, flat_map, DocumentItem, Record, Settings, true}
use Rattle.lsp_message.specs.Outgoing.{document_text}
use Rattle.log_session.specs.RunOutput.{RunOutput}
use Rattle.log_session.specs.Session.{opened, session_outcome}
use Rattle.log_session.specs.View.{writes, View, output_in, unless_bad}
use Rattle.log_session.specs.Settings.{log_config}
use Rattle.log_session.specs.Run.{Engine, log_engine}

-- ---- `replay`: at the end a line for each open document, in order of opening

-- A document's line: its object without spaces, as `textDocument/didOpen` has it, and a line feed.
unfoldable pub document_line : DocumentItem → List ℕ
document_line entry = document_text entry ++ codes "\n"

-- The lines of the documents from an index on.
abbrev pub report_from : ℕ → List DocumentItem → List ℕ
report_from index table = flat_map document_line (drop index table)

-- `replay` writes nothing for a record, and at the end the documents' lines from an index on.
abbrev pub replaying_from : ℕ → View (Unit {0})
replaying_from index = record {
  record_output = λ _ s r j. unless_bad r j.verdict (writes []);
  next = λ _ s r j. tt;
  end_output = λ _ s line_due. report_from index s.server.table;
  outcome = λ _ s. session_outcome s;
}

-- `replay` from the first document on.
abbrev pub replaying : View (Unit {0})
replaying = replaying_from 0

-- The output of `replay`.
abbrev pub report : Settings → List Record → RunOutput
report settings = output_in replaying tt (opened (log_config settings))

-- `replay` writes its report document by document.
abbrev pub replay_engine : Settings → Engine
replay_engine settings = record (log_engine settings (report settings)) { in_parts = true }
