-- `trace`: a line of JSON for each record of a log, with what a server answers to it and why.
use Rattle.std.specs.Prelude.{◌&&◌, ◌∷◌, ◌++◌, if◌then◌else◌}
use Rattle.log_report.specs.Prelude.{ℕ, Bool, true, false, nat_lt, length, List, [], Option, Some, None, option_and_then, option_map, codes, decimal, signed_decimal, LimitsData, IdData, whole, text, reading, ChangeData, DocumentItem, entry_at, IncomingData, not_json, not_a_message, response, initialize, shutdown, other_request, exit, did_open, did_change, did_close, other_notification, incoming_of, Head, Sender, Record, Settings, Details, Note}
use Rattle.serde_json.specs.Data.{string}
use Rattle.serde_json.specs.Written.{compact_text}
use Rattle.lsp_log.specs.declared.record.Sender.TheVariants.{Client, Server}
use Rattle.log_session.specs.RunOutput.{RunOutput}
use Rattle.log_session.specs.Canonical.{canonical_of_record}
use Rattle.log_session.specs.Settings.{log_config}
use Rattle.log_session.specs.View.{output_in}
use Rattle.log_report.specs.Check.{verdict_word}
use Rattle.log_report.specs.Lines.{FactsData, Known, LineView, facts_of, lines, nothing_known, uri_of}
use Rattle.log_report.specs.Notes.{notes_words}
use Rattle.log_report.specs.Reasons.{hint_words, reason_words}
use Rattle.log_report.specs.declared.facts.Hint.{Hint}
use Rattle.log_session.specs.Run.{Engine, log_engine}
use Rattle.log_session.specs.Session.{Session, Judged, Verdict, answered, has_changed, is_refused, opened}
use Rattle.log_session.specs.OneLine.{one_line}

-- ---- members of a line

-- A member, if it has a value. `front` is the comma and the name.
abbrev pub member : List ℕ → Option (List ℕ) → List ℕ
member front None = []
member front (Some value) = front ++ value

-- A text as a JSON string, with the shortest escapes.
unfoldable pub json_string : List ℕ → List ℕ
json_string s = compact_text (string s)

-- An id as JSON: a number or a string.
abbrev pub id_json : IdData → List ℕ
id_json (whole n) = signed_decimal n
id_json (text s) = json_string s

-- ---- what a record is, whatever is answered

-- Who sent it.
abbrev pub side_word : Sender → List ℕ
side_word Client = codes "editor"
side_word Server = codes "server"

-- The method of a request or a notification.
abbrev pub method_of : IncomingData → Option (List ℕ)
method_of (initialize id offers) = Some (codes "initialize")
method_of (shutdown id) = Some (codes "shutdown")
method_of (other_request id method) = Some method
method_of exit = Some (codes "exit")
method_of (did_open params) = Some (codes "textDocument/didOpen")
method_of (did_change params) = Some (codes "textDocument/didChange")
method_of (did_close params) = Some (codes "textDocument/didClose")
method_of (other_notification method) = Some method
method_of m = None

-- The id of a request or a response, and the one that a body which is no message still names.
abbrev pub id_of : IncomingData → Option IdData
id_of (not_a_message id) = id
id_of (response id) = id
id_of (initialize id offers) = Some id
id_of (shutdown id) = Some id
id_of (other_request id method) = Some id
id_of m = None

-- The first members of a line, by the record's number, its head and what its body asks.
abbrev pub first_members : ℕ → Head → IncomingData → List ℕ
first_members number head m =
    codes "{\"number\":" ++ decimal number ++ codes ",\"offset\":" ++ decimal head.place
    ++ codes ",\"from\":\"" ++ side_word head.side ++ codes "\""
    ++ member (codes ",\"method\":") (option_map json_string (method_of m))
    ++ member (codes ",\"id\":") (option_map id_json (id_of m))
    ++ member (codes ",\"uri\":") (option_map json_string (uri_of head.side m))

-- ---- what is answered

-- Why a record was refused, if it counts as refused. `hint`: what comes after the reason.
abbrev pub reason_json : LimitsData → Option ChangeData → Option Hint → Verdict → Option (List ℕ)
reason_json limits change hint (answered answer) = if is_refused answer then
    Some (codes "\"" ++ reason_words limits change answer ++ hint_words hint
    ++ codes "\"") else None
reason_json limits change hint verdict = None

-- The notes of a record, as strings in an array. Without notes there is none.
abbrev pub notes_json : List Note → Option (List ℕ)
notes_json [] = None
notes_json (note ∷ notes) =
    Some (codes "[\"" ++ notes_words (codes "\",\"") (note ∷ notes) ++ codes "\"]")

-- A canonical message, unless it is over the limit.
abbrev pub within : ℕ → Option (List ℕ) → Option (List ℕ)
within max_body None = None
within max_body (Some body) = if nat_lt max_body (length body) then None else Some body

-- The document that a record is about, as it is afterwards, if it is open.
abbrev pub document_after : List DocumentItem → Option (List ℕ) → Option DocumentItem
document_after table uri = option_and_then (entry_at table) uri

-- The version of an open document.
abbrev pub version_json : Option DocumentItem → Option (List ℕ)
version_json document = option_map (λ entry. signed_decimal entry.version) document

-- The text of an open document, if it is to be written.
abbrev pub text_json : Bool → Option DocumentItem → Option (List ℕ)
text_json is_asked document =
    if is_asked then option_map (λ entry. json_string entry.text) document else None

-- Is a body JSON?
abbrev pub is_json : IncomingData → Bool
is_json not_json = false
is_json m = true

-- A body on one line, if it is to be written.
abbrev pub body_json : Bool → List ℕ → Option (List ℕ)
body_json is_asked body = if is_asked then Some (one_line body) else None

-- The members of a line from here on, each with its value if it has one, and the line's end.
abbrev pub last_members : List (List ℕ × Option (List ℕ)) → List ℕ
last_members [] = codes "}\n"
last_members (m ∷ more) = member m.0 m.1 ++ last_members more

-- ---- the engine

-- The members of a line after the first ones, by the document afterwards and the canonical message,
-- if they are there. The text is written if it is asked for and the record opened or changed the
-- document, the body if it is asked for and is JSON.
abbrev pub facts_members : Details → LimitsData → FactsData → Option DocumentItem → Option (List ℕ)
    → Bool → List ℕ → List ℕ
facts_members details limits f document canonical json body =
    codes ",\"word\":\"" ++ verdict_word f.verdict ++ codes "\"" ++ last_members (
    (codes ",\"reason\":", reason_json limits f.change f.hint f.verdict)
    ∷ (codes ",\"last\":", option_map decimal f.last)
    ∷ (codes ",\"notes\":", notes_json f.notes)
    ∷ (codes ",\"version\":", version_json document)
    ∷ (codes ",\"canonical\":", canonical)
    ∷ (codes ",\"text\":", text_json (details.texts && has_changed f.verdict) document)
    ∷ (codes ",\"body\":", body_json (details.bodies && json) body)
    ∷ [])

-- A line of `trace`, from what is known of the records before, the session before the record and
-- the judgement of it. `m` is what the record's body asks.
abbrev pub trace_line : Details → Known → Session → Record → Judged → IncomingData → List ℕ
trace_line details known s r j m =
    first_members j.session.records r.head m
    ++ facts_members details j.session.server.config.limits (facts_of known s r j m)
    (document_after j.session.server.table (uri_of r.head.side m))
    (within s.server.config.limits.max_body (canonical_of_record s r.body j.verdict)) (is_json m)
    r.body

-- `trace` writes such a line for each record, and nothing at the end.
abbrev pub tracing : Details → LineView
tracing details = record {
  line = λ known s r j. trace_line details known s r j (incoming_of (reading r.body));
  end_lines = λ known s. [];
}

-- The output of `trace`.
abbrev pub traced : Settings → Details → List Record → RunOutput
traced settings details =
    output_in (lines (tracing details)) nothing_known (opened (log_config settings))

-- The engine of `trace`.
abbrev pub trace_engine : Settings → Details → Engine
trace_engine settings details = log_engine settings (traced settings details)
