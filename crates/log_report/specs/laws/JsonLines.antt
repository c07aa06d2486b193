-- The lines of `trace` and `replay` are JSON, and the value of each.
--
-- `document` is how Rattle's crate `json` reads JSON (RFC 8259): members are in the order of the
-- text, and a number is its digits.
use Rattle.std.specs.Prelude.{◌≡◌, ◌<◌, ◌^◌, ◌&&◌, if◌then◌else◌, ◌∷◌, ◌++◌}
use Rattle.log_report.specs.Prelude.{ℕ, ℤ, Bool, List, [], map, Option, Some, None, option_map, option_and_then, All, IsUtf8, codes, decimal, signed_decimal, LimitsData, AreInRange, IdData, whole, text, reading, DocumentItem, IncomingData, incoming_of, Record, Settings, Details, Note}
use Rattle.json.specs.Json.{Json, number, string, array, object, Members, no_members, member, document}
use Rattle.json.specs.Value.{items_of}
use Rattle.lsp_message.specs.laws.Sent.{IsProperDocument}
use Rattle.log_session.specs.Canonical.{canonical_of_record, change_in}
use Rattle.log_session.specs.Replay.{document_line}
use Rattle.log_session.specs.Settings.{log_config}
use Rattle.log_report.specs.Check.{verdict_word}
use Rattle.log_report.specs.Lines.{Known, hint_of, known_after, last_in, nothing_known, uri_of}
use Rattle.log_report.specs.Notes.{note_words}
use Rattle.log_report.specs.Habits.{notes_of}
use Rattle.log_report.specs.Reasons.{hint_words, reason_words}
use Rattle.log_report.specs.declared.facts.Hint.{Hint}
use Rattle.log_session.specs.Session.{Session, Judged, Verdict, answered, bad, has_changed, is_refused, judge, opened}
use Rattle.log_report.specs.Trace.{document_after, id_of, is_json, method_of, side_word, traced, within}
use Rattle.log_session.specs.OneLine.{one_line}

-- ---- lines

-- A line is JSON with this value. It is UTF-8, and its one line break is the line feed at its end.
pub record IsJsonLine (line : List ℕ) (value : Json) : Type 0 where
  pub utf8 : IsUtf8 line
  pub reads : document line ≡ Some value
  pub ends : line ≡ one_line line ++ codes "\n"

-- Bytes are a line for each of these values, in this order.
abbrev pub AreJsonLines : List ℕ → List Json → Type 0
AreJsonLines bytes [] = bytes ≡ []
AreJsonLines bytes (value ∷ values) =
    (line : List ℕ) × (rest : List ℕ) × (bytes ≡ line ++ rest) × IsJsonLine line value
    × AreJsonLines rest values

-- ---- objects

-- A member before others, if it has a value.
abbrev pub member_if : List ℕ → Option Json → Members → Members
member_if name None more = more
member_if name (Some value) more = member name value more

-- The members of an object in order, each with its value if it has one.
abbrev pub members_with : List (List ℕ × Option Json) → Members
members_with [] = no_members
members_with (m ∷ more) = member_if m.0 m.1 (members_with more)

-- Numbers.
abbrev pub natural : ℕ → Json
natural n = number (decimal n)

abbrev pub integer : ℤ → Json
integer z = number (signed_decimal z)

-- ---- `trace`

-- An id.
abbrev pub id_value : IdData → Json
id_value (whole z) = integer z
id_value (text s) = string s

-- Why a record was refused, if it counts as refused. `hint`: what comes after the reason.
abbrev pub reason_value : LimitsData → IncomingData → Option Hint → Verdict → Option Json
reason_value limits m hint (answered answer) = if is_refused answer then
    Some (string (reason_words limits (change_in m) answer ++ hint_words hint)) else None
reason_value limits m hint verdict = None

-- The notes of a record.
abbrev pub notes_value : List Note → Option Json
notes_value [] = None
notes_value (note ∷ notes) =
    Some (array (items_of (map (λ note. string (note_words note)) (note ∷ notes))))

-- The text of an open document, if it is to be written.
abbrev pub text_value : Bool → Option DocumentItem → Option Json
text_value is_asked entry =
    if is_asked then option_map (λ entry. string entry.text) entry else None

-- What a body is read as, if it is to be written.
abbrev pub body_value : Bool → List ℕ → Option Json
body_value is_asked body = if is_asked then document body else None

-- The value of a line of `trace`, by what the line is written by (`trace_line`). The members
-- `canonical` and `body` are what the two bodies are read as.
abbrev pub trace_value : Details → Known → Session → Record → Judged → IncomingData → Json
trace_value details known s r j m = object (members_with (
    (codes "number", Some (natural j.session.records))
    ∷ (codes "offset", Some (natural r.head.place))
    ∷ (codes "from", Some (string (side_word r.head.side)))
    ∷ (codes "method", option_map string (method_of m))
    ∷ (codes "id", option_map id_value (id_of m))
    ∷ (codes "uri", option_map string (uri_of r.head.side m))
    ∷ (codes "word", Some (string (verdict_word j.verdict)))
    ∷ (
      codes "reason",
      reason_value j.session.server.config.limits m (hint_of known r j m) j.verdict,
    )
    ∷ (codes "last", option_map natural (last_in known (uri_of r.head.side m) j.verdict))
    ∷ (codes "notes", notes_value (notes_of s known.documents known.ranged r.body j.verdict))
    ∷ (
      codes "version",
      option_map (λ entry. integer entry.version)
          (document_after j.session.server.table (uri_of r.head.side m)),
    )
    ∷ (
      codes "canonical",
      option_and_then document
          (within s.server.config.limits.max_body (canonical_of_record s r.body j.verdict)),
    )
    ∷ (
      codes "text",
      text_value (details.texts && has_changed j.verdict)
          (document_after j.session.server.table (uri_of r.head.side m)),
    )
    ∷ (codes "body", body_value (details.bodies && is_json m) r.body)
    ∷ []))

-- A value and those of the records after it. A record that can't be in a log has none, and ends the
-- run.
abbrev pub unless_bad_value : Verdict → Json → List Json → List Json
unless_bad_value bad value values = []
unless_bad_value verdict value values = value ∷ values

-- The values of the lines of `trace` for records, by what is known before them.
abbrev pub values_from : Details → Known → Session → List Record → List Json
values_from details known s [] = []
values_from details known s (r ∷ rs) =
    unless_bad_value (judge s r).verdict
    (trace_value details known s r (judge s r) (incoming_of (reading r.body)))
    (values_from details (known_after known s r.head r.body (judge s r)) (judge s r).session rs)

-- The values of the lines that `trace` writes for a log.
abbrev pub trace_values : Settings → Details → List Record → List Json
trace_values settings details = values_from details nothing_known (opened (log_config settings))

-- `trace` writes these lines. Each offset has 64 bits, as in the type of a record's head.
abbrev pub TraceJsonLaw : Type 0
TraceJsonLaw =
    (settings : Settings) (details : Details) (records : List Record) → AreInRange settings.limits
    → All (λ r. r.head.place < 2 ^ 64) records
    → AreJsonLines (traced settings details records).out (trace_values settings details records)

-- ---- `replay`

-- The value of a document's line.
abbrev pub document_value : DocumentItem → Json
document_value entry =
    object (member (codes "languageId") (string entry.language)
    (member (codes "text") (string entry.text) (member (codes "uri") (string entry.uri)
    (member (codes "version") (integer entry.version) no_members))))

-- A line of `replay` is this value, for a document as its type holds it.
abbrev pub ReplayJsonLaw : Type 0
ReplayJsonLaw = (entry : DocumentItem) → IsProperDocument entry
    → IsJsonLine (document_line entry) (document_value entry)
