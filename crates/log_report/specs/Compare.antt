-- `compare`: whether a document's last text is that of a file, and else which message made it so.
use Rattle.std.specs.Prelude.{if◌then◌else◌, ◌∷◌, ◌++◌}
use Rattle.log_report.specs.Prelude.{ℕ, Bool, length, List, [], Option, Some, None, Result, Ok, Err, option_map, chars, ComparisonData, Followed, comparison_words, ended_by, ends_so, equality, is_followed, refused_by, taken, Splice, units_in, Range, ends_of, EditFault, reading, ChangeData, ContentChangeData, DocumentItem, entry_at, changed, refused, server_refusal_code, IncomingData, did_change, did_close, incoming_of, ServerData, content_change_from_data, session_encoding, Record, Settings, Outcome}
use Rattle.line_diff.specs.Owners.{splice_between}
use Rattle.lsp_edit.specs.Faults.{places_at}
use Rattle.log_session.specs.RunOutput.{RunOutput}
use Rattle.log_session.specs.View.{View, output_in, unless_bad, writes}
use Rattle.log_session.specs.Settings.{log_config}
use Rattle.log_report.specs.Lines.{uri_of}
use Rattle.log_session.specs.Session.{lacking, Session, Verdict, answered, opened, session_outcome}
use Rattle.log_session.specs.Run.{Engine, log_engine}
use Rattle.log_report.specs.Notes.{if_left, left_by}
use Rattle.log_session.specs.declared.outcome.Missing.TheVariants as missing

-- A URI, if it ends so.
abbrev pub if_ends_so : List ℕ → Option (List ℕ) → Option (List ℕ)
if_ends_so ending None = None
if_ends_so ending (Some uri) = if ends_so uri ending then Some uri else None

-- ---- which parts of a text a change replaces; a character `c` has `units c` units

-- The part between two byte offsets, in whose place come so many bytes.
abbrev pub splice_at : ℕ → Result (ℕ × ℕ) EditFault → Option Splice
splice_at len (Ok ends) = Some (record { start = ends.0; end = ends.1; len = len })
splice_at len (Err fault) = None

-- The part that is a range, or by which the whole text differs; if there is one.
abbrev pub splice_for : (ℕ → ℕ) → List ℕ → Option Range → List ℕ → Option Splice
splice_for units text None new = Some (splice_between text new)
splice_for units text (Some range) new =
    splice_at (length new) (places_at 0 (chars text) (ends_of units (chars text) range))

abbrev pub splice_of : (ℕ → ℕ) → List ℕ → ContentChangeData → Option Splice
splice_of units text change = splice_for units text change.range change.text

abbrev pub listed : Option Splice → List Splice
listed None = []
listed (Some splice) = splice ∷ []

-- The parts that changes replace, each in the text that the one before it leaves.
abbrev pub splices_from : (ℕ → ℕ) → List ℕ → List ContentChangeData → List Splice
splices_from units text [] = []
splices_from units text (change ∷ changes) =
    listed (splice_of units text change)
    ++ if_left (λ next. splices_from units next changes)
    (left_by units text (content_change_from_data change))

-- Those of a message, on a document that may be open.
abbrev pub splices_on : ServerData → Option DocumentItem → ChangeData → List Splice
splices_on s None p = []
splices_on s (Some entry) p = splices_from (units_in (session_encoding s)) entry.text p.changes

-- Those of a message that changes a document whose URI ends so.
abbrev pub splices_in : List ℕ → ServerData → IncomingData → Option (List Splice)
splices_in ending s (did_change (Some p)) = if ends_so p.uri ending
    then Some (splices_on s (entry_at s.table p.uri) p) else None
splices_in ending s m = None

-- ---- the comparison after a record

-- The text of a document that may be open.
abbrev pub open_text_of : ServerData → Option (List ℕ) → Option (List ℕ)
open_text_of s None = None
open_text_of s (Some uri) = option_map (λ entry. entry.text) (entry_at s.table uri)

-- The text that a message takes from the document, if it closes it.
abbrev pub closed_text : Option Followed → ServerData → IncomingData → Option (List ℕ)
closed_text document s (did_close (Some p)) =
    if is_followed p.uri document then open_text_of s (Some p.uri) else None
closed_text document s m = None

-- After the document's last text, if it is given.
abbrev pub ended_if : Option (List ℕ) → ComparisonData → ComparisonData
ended_if None c = c
ended_if (Some text) c = ended_by text c

-- After the record of this number has given this document its text, or has taken this text.
abbrev pub taken_if : Option (List ℕ) → Option (List Splice) → ℕ → List ℕ → Option DocumentItem
    → ComparisonData → ComparisonData
taken_if text splices number uri None c = ended_if text c
taken_if text splices number uri (Some entry) c = taken number uri (length entry.text) splices c

-- After a record about this document, if it is about one. `s` is the session after it.
abbrev pub learned : Option (List ℕ) → Option (List Splice) → Option (List ℕ) → Verdict → Session
    → ComparisonData → ComparisonData
learned text splices (Some uri) (answered changed) s c =
    taken_if text splices s.records uri (entry_at s.server.table uri) c
learned text splices (Some uri) (answered (refused refusal)) s c =
    refused_by s.records uri (server_refusal_code refusal) c
learned text splices uri verdict s c = c

-- At the end, if the document is still open.
abbrev pub ended : Session → ComparisonData → ComparisonData
ended s c = ended_if (open_text_of s.server (option_map (λ d. d.uri) c.document)) c

-- The status is 0 if the texts are equal, byte for byte, whatever was refused.
abbrev pub compared_outcome : Option Bool → Outcome → Outcome
compared_outcome None outcome = lacking missing.Document outcome
compared_outcome (Some equal) outcome = record outcome { status = (if equal then 0 else 1) }

-- Is the text the file's?
abbrev pub comparison_equality : ComparisonData → Option Bool
comparison_equality c = equality c.document c.second c.file

-- A record prints nothing.
abbrev pub comparing : View ComparisonData
comparing = record {
  record_output = λ c s r j. unless_bad r j.verdict (writes []);
  next = λ c s r j.
      learned (closed_text c.document s.server (incoming_of (reading r.body)))
      (splices_in c.ending s.server (incoming_of (reading r.body)))
      (if_ends_so c.ending (uri_of r.head.side (incoming_of (reading r.body)))) j.verdict
      j.session c;
  end_output = λ c s line_due. comparison_words (ended s c);
  outcome = λ c s. compared_outcome (comparison_equality (ended s c)) (session_outcome s);
}

-- The output of `compare`.
abbrev pub compared : Settings → ComparisonData → List Record → RunOutput
compared settings c = output_in comparing c (opened (log_config settings))

-- The engine of `compare`.
abbrev pub compare_engine : Settings → ComparisonData → Engine
compare_engine settings c = log_engine settings (compared settings c)
