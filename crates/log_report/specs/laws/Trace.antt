-- `trace` beside `check` and `replay`: the same numbers and words, and the same last texts.
use Rattle.std.specs.Prelude.{◌≡◌, ◌&&◌, ◌∷◌, ◌++◌, if◌then◌else◌}
use Rattle.log_report.specs.Prelude.{ℕ, Bool, true, false, List, [], Option, Some, None, option_map, codes, decimal, flat_map, bytes_eq, DocumentItem, entry_at, Record, Settings, Details}
use Rattle.log_session.specs.RunOutput.{RunOutput}
use Rattle.log_session.specs.Replay.{report, report_from}
use Rattle.log_report.specs.Check.{verdicts}
use Rattle.log_report.specs.Trace.{json_string, member, traced}

-- What a record's line has: its number and its word as `check` has them, its document and that
-- document's text, and the other members.
pub record Line : Type 0 where
  pub number : ℕ
  pub word : List ℕ
  pub uri : Option (List ℕ)
  pub text : Option (List ℕ)
  pub before : List ℕ
  pub between : List ℕ
  pub after : List ℕ

-- The line of `check`.
abbrev pub checked_line : Line → List ℕ
checked_line l = decimal l.number ++ codes " " ++ l.word ++ codes "\n"

-- The line of `trace`.
abbrev pub traced_line : Line → List ℕ
traced_line l =
    codes "{\"number\":" ++ decimal l.number ++ l.before
    ++ member (codes ",\"uri\":") (option_map json_string l.uri)
    ++ codes ",\"word\":\"" ++ l.word ++ codes "\"" ++ l.between
    ++ member (codes ",\"text\":") (option_map json_string l.text) ++ l.after

-- Is a document the one with this URI?
abbrev pub is_document : List ℕ → Option (List ℕ) → Bool
is_document uri None = false
is_document uri (Some other) = bytes_eq uri other

-- The text of a document in the last line of a record that opened, changed or closed it. `old` is
-- the text before these lines.
abbrev pub written_text : List ℕ → Option (List ℕ) → List Line → Option (List ℕ)
written_text uri old [] = old
written_text uri old (l ∷ lines) =
    written_text uri
    (if bytes_eq l.word (codes "changed") && is_document uri l.uri then l.text else old) lines

-- `replay` reports these documents, and the last texts in these lines are theirs.
pub record AreTextsOf (report : RunOutput) (lines : List Line) : Type 0 where
  pub table : List DocumentItem
  pub reported : (line_due : Bool) → report.last line_due ≡ report_from 0 table
  pub texts : (uri : List ℕ)
      → written_text uri None lines ≡ option_map (λ entry. entry.text) (entry_at table uri)

-- An output of `trace` ends where one of `check` does, and as it does, and they have the same
-- numbers and words. With texts the last ones are those of `replay`, if the log has no bad record.
pub record IsTraceOf (details : Details) (trace check report : RunOutput) : Type 0 where
  pub stop : trace.stop ≡ check.stop
  pub outcome : trace.outcome ≡ check.outcome
  pub lines : List Line
  pub traced : trace.out ≡ flat_map traced_line lines
  pub checked : check.out ≡ flat_map checked_line lines
  pub texts : details.texts ≡ true → trace.stop ≡ None → AreTextsOf report lines

-- So it is for each list of records.
abbrev pub TraceLaw : Type 0
TraceLaw = (settings : Settings) (details : Details) (records : List Record)
    → IsTraceOf details (traced settings details records) (verdicts settings records)
    (report settings records)
