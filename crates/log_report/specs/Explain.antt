-- `check --explain`: a line of `check` for each record, with the reason where it was refused and
-- the notes where it is suspicious; at the end what came how often, and what to do next.
use Rattle.std.specs.Prelude.{◌==◌, ◌||◌, ◌-◌, ◌∷◌, ◌++◌, if◌then◌else◌}
use Rattle.log_report.specs.Prelude.{ℕ, Bool, false, not, nat_lt, length, List, [], Option, Some, None, codes, decimal, LimitsData, notification_params, reading, IncomingData, incoming_of, Record, Settings, Listing, Note}
use Rattle.log_session.specs.RunOutput.{RunOutput}
use Rattle.log_session.specs.Settings.{log_config}
use Rattle.log_session.specs.View.{output_in}
use Rattle.log_report.specs.Check.{verdict_word}
use Rattle.log_report.specs.Counts.{counts_words}
use Rattle.log_report.specs.Habits.{Habits, habits_at, notes_of, rare_notes}
use Rattle.log_report.specs.declared.counts.Hidden.{Hidden}
use Rattle.log_report.specs.Tallies.{Tally, count_of, has_tallies, tallied}
use Rattle.log_report.specs.Lines.{FactsData, Known, LineView, facts_of, has_notes, lines, noted_in, nothing_known}
use Rattle.log_report.specs.Notes.{note_kind, notes_words}
use Rattle.log_report.specs.Reasons.{hint_words, reason_words}
use Rattle.log_session.specs.Run.{Engine, log_engine}
use Rattle.log_session.specs.Session.{Session, Judged, Verdict, answered, is_new, is_refused, opened, refuses}
use Rattle.log_report.specs.Trace.{json_string}
use Rattle.lsp_server.specs.declared.phase.Phase.{Phase}

-- Which lines there are where a user sets nothing: each, with the notes that aren't hidden.
abbrev pub default_listing : Listing
default_listing = record { brief = false; all = false }

-- The document that a record is about, as a JSON string.
abbrev pub document_words : Option (List ℕ) → List ℕ
document_words None = []
document_words (Some uri) = codes " of " ++ json_string uri

-- Which record to look at.
abbrev pub see_words : Option ℕ → List ℕ
see_words None = []
see_words (Some number) = codes "; see message " ++ decimal number

-- What comes after the word of a record that counts as refused, and names this document.
abbrev pub explanation : LimitsData → FactsData → Option (List ℕ) → Verdict → List ℕ
explanation limits f noted (answered answer) = if is_refused answer then
    document_words noted ++ codes ": " ++ reason_words limits f.change answer
    ++ hint_words f.hint ++ see_words f.last else []
explanation limits f noted verdict = []

-- A line has at most three notes of a kind.
abbrev pub most_notes : ℕ
most_notes = 3

-- A note, unless so many of its kind were counted.
abbrev pub few_note : List Tally → Note → List Note
few_note kinds note =
    if nat_lt (count_of (note_kind note) kinds) most_notes then note ∷ [] else []

-- These, after notes whose kinds were counted. (No tally's number matters.)
abbrev pub few_from : List Tally → List Note → List Note
few_from kinds [] = []
few_from kinds (note ∷ notes) =
    few_note kinds note ++ few_from (tallied (note_kind note) 0 kinds) notes

abbrev pub few_notes : List Note → List Note
few_notes notes = few_from [] notes

-- How many notes a line leaves out, if it does.
abbrev pub left_words : ℕ → List ℕ
left_words left = if left == 0 then [] else codes "; and " ++ decimal left ++ codes " more"

-- What comes after the word of a record that has notes.
abbrev pub remark : Option (List ℕ) → List Note → List ℕ
remark uri notes = if has_notes notes then
    document_words uri ++ codes ": " ++ notes_words (codes "; ") (few_notes notes)
    ++ left_words (length notes - length (few_notes notes))
    else []

-- The notes on a record's line: those that aren't hidden, and with `--all` each.
abbrev pub listed_notes : Listing → Habits → List Note → List Note
listed_notes listing h notes = if listing.all then notes else rare_notes h notes

-- Has a record a line? With `--brief` only one that counts as refused, or has notes on its line.
abbrev pub is_listed : Listing → Verdict → List Note → Bool
is_listed listing verdict notes = not listing.brief || (refuses verdict || has_notes notes)

-- The line of a record with these notes on it. `noted`: the document that it names.
abbrev pub line_with : LimitsData → FactsData → Option (List ℕ) → List Note → List ℕ
line_with limits f noted notes =
    decimal f.number ++ codes " " ++ verdict_word f.verdict ++ explanation limits f noted f.verdict
    ++ remark noted notes ++ codes "\n"

-- The same, unless the record has none.
abbrev pub listed_line : Listing → LimitsData → FactsData → Option (List ℕ) → List Note → List ℕ
listed_line listing limits f noted notes =
    if is_listed listing f.verdict notes then line_with limits f noted notes else []

-- A line of `check --explain`, from what is known of the records before, the session before the
-- record and the judgement of it. `m` is what the record's body asks.
abbrev pub explained_line : Listing → Known → Session → Record → Judged → IncomingData → List ℕ
explained_line listing known s r j m =
    listed_line listing j.session.server.config.limits (facts_of known s r j m)
    (noted_in r.head.side m (notification_params (reading r.body)))
    (listed_notes listing (habits_at (noted_in r.head.side m (notification_params (reading r.body)))
    known.documents) (notes_of s known.documents known.ranged r.body j.verdict))

-- ---- what to do next, after so many refusals

-- The line at the end that says what to do next, by the server's phase, by the number of refusals
-- and, where there is none, by whether a record has notes. A log whose server was never started
-- lacks its beginning.
abbrev pub first_advice : Phase → ℕ → Bool → List ℕ
first_advice phase refusals suspicious = if is_new phase then
    codes "The log lacks its beginning: no `initialize` started the server, so no message changes a text (LOGS.md).\n"
    else if refusals == 0 then (if suspicious then
    codes "Nothing was refused; see the notes. `lspsync replay --at N`: the texts after message N.\n"
    else codes "Nothing was refused. `lspsync compare SAVED LOG` says where a saved file differs, and by which messages.\n")
    else
    codes "Refused messages change nothing. `lspsync replay --at N`: the texts after message N.\n"

-- The line after it, by whether a record is refused that lenient limits wouldn't refuse.
abbrev pub lenient_advice : Bool → List ℕ
lenient_advice strict_refusal = if strict_refusal then
    codes "Many servers don't refuse what is S1 or S5 here. `--lenient` doesn't either.\n"
    else []

-- The line after that, if messages have notes that are on no line.
abbrev pub hidden_advice : Bool → Hidden → List ℕ
hidden_advice all hidden = if all || hidden.count == 0 then [] else
    codes "Messages with notes that are on no line: " ++ decimal hidden.count ++ codes ", from "
    ++ decimal hidden.first ++ codes " to " ++ decimal hidden.last ++ codes "; `--all` has them.\n"

-- The lines, by the session after all records and what is known of them.
abbrev pub advice : Listing → Session → Known → List ℕ
advice listing s known =
    first_advice s.server.phase s.refusals (has_tallies known.counts.noted)
    ++ lenient_advice known.strict_refusal
    ++ hidden_advice listing.all known.counts.hidden

-- The lines at the end: what came how often, and what to do next.
abbrev pub closing_lines : Listing → Known → Session → List ℕ
closing_lines listing known s = if s.records == 0 then codes "The log has no messages.\n"
    else counts_words s.messages known.counts ++ advice listing s known

-- ---- the engine

-- `check --explain` writes a line for each record, or for some, and at the end these lines.
abbrev pub explaining : Listing → LineView
explaining listing = record {
  line = λ known s r j. explained_line listing known s r j (incoming_of (reading r.body));
  end_lines = closing_lines listing;
}

-- The output of `check --explain`.
abbrev pub explained : Settings → Listing → List Record → RunOutput
explained settings listing =
    output_in (lines (explaining listing)) nothing_known (opened (log_config settings))

-- The engine of `check --explain`.
abbrev pub explain_engine : Settings → Listing → Engine
explain_engine settings listing = log_engine settings (explained settings listing)
