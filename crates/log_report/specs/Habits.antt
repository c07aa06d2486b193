-- What is known of a document by its records: which notes it often has, how its versions grow, and which
-- it left out; and the notes of a record by that.
use Rattle.std.specs.Prelude.{◌==◌, ◌&&◌, ◌||◌, ◌/◌, ◌++◌, if◌then◌else◌, ◌∷◌}
use Rattle.log_report.specs.Prelude.{ℕ, ℤ, Bool, true, false, not, nat_le, int_lt, length, take, flat_map, bytes_eq, List, [], Option, Some, None, ChangeData, DocumentItem, entry_at, IncomingData, did_change, incoming_of, lengths_of, notification_params, reading, Sender, ServerData, refused, Note}
use Rattle.std.specs.List.{list_any}
use Rattle.lsp_log.specs.declared.record.Sender.TheVariants.{Client}
use Rattle.log_session.specs.Session.{Session, Verdict, answered, count_if}
use Rattle.log_report.specs.Counts.{tallied_notes}
use Rattle.log_report.specs.Growths.{grown_by, no_pace, odd_notes, pace_after}
use Rattle.log_report.specs.Notes.{note_kind, notes_if, notes_on}
use Rattle.log_report.specs.Tallies.{Tally, count_of}
use Rattle.log_report.specs.declared.growths.Grown.{Grown}
use Rattle.log_report.specs.declared.growths.Pace.{Pace}
use Rattle.log_report.specs.declared.notes.Note.TheVariants.{OtherSaved, PartSaved, SameText}

-- ---- a document

-- What is known of it.
pub record Habits : Type 0 where
  pub uri : List ℕ
  -- how many records changed it
  pub changes : ℕ
  -- its notes, by their kinds
  pub noted : List Tally
  -- how its versions grew
  pub pace : Pace
  -- the version of a change that was refused, after those that weren't
  pub rejected : Option ℤ
  -- the changes that left out versions, the newest first
  pub gaps : List Grown

-- Before its first record.
abbrev pub no_habits : List ℕ → Habits
no_habits uri = record {
  uri = uri;
  changes = 0;
  noted = [];
  pace = no_pace;
  rejected = None;
  gaps = [];
}

-- Was a version left out? If 9 came after 6, then 7 and 8 were.
abbrev pub is_left_out : ℤ → List Grown → Bool
is_left_out version gaps =
    list_any (λ gap. int_lt gap.before version && int_lt version gap.sent) gaps

-- ---- notes that it often has

-- A kind of note is a habit, if it came so often already, and with about one of so many records that
-- changed the document. So a kind that comes often is said three times, and one that is rare each time.
abbrev pub habit_count : ℕ
habit_count = 3

abbrev pub habit_rate : ℕ
habit_rate = 100

-- Is a kind of note a habit that came so often, where so many records changed the document?
abbrev pub is_frequent : ℕ → ℕ → Bool
is_frequent changes count = nat_le habit_count count && nat_le (changes / habit_rate) count

-- Is the kind of a note a habit?
abbrev pub is_habit : Habits → Note → Bool
is_habit h note = is_frequent h.changes (count_of (note_kind note) h.noted)

-- Is a note that a change's text is what it replaces? Many editors send such changes, and a copy is
-- as right as before.
abbrev pub is_same_text : Note → Bool
is_same_text (SameText index) = true
is_same_text note = false

-- Is a note of a saved text? It may alone show that a copy is wrong.
abbrev pub is_of_save : Note → Bool
is_of_save (OtherSaved line) = true
is_of_save PartSaved = true
is_of_save note = false

-- Is a note on no line? A note of a saved text is on one each time.
abbrev pub is_hidden : Habits → Note → Bool
is_hidden h note = is_same_text note || (not (is_of_save note) && is_habit h note)

-- The note, unless it is on no line.
abbrev pub rare_note : Habits → Note → List Note
rare_note h note = if is_hidden h note then [] else note ∷ []

-- The notes that are on a line.
abbrev pub rare_notes : Habits → List Note → List Note
rare_notes h notes = flat_map (rare_note h) notes

-- Is one of some notes on no line?
abbrev pub hides : Habits → List Note → Bool
hides h notes = list_any (is_hidden h) notes

-- ---- all documents

-- What is known of one of those that came last.
abbrev pub habits_of : List ℕ → List Habits → Habits
habits_of uri [] = no_habits uri
habits_of uri (h ∷ hs) = if bytes_eq h.uri uri then h else habits_of uri hs

abbrev pub habits_at : Option (List ℕ) → List Habits → Habits
habits_at None hs = no_habits []
habits_at (Some uri) hs = habits_of uri hs

-- All but one.
abbrev pub all_but : List ℕ → List Habits → List Habits
all_but uri [] = []
all_but uri (h ∷ hs) = if bytes_eq h.uri uri then hs else h ∷ all_but uri hs

-- ---- a change, by the document before it

-- The version that was sent before: the current one, or a greater one that was refused.
abbrev pub sent_after : Option ℤ → ℤ → ℤ
sent_after None current = current
sent_after (Some rejected) current = if int_lt current rejected then rejected else current

-- Its version and the one that was sent before, if that is lower.
abbrev pub grown_on : Habits → Option DocumentItem → ChangeData → Option Grown
grown_on h None p = None
grown_on h (Some entry) p =
    grown_by p.version (sent_after h.rejected entry.version) (length p.changes)

-- Those of a record of one side.
abbrev pub grown_in : ServerData → List Habits → Sender → IncomingData → Option Grown
grown_in s hs Client (did_change (Some p)) =
    grown_on (habits_of p.uri hs) (entry_at s.table p.uri) p
grown_in s hs side m = None

-- ---- the notes of a record

-- The note of a version that breaks the habit of its document.
abbrev pub odd_with : List Habits → IncomingData → Option Grown → List Note
odd_with hs (did_change (Some p)) grown = odd_notes (habits_of p.uri hs).pace grown
odd_with hs m grown = []

abbrev pub odd_in : ServerData → List Habits → IncomingData → List Note
odd_in s hs m = odd_with hs m (grown_in s hs Client m)

-- The notes of a record, by the session before it, what is known of documents, its body and its
-- judgement. `ranged`: did the server ask for ranges?
abbrev pub notes_of : Session → List Habits → Bool → List ℕ → Verdict → List Note
notes_of s hs ranged body verdict =
    notes_if (notes_on s.server ranged (lengths_of (reading body))
    (notification_params (reading body)) (incoming_of (reading body))
    ++ odd_in s.server hs (incoming_of (reading body))) verdict

-- ---- the version of a change that the documents refuse

abbrev pub version_rejected : Option ChangeData → Verdict → Option ℤ
version_rejected (Some p) (answered (refused refusal)) = Some p.version
version_rejected change verdict = None

-- ---- after a record

-- So many are kept of a document.
abbrev pub most_gaps : ℕ
most_gaps = 16

abbrev pub gaps_after : Grown → List Grown → List Grown
gaps_after grown gaps = if grown.by == 1 then gaps else take most_gaps (grown ∷ gaps)

-- After a record that changed the document. Where its version doesn't grow, as in an opening and a
-- closing, versions begin anew.
abbrev pub after_accepted : Option Grown → Habits → Habits
after_accepted None h = record h { rejected = None; gaps = [] }
after_accepted (Some grown) h =
    record h { pace = pace_after h.pace grown; rejected = None; gaps = gaps_after grown h.gaps }

-- After another record, by the version that was refused.
abbrev pub after_refused : Option ℤ → Habits → Habits
after_refused None h = h
after_refused (Some version) h = record h { rejected = Some version }

abbrev pub versions_after : Bool → Option Grown → Option ℤ → Habits → Habits
versions_after has_changed grown rejected h =
    if has_changed then after_accepted grown h else after_refused rejected h

-- After a record with these notes. (No tally's number matters.)
abbrev pub habits_after : Bool → Option Grown → Option ℤ → List Note → Habits → Habits
habits_after has_changed grown rejected notes h = record (versions_after has_changed grown rejected h) {
  changes = count_if has_changed h.changes;
  noted = tallied_notes notes 0 h.noted;
}

-- So many documents are kept, those that came last.
abbrev pub most_documents : ℕ
most_documents = 64

abbrev pub documents_after : Bool → Option Grown → Option ℤ → List Note → Option (List ℕ)
    → List Habits → List Habits
documents_after has_changed grown rejected notes None hs = hs
documents_after has_changed grown rejected notes (Some uri) hs = take most_documents
    (habits_after has_changed grown rejected notes (habits_of uri hs) ∷ all_but uri hs)
