-- The facts of a record, what is known after it, and its lines by them.
use Rattle.std.specs.Prelude.{◌≡◌, ◌||◌, ◌++◌, if◌then◌else◌}
use Rattle.log_report.specs.Prelude.{ℕ, Bool, List, [], Option, Some, None, is_some, option_map, string_bytes, Record, Reading, reading, change_view, incoming_of, ServerData, Taken, Appended, Listing, Note, lengths_of, notification_params}
use Rattle.lsp_log.specs.declared.record.Sender.TheVariants.{Client}
use Rattle.log_report.specs.declared.facts.About.{About}
use Rattle.log_report.specs.declared.facts.Facts.{Facts}
use Rattle.log_session.specs.declared.session.canonical.Appended.TheVariants.{Body}
use Rattle.log_report.specs.Counts.{counts_after}
use Rattle.log_report.specs.Habits.{Habits, documents_after, grown_in, habits_at, hides, notes_of, odd_in, rare_notes, version_rejected}
use Rattle.log_report.specs.Lacks.{lack_in}
use Rattle.log_report.specs.Lines.{FactsData, Known, facts_of, hint_in, hint_with, is_strict_in, last_in, lead_of, named_in, noted_in, noted_uri, unread_after, uri_of}
use Rattle.log_report.specs.Mentions.{is_mention, mentioned}
use Rattle.log_report.specs.Notes.{notes_if, notes_on}
use Rattle.log_session.specs.Session.{Session, Verdict, has_changed, judge}
use Rattle.log_session.specs.inside.Bodies.{BodyData, body_read, on_client}
use Rattle.log_session.specs.inside.Taken.{ranged_with, received_of}
use Rattle.log_session.specs.inside.Verdicts.{verdict_view}

-- ---- before the record is taken, by what was read of its body

pub record IsAbout (s : ServerData) (documents : List Habits) (ranged : Bool) (body : Reading)
    (read : BodyData) (about : About) :
    Type 0 where
  pub uri : option_map string_bytes about.uri ≡ on_client None (uri_of Client) read
  pub named : option_map string_bytes about.named
      ≡ on_client None (λ m. named_in Client m (notification_params body)) read
  pub notes : about.notes.items
      ≡ on_client [] (λ m. notes_on s ranged (lengths_of body) (notification_params body) m
      ++ odd_in s documents m) read
  pub lack : about.lack ≡ on_client None (λ m. lack_in Client m (notification_params body)) read
  pub grown : about.grown ≡ on_client None (grown_in s documents Client) read

-- The document that its line names.
abbrev pub noted_of : About → Option (List ℕ)
noted_of about =
    noted_uri (option_map string_bytes about.uri) (option_map string_bytes about.named)

-- ---- after it

-- The facts of the code as their value.
abbrev pub facts_view : Facts → FactsData
facts_view facts = record {
  number = facts.number;
  verdict = verdict_view facts.verdict;
  uri = option_map string_bytes facts.uri;
  change = option_map change_view facts.change;
  hint = facts.hint;
  last = facts.last;
  notes = facts.notes.items;
}

-- By what the record is about, and what became of it.
pub record IsLearned (known : Known) (n : ℕ) (about : About) (taken : Taken) (facts : Facts) :
    Type 0 where
  pub number : facts.number ≡ n
  pub verdict : facts.verdict ≡ taken.verdict
  pub uri : facts.uri ≡ about.uri
  pub named : facts.named ≡ about.named
  pub change : facts.change ≡ taken.change
  pub hint : facts.hint ≡ hint_with about.lack
      (hint_in known (option_map string_bytes about.uri) (option_map change_view taken.change)
      (verdict_view taken.verdict))
  pub last : facts.last
      ≡ last_in known (option_map string_bytes about.uri) (verdict_view taken.verdict)
  pub notes : facts.notes.items ≡ notes_if about.notes.items (verdict_view taken.verdict)
  pub rare : facts.rare.items ≡ rare_notes (habits_at (noted_of about) known.documents)
      (notes_if about.notes.items (verdict_view taken.verdict))

-- What is known of mentions after a record with this number.
abbrev pub kept_by : Known → ℕ → Option (List ℕ) → Bool → Verdict → Known
kept_by known number uri is_change verdict = record known {
  mentions = mentioned (is_mention is_change verdict) uri
      (lead_of (last_in known uri verdict) number verdict) known.mentions;
  made = mentioned (has_changed verdict) uri number known.made;
  unread = unread_after known.unread number verdict;
}

-- What is known after a record with this number.
abbrev pub known_by : Known → ℕ → About → Taken → Known
known_by known number about taken = record {
  mentions = mentioned (is_mention (is_some taken.change) (verdict_view taken.verdict))
      (option_map string_bytes about.uri)
      (lead_of (last_in known (option_map string_bytes about.uri) (verdict_view taken.verdict))
      number (verdict_view taken.verdict)) known.mentions;
  made = mentioned (has_changed (verdict_view taken.verdict))
      (option_map string_bytes about.uri) number known.made;
  documents = documents_after (has_changed (verdict_view taken.verdict)) about.grown
      (version_rejected (option_map change_view taken.change) (verdict_view taken.verdict))
      (notes_if about.notes.items (verdict_view taken.verdict)) (noted_of about) known.documents;
  ranged = ranged_with known.ranged taken.ranged;
  unread = unread_after known.unread number (verdict_view taken.verdict);
  strict_refusal = known.strict_refusal
      || is_strict_in known (option_map string_bytes about.uri)
      (option_map change_view taken.change) (verdict_view taken.verdict);
  counts = counts_after known.counts number (verdict_view taken.verdict)
      (notes_if about.notes.items (verdict_view taken.verdict))
      (hides (habits_at (noted_of about) known.documents)
      (notes_if about.notes.items (verdict_view taken.verdict)));
}

-- Of a record before which the session was `s`. The change is one that a running server received.
pub record AreFacts (known : Known) (s : Session) (r : Record) (facts : Facts) : Type 0 where
  pub are : facts_view facts
      ≡ record (facts_of known s r (judge s r) (incoming_of (reading r.body))) {
        change = received_of s (body_read r.head.version r.head.side r.body);
      }
  pub named : option_map string_bytes facts.named
      ≡ named_in r.head.side (incoming_of (reading r.body)) (notification_params (reading r.body))
  pub rare : facts.rare.items ≡ rare_notes (habits_at (noted_in r.head.side
      (incoming_of (reading r.body)) (notification_params (reading r.body))) known.documents)
      (notes_of s known.documents known.ranged r.body (judge s r).verdict)

-- ---- the lines, by the facts

-- The notes on the line of `check --explain`.
abbrev pub listed_by : Listing → Facts → List Note
listed_by listing facts = if listing.all then facts.notes.items else facts.rare.items

-- The document that the line names.
abbrev pub noted_by : Facts → Option (List ℕ)
noted_by facts =
    noted_uri (option_map string_bytes facts.uri) (option_map string_bytes facts.named)

-- The canonical message, if its body was appended.
abbrev pub canonical_json : Option Appended → List ℕ → Option (List ℕ)
canonical_json (Some Body) bytes = Some bytes
canonical_json appended bytes = None
