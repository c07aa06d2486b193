-- The commands that write a line for each record by what is known of the records before it: `trace`
-- and `check --explain`.
use Rattle.std.specs.Prelude.{◌&&◌, ◌||◌, if◌then◌else◌, ◌∷◌}
use Rattle.log_report.specs.Prelude.{ℕ, Bool, true, false, not, List, [], Option, Some, None, is_none, is_some, reading, ErrorCode, ParseError, ChangeData, AlreadyOpen, NotOpen, StaleVersion, refused, reply, IncomingData, did_open, did_change, did_close, other_notification, is_save, notification_params, Data, incoming_of, Store, Head, Sender, Record, Note}
use Rattle.lsp_log.specs.declared.record.Sender.TheVariants.{Client}
use Rattle.log_session.specs.View.{View, unless_bad, writes}
use Rattle.log_session.specs.Canonical.{change_in}
use Rattle.log_report.specs.Counts.{Counts, counts_after, nothing_counted}
use Rattle.log_report.specs.Habits.{Habits, documents_after, grown_in, habits_at, habits_of, hides, is_left_out, notes_of, version_rejected}
use Rattle.log_report.specs.Lacks.{lack_in}
use Rattle.log_report.specs.Mentions.{Mention, is_mention, last_for, last_record, mentioned}
use Rattle.log_report.specs.Notes.{saved_uri}
use Rattle.log_session.specs.Session.{ranged_after, Session, Judged, Verdict, answered, has_changed, session_outcome}
use Rattle.log_report.specs.Reasons.{is_empty, is_idle}
use Rattle.log_report.specs.declared.facts.Hint.{Hint}
use Rattle.log_report.specs.declared.facts.Hint.TheVariants.{Lacks, Renamed, Swapped}
use Rattle.log_report.specs.declared.lacks.Lack.{Lack}
use Rattle.lsp_server.specs.declared.answer.Refusal.{Refusal}
use Rattle.lsp_server.specs.declared.answer.Refusal.TheVariants.{InvalidParams as BadParams}

-- The document that a record of one side is about: the URI in valid parameters of an editor's
-- message.
abbrev pub uri_of : Sender → IncomingData → Option (List ℕ)
uri_of Client (did_open (Some p)) = Some p.uri
uri_of Client (did_change (Some p)) = Some p.uri
uri_of Client (did_close (Some p)) = Some p.uri
uri_of side m = None

-- The document that the params of an editor's message name, where it isn't about one: whose text was
-- saved, or where they can't be read.
abbrev pub named_in : Sender → IncomingData → Option Data → Option (List ℕ)
named_in Client (did_open None) params = saved_uri params
named_in Client (did_change None) params = saved_uri params
named_in Client (did_close None) params = saved_uri params
named_in Client (other_notification method) params = if is_save method then saved_uri params else None
named_in side m params = None

-- The document that a line names: the one that its record is about, or that its params name.
abbrev pub noted_uri : Option (List ℕ) → Option (List ℕ) → Option (List ℕ)
noted_uri None named = named
noted_uri (Some uri) named = Some uri

abbrev pub noted_in : Sender → IncomingData → Option Data → Option (List ℕ)
noted_in side m params = noted_uri (uri_of side m) (named_in side m params)

-- ---- what is known of the records before one

-- What is known of them.
pub record Known : Type 0 where
  -- the documents that were opened, closed or refused last
  pub mentions : List Mention
  -- the documents that were opened, changed or closed last
  pub made : List Mention
  -- what is known of the documents that came last
  pub documents : List Habits
  -- did the server ask for ranges?
  pub ranged : Bool
  -- the last one that couldn't be read, and may have opened a document
  pub unread : Option ℕ
  -- is one of them refused with S1 or S5, which lenient limits never do, meant to change a text, and
  -- not swapped with another?
  pub strict_refusal : Bool
  -- how often what came
  pub counts : Counts

-- Before the first record.
abbrev pub nothing_known : Known
nothing_known = record {
  mentions = [];
  made = [];
  documents = [];
  ranged = false;
  unread = None;
  strict_refusal = false;
  counts = nothing_counted;
}

-- Are there notes?
abbrev pub has_notes : List Note → Bool
has_notes [] = false
has_notes (note ∷ notes) = true

-- Is a record refused with S1, with S4, with S5?
abbrev pub is_open_already : Verdict → Bool
is_open_already (answered (refused (Store AlreadyOpen))) = true
is_open_already verdict = false

abbrev pub is_not_open : Verdict → Bool
is_not_open (answered (refused (Store NotOpen))) = true
is_not_open verdict = false

abbrev pub is_stale_refusal : Verdict → Bool
is_stale_refusal (answered (refused (Store (StaleVersion current)))) = true
is_stale_refusal verdict = false

-- Is a record refused with S1, or with S5 and changes? `change` is what it asks for.
abbrev pub is_strict_refusal : Option ChangeData → Verdict → Bool
is_strict_refusal change verdict = is_open_already verdict || is_stale_refusal verdict && not (is_idle change)

-- Couldn't a record be read that may have opened a document? Its body is no JSON, or its params are
-- none of its method.
abbrev pub is_parse_error : Option ErrorCode → Bool
is_parse_error (Some ParseError) = true
is_parse_error code = false

abbrev pub is_bad_params : Refusal → Bool
is_bad_params BadParams = true
is_bad_params refusal = false

abbrev pub is_unread : Verdict → Bool
is_unread (answered (reply r)) = is_parse_error r.code
is_unread (answered (refused refusal)) = is_bad_params refusal
is_unread verdict = false

-- The last of them, after a record of this number.
abbrev pub unread_after : Option ℕ → ℕ → Verdict → Option ℕ
unread_after unread number verdict = if is_unread verdict then Some number else unread

-- ---- what is known of a document that a record is refused for

-- That record, or for a document that isn't open the last one that couldn't be read.
abbrev pub or_unread : Option ℕ → Option ℕ → Verdict → Option ℕ
or_unread None unread verdict = if is_not_open verdict then unread else None
or_unread (Some last) unread verdict = Some last

-- The record to look at: of an old version the one that made the current version, of another
-- refusal the last one that opened, closed or refused the document.
abbrev pub last_in : Known → Option (List ℕ) → Verdict → Option ℕ
last_in known uri verdict = if is_stale_refusal verdict then last_for known.made uri verdict
    else or_unread (last_for known.mentions uri verdict) known.unread verdict

-- None of this name was opened, and another was.
abbrev pub is_new_name : List Mention → Option (List ℕ) → Bool
is_new_name made None = false
is_new_name made (Some uri) = is_none (last_record uri made) && not (is_empty made)

-- Its editor may have renamed a document: it isn't open, none of its name was, and each record could
-- be read.
abbrev pub is_renamed : Known → Option (List ℕ) → Verdict → Bool
is_renamed known uri verdict =
    is_not_open verdict && (is_new_name known.made uri && is_none known.unread)

-- Is a record refused for its version, which was left out before? Then messages were swapped.
abbrev pub was_left_out : List Habits → Option (List ℕ) → Option ChangeData → Bool
was_left_out documents (Some uri) (Some p) = is_left_out p.version (habits_of uri documents).gaps
was_left_out documents uri change = false

abbrev pub is_swapped : Known → Option (List ℕ) → Option ChangeData → Verdict → Bool
is_swapped known uri change verdict =
    is_stale_refusal verdict && was_left_out known.documents uri change

-- Is a record refused with S1, or with S5 and changes, and wasn't swapped with another?
abbrev pub is_strict_in : Known → Option (List ℕ) → Option ChangeData → Verdict → Bool
is_strict_in known uri change verdict =
    is_strict_refusal change verdict && not (is_swapped known uri change verdict)

-- What comes after the reason of a refusal by the documents.
abbrev pub hint_in : Known → Option (List ℕ) → Option ChangeData → Verdict → Option Hint
hint_in known uri change verdict = if is_renamed known uri verdict then Some Renamed
    else if is_swapped known uri change verdict then Some Swapped else None

-- What a record lacks, and else another hint.
abbrev pub hint_with : Option Lack → Option Hint → Option Hint
hint_with None hint = hint
hint_with (Some lack) hint = Some (Lacks lack)

-- What comes after the reason of a record. `m` is what the record's body asks.
abbrev pub hint_of : Known → Record → Judged → IncomingData → Option Hint
hint_of known r j m =
    hint_with (lack_in r.head.side m (notification_params (reading r.body)))
    (hint_in known (uri_of r.head.side m) (change_in m) j.verdict)

-- The number that a record is known by, which has to look at another one: where its document isn't
-- open, the number of that one, so that many such records lead to one.
abbrev pub lead_of : Option ℕ → ℕ → Verdict → ℕ
lead_of None number verdict = number
lead_of (Some last) number verdict = if is_not_open verdict then last else number

-- What is known after a record with this head and body, by the session before it.
abbrev pub known_after : Known → Session → Head → List ℕ → Judged → Known
known_after known s head body j = record {
  mentions = mentioned (is_mention (is_some (change_in (incoming_of (reading body)))) j.verdict)
      (uri_of head.side (incoming_of (reading body)))
      (lead_of (last_in known (uri_of head.side (incoming_of (reading body))) j.verdict)
      j.session.records j.verdict) known.mentions;
  made = mentioned (has_changed j.verdict) (uri_of head.side (incoming_of (reading body)))
      j.session.records known.made;
  documents = documents_after (has_changed j.verdict)
      (grown_in s.server known.documents head.side (incoming_of (reading body)))
      (version_rejected (change_in (incoming_of (reading body))) j.verdict)
      (notes_of s known.documents known.ranged body j.verdict)
      (noted_in head.side (incoming_of (reading body)) (notification_params (reading body)))
      known.documents;
  ranged = ranged_after known.ranged s head.side body;
  unread = unread_after known.unread j.session.records j.verdict;
  strict_refusal = known.strict_refusal
      || is_strict_in known (uri_of head.side (incoming_of (reading body)))
      (change_in (incoming_of (reading body))) j.verdict;
  counts = counts_after known.counts j.session.records j.verdict
      (notes_of s known.documents known.ranged body j.verdict)
      (hides (habits_at (noted_in head.side (incoming_of (reading body))
      (notification_params (reading body))) known.documents)
      (notes_of s known.documents known.ranged body j.verdict));
}

-- What a line says of a record.
pub record FactsData : Type 0 where
  pub number : ℕ
  pub verdict : Verdict
  -- the document that it is about
  pub uri : Option (List ℕ)
  -- the change that it asks for
  pub change : Option ChangeData
  -- what comes after the reason, if it is refused
  pub hint : Option Hint
  -- the record to look at
  pub last : Option ℕ
  pub notes : List Note

-- By what is known of the records before, the session before the record and the judgement of it. `m`
-- is what the record's body asks.
abbrev pub facts_of : Known → Session → Record → Judged → IncomingData → FactsData
facts_of known s r j m = record {
  number = j.session.records;
  verdict = j.verdict;
  uri = uri_of r.head.side m;
  change = change_in m;
  hint = hint_of known r j m;
  last = last_in known (uri_of r.head.side m) j.verdict;
  notes = notes_of s known.documents known.ranged r.body j.verdict;
}

-- ---- the output

-- What such a command writes: the line of a record, from the session before it and the judgement of
-- it, and the lines at the end.
pub record LineView : Type 0 where
  pub line : Known → Session → Record → Judged → List ℕ
  pub end_lines : Known → Session → List ℕ

-- Such a command. Its state is what is known of the records before.
abbrev pub lines : LineView → View Known
lines view = record {
  record_output = λ known s r j. unless_bad r j.verdict (writes (view.line known s r j));
  next = λ known s r j. known_after known s r.head r.body j;
  end_output = λ known s line_due. view.end_lines known s;
  outcome = λ known s. session_outcome s;
}
