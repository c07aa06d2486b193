-- `replay` of a part of a log: the documents after a record, or the last text of one document.
use Rattle.std.specs.Prelude.{◌==◌, ◌&&◌, ◌||◌, if◌then◌else◌}
use Rattle.log_rewrite.specs.Prelude.{ℕ, Bool, false, not, List, [], Option, Some, None, is_some, option_map, Ok, bytes_eq, string_bytes, ends_so, is_exactly, DocumentItem, entry_at, Record, Settings, Outcome}
use Rattle.log_rewrite.specs.declared.commands.part.Part.{Part}
use Rattle.log_session.specs.RunOutput.{RunOutput}
use Rattle.log_session.specs.View.{RecordOutput, View, writes, ends, output_in, unless_bad}
use Rattle.log_session.specs.Replay.{report_from}
use Rattle.log_session.specs.Settings.{log_config}
use Rattle.log_session.specs.Session.{opened_in, Session, Judged, opened, session_outcome, lacking}
use Rattle.log_session.specs.Run.{Engine, log_engine}
use Rattle.log_session.specs.declared.outcome.Missing.TheVariants as missing

-- The part of a log that is replayed, and what is printed of it.
pub record PartData : Type 0 where
  -- the number of its last record, from 1; without one it is the whole log
  pub at : Option ℕ
  -- the URI of the document whose text is printed, or how it ends; without one it is all that are
  -- open
  pub uri : Option (List ℕ)

-- A part, with its URI as bytes.
abbrev pub part_data : Part → PartData
part_data part = record { at = part.at; uri = option_map string_bytes part.uri }

-- ---- the last text of a document

-- The text of a document that is open, and else the text that it had before.
abbrev pub last_text : Option (List ℕ) → Option DocumentItem → Option (List ℕ)
last_text before None = before
last_text before (Some entry) = Some entry.text

-- The same of the document with this URI. Without a URI there is no such text.
abbrev pub last_text_in : Option (List ℕ) → Option (List ℕ) → List DocumentItem → Option (List ℕ)
last_text_in None before table = None
last_text_in (Some uri) before table = last_text before (entry_at table uri)

-- ---- which document that is

-- The document that was found, if one was.
pub record Found : Type 0 where
  pub uri : Option (List ℕ)
  -- Does another one's URI end as it should, too?
  pub several : Bool
  -- its last text
  pub text : Option (List ℕ)

-- Before the first record.
abbrev pub none_found : Found
none_found = record { uri = None; several = false; text = None }

-- A document that has just been found.
abbrev pub only : List ℕ → Found
only uri = record { uri = Some uri; several = false; text = None }

-- Is it exactly what was asked for?
abbrev pub is_named : List ℕ → Option (List ℕ) → Bool
is_named asked None = false
is_named asked (Some uri) = is_exactly uri asked

-- One was opened whose URI ends so. The first one stays.
abbrev pub with_ending : List ℕ → Option (List ℕ) → Found → Found
with_ending uri None found = only uri
with_ending uri (Some other) found =
    record found { several = found.several || not (bytes_eq other uri) }

-- What is found after a record that may open one, if one was asked for. One that is exactly that
-- counts alone.
abbrev pub found_if : Option (List ℕ) → Option (List ℕ) → Found → Found
found_if None opened found = found
found_if (Some asked) None found = found
found_if (Some asked) (Some uri) found = if is_exactly uri asked then only uri
    else if ends_so uri asked && not (is_named asked found.uri)
    then with_ending uri found.uri found else found

-- With its text among these open documents.
abbrev pub refreshed : List DocumentItem → Found → Found
refreshed table found = record found { text = last_text_in found.uri found.text table }

-- The text, if there is one document alone.
abbrev pub text_found : Found → Option (List ℕ)
text_found found = if found.several then None else found.text

-- ---- what is printed at the end of the part

-- One document's last text, as it is; or a line for each open document.
abbrev pub part_bytes : Option (List ℕ) → Option (List ℕ) → List DocumentItem → List ℕ
part_bytes None last table = report_from 0 table
part_bytes (Some uri) None table = []
part_bytes (Some uri) (Some text) table = text

-- The outcome is that of `replay`, unless the document was never open, or several fit.
abbrev pub part_outcome : Option (List ℕ) → Option (List ℕ) → Outcome → Outcome
part_outcome None last outcome = outcome
part_outcome (Some uri) None outcome = lacking missing.Document outcome
part_outcome (Some uri) (Some text) outcome = outcome

-- Is this the number of the part's last record?
abbrev pub is_last : Option ℕ → ℕ → Bool
is_last None number = false
is_last (Some at) number = at == number

-- After the part's last record nothing more is read. Any other record prints nothing.
abbrev pub part_step : PartData → Found → Session → RecordOutput
part_step part found s =
    if is_last part.at s.records then
    ends (part_bytes part.uri (text_found found) s.server.table)
    (Ok (part_outcome part.uri (text_found found) (session_outcome s))) else writes []

-- The outcome at the end of the input. If the part has a last record, that isn't in the log.
abbrev pub end_outcome : PartData → Found → Session → Outcome
end_outcome part found s =
    if is_some part.at then lacking missing.Record (session_outcome s)
    else part_outcome part.uri (text_found found) (session_outcome s)

-- ---- all records

-- The document that is found after a record.
abbrev pub found_after : PartData → Found → Record → Judged → Found
found_after part found r j =
    refreshed j.session.server.table (found_if part.uri (opened_in r j) found)

-- A record prints nothing, unless it is the part's last one. The state is the document.
abbrev pub replaying_part : PartData → View Found
replaying_part part = record {
  record_output = λ found s r j.
      unless_bad r j.verdict (part_step part (found_after part found r j) j.session);
  next = λ found s r j. found_after part found r j;
  end_output = λ found s line_due.
      if is_some part.at then [] else part_bytes part.uri (text_found found) s.server.table;
  outcome = end_outcome part;
}

-- The output of `replay` for a part of a log.
abbrev pub part_report : Settings → PartData → List Record → RunOutput
part_report settings part = output_in (replaying_part part) none_found (opened (log_config settings))

-- The engine that replays a part of a log. Its report is written at once.
abbrev pub part_engine : Settings → Part → Engine
part_engine settings part = log_engine settings (part_report settings (part_data part))
