-- Which message opened each document of a log first, for a user who asked for one that isn't there.
use Rattle.std.specs.Prelude.{◌-◌, ◌==◌, ◌++◌, if◌then◌else◌}
use Rattle.log_report.specs.Prelude.{ℕ, length, take, List, [], Option, Some, None, codes, decimal, flat_map, ends_so, Record, Settings}
use Rattle.log_session.specs.RunOutput.{RunOutput}
use Rattle.log_session.specs.View.{View, output_in, unless_bad, writes}
use Rattle.log_session.specs.Settings.{log_config}
use Rattle.log_session.specs.Run.{Engine, log_engine}
use Rattle.log_session.specs.Session.{opened, session_outcome, opened_in}
use Rattle.log_report.specs.Tallies.{Tally, has_tallies, tallied}
use Rattle.log_report.specs.Trace.{json_string}
use Rattle.lsp_server.specs.declared.phase.Phase.{Phase}
use Rattle.lsp_server.specs.declared.phase.Phase.TheVariants.{New}

-- ---- all that were opened

-- The documents, each with the number of the message that opened it first.
pub record OpeningsData : Type 0 where
  -- how the URI of the document ends that was asked for
  pub ending : List ℕ
  -- those whose URIs end so, and the others
  pub fitting : List Tally
  pub others : List Tally

-- Before the first record.
abbrev pub no_openings : List ℕ → OpeningsData
no_openings ending = record { ending = ending; fitting = []; others = [] }

-- After the record of this number, if it opened a document.
abbrev pub openings_after : Option (List ℕ) → ℕ → OpeningsData → OpeningsData
openings_after None number o = o
openings_after (Some uri) number o = if ends_so uri o.ending
    then record o { fitting = tallied uri number o.fitting }
    else record o { others = tallied uri number o.others }

-- ---- in words

abbrev pub opening_words : Tally → List ℕ
opening_words t =
    codes "  message " ++ decimal t.first ++ codes " opened " ++ json_string t.words ++ codes "\n"

-- So many are listed.
abbrev pub most_openings : ℕ
most_openings = 20

-- How many are not.
abbrev pub more_words : ℕ → List ℕ
more_words more =
    if more == 0 then [] else codes "  and " ++ decimal more ++ codes " more\n"

abbrev pub listed_words : List Tally → List ℕ
listed_words ts = flat_map opening_words (take most_openings ts)
    ++ more_words (length ts - most_openings)

-- Why there is none to list: the log lacks its beginning, if the server was never started.
abbrev pub none_words : Phase → List ℕ
none_words New = codes "  the log lacks its beginning: no `initialize` started the server (LOGS.md)\n"
none_words phase = codes "  no message opened a document\n"

-- Those that end so, else all, by the server's phase at the end.
abbrev pub openings_words : Phase → OpeningsData → List ℕ
openings_words phase o = if has_tallies o.fitting then listed_words o.fitting
    else if has_tallies o.others then listed_words o.others
    else none_words phase

-- ---- the engine

-- It writes nothing of a record, and the list at the end.
abbrev pub listing_openings : View OpeningsData
listing_openings = record {
  record_output = λ o s r j. unless_bad r j.verdict (writes []);
  next = λ o s r j. openings_after (opened_in r j) j.session.records o;
  end_output = λ o s line_due. openings_words s.server.phase o;
  outcome = λ o s. session_outcome s;
}

-- The list for a document whose URI ends so.
abbrev pub openings_listed : Settings → List ℕ → List Record → RunOutput
openings_listed settings ending =
    output_in listing_openings (no_openings ending) (opened (log_config settings))

abbrev pub openings_engine : Settings → List ℕ → Engine
openings_engine settings ending = log_engine settings (openings_listed settings ending)
