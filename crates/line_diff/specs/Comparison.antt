-- A file, and the document of a session that is compared with it.
use Rattle.std.specs.Prelude.{ℕ, ◌-◌, ◌+◌, Bool, false, not, ◌&&◌, min, nat_lt, if◌then◌else◌, List, [], ◌++◌, Option, Some, None, option_map, codes, decimal}
use Rattle.std.specs.Option.{option_or}
use Rattle.std.specs.Str.{bytes_eq}
use Rattle.line_diff.specs.Names.{is_exactly}
use Rattle.line_diff.specs.Report.{report_words}
use Rattle.line_diff.specs.Shown.{shown}
use Rattle.line_diff.specs.Tracked.{Tracked, changed_by, opened_by}
use Rattle.line_diff.specs.declared.owners.Splice.{Splice}

-- The document that is compared.
pub record Followed : Type 0 where
  pub uri : List ℕ
  pub origins : Tracked
  -- its text, once it was given
  pub text : List ℕ
  -- since it was opened, the first messages about it that were refused, in words, and how many were
  pub refused : List ℕ
  pub refusals : ℕ

-- A comparison, after some messages.
pub record ComparisonData : Type 0 where
  -- how the document's URI ends, and the file's text
  pub ending : List ℕ
  pub file : List ℕ
  -- the document, if one that ends so was open, and the URI of another one that may be meant
  pub document : Option Followed
  pub second : Option (List ℕ)

-- Before the first message.
abbrev pub new_comparison : List ℕ → List ℕ → ComparisonData
new_comparison ending file = record {
  ending = ending;
  file = file;
  document = None;
  second = None;
}

-- ---- after a message, which has given a text to a document: by splices, or as it opened it, with so
-- many bytes

-- The document that a message opens.
abbrev pub opened_as : ℕ → List ℕ → ℕ → Followed
opened_as number uri len =
    record { uri = uri; origins = opened_by number len; text = []; refused = []; refusals = 0 }

-- The document that was open before.
abbrev pub given : ℕ → ℕ → Option (List Splice) → Followed → Followed
given number len None d = opened_as number d.uri len
given number len (Some splices) d = record d { origins = changed_by number splices d.origins }

-- Another document than the one that was there before. That one stays, unless this one alone is
-- exactly what was asked for; the first of the others is kept where neither is.
abbrev pub taken_after : ℕ → List ℕ → ℕ → Followed → ComparisonData → ComparisonData
taken_after number uri len d c =
    if is_exactly d.uri c.ending then c
    else if is_exactly uri c.ending
    then record c { document = Some (opened_as number uri len); second = None }
    else record c { second = option_or c.second (Some uri) }

abbrev pub taken_by : ℕ → List ℕ → ℕ → Option (List Splice) → Option Followed → ComparisonData →
    ComparisonData
taken_by number uri len splices None c =
    record c { document = Some (opened_as number uri len) }
taken_by number uri len splices (Some d) c = if bytes_eq d.uri uri
    then record c { document = Some (given number len splices d) }
    else taken_after number uri len d c

abbrev pub taken : ℕ → List ℕ → ℕ → Option (List Splice) → ComparisonData → ComparisonData
taken number uri len splices c = taken_by number uri len splices c.document c

-- ---- after a message about a document that was refused with this code

-- The message, after another one or not.
abbrev pub refused_message : Bool → ℕ → List ℕ → List ℕ
refused_message is_later number code =
    (if is_later then codes ", " else codes " ") ++ decimal number ++ codes " (" ++ code ++ codes ")"

-- The first 5 are named.
abbrev pub refused_of : ℕ → List ℕ → Followed → Followed
refused_of number code d = record d {
  refused = (if nat_lt d.refusals 5 then d.refused ++ refused_message (nat_lt 0 d.refusals) number code
      else d.refused);
  refusals = min (d.refusals + 1) 18446744073709551615;
}

abbrev pub refused_in : ℕ → List ℕ → List ℕ → Option Followed → Option Followed
refused_in number uri code None = None
refused_in number uri code (Some d) =
    Some (if bytes_eq d.uri uri then refused_of number code d else d)

abbrev pub refused_by : ℕ → List ℕ → List ℕ → ComparisonData → ComparisonData
refused_by number uri code c = record c { document = refused_in number uri code c.document }

-- ---- at the end

-- The document with its last text.
abbrev pub given_text : List ℕ → Followed → Followed
given_text text d = record d { text = text }

abbrev pub ended_by : List ℕ → ComparisonData → ComparisonData
ended_by text c = record c { document = option_map (given_text text) c.document }

-- Is a URI the document's?
abbrev pub is_followed : List ℕ → Option Followed → Bool
is_followed uri None = false
is_followed uri (Some d) = bytes_eq d.uri uri

-- That two documents end so.
abbrev pub choice_words : List ℕ → List ℕ → List ℕ
choice_words first second =
    codes "more than one document ends so; `--uri` names one:\n" ++ shown first ++ codes "\n"
    ++ shown second ++ codes "\n"

-- Which messages were refused, and how many of so many aren't named.
abbrev pub refusals_words : List ℕ → ℕ → List ℕ
refusals_words refused refusals =
    codes "Refused, so without effect:" ++ refused
    ++ (if nat_lt 5 refusals then codes " and " ++ decimal (refusals - 5) ++ codes " more\n"
    else codes "\n")

-- Whether the document's text is the file's, and else how they differ, and what was refused.
abbrev pub followed_words : Followed → List ℕ → List ℕ
followed_words d file =
    shown d.uri ++ codes " " ++ report_words d.origins d.text file
    ++ (if not (bytes_eq d.text file) && nat_lt 0 d.refusals
    then refusals_words d.refused d.refusals else [])

-- Nothing is written of a document that was never open.
abbrev pub words_of : Option Followed → Option (List ℕ) → List ℕ → List ℕ
words_of None second file = []
words_of (Some d) (Some second) file = choice_words d.uri second
words_of (Some d) None file = followed_words d file

unfoldable pub comparison_words : ComparisonData → List ℕ
comparison_words c = words_of c.document c.second c.file

-- Is the text of the one document the file's?
abbrev pub equality : Option Followed → Option (List ℕ) → List ℕ → Option Bool
equality None second file = None
equality (Some d) (Some second) file = Some false
equality (Some d) None file = Some (bytes_eq d.text file)
