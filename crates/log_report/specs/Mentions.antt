-- Which record opened, closed or refused a document last.
use Rattle.std.specs.Prelude.{if◌then◌else◌, ◌∷◌}
use Rattle.log_report.specs.Prelude.{ℕ, Bool, true, false, not, take, List, [], Option, Some, None, option_and_then, bytes_eq, changed, refused}
use Rattle.log_session.specs.Session.{Verdict, answered}

-- A document, and the number of the record that opened, closed or refused it last.
pub record Mention : Type 0 where
  pub uri : List ℕ
  pub number : ℕ

-- That number, if the document is among these.
abbrev pub last_record : List ℕ → List Mention → Option ℕ
last_record uri [] = None
last_record uri (mention ∷ mentions) =
    if bytes_eq mention.uri uri then Some mention.number else last_record uri mentions

-- All but one document.
abbrev pub without : List ℕ → List Mention → List Mention
without uri [] = []
without uri (mention ∷ mentions) =
    if bytes_eq mention.uri uri then mentions else mention ∷ without uri mentions

-- How many documents are known.
abbrev pub most_mentions : ℕ
most_mentions = 64

-- A document comes first with its new number. The last one is dropped if there are too many.
abbrev pub newest_first : List ℕ → ℕ → List Mention → List Mention
newest_first uri number mentions =
    take most_mentions (record { uri = uri; number = number } ∷ without uri mentions)

-- Of a record that the documents refuse: the number of the one that opened, closed or refused its
-- document last.
abbrev pub last_for : List Mention → Option (List ℕ) → Verdict → Option ℕ
last_for mentions uri (answered (refused refusal))
    = option_and_then (λ uri. last_record uri mentions) uri
last_for mentions uri verdict = None

-- Does an answer open, close or refuse a document? `change` says whether it is to a `didChange`.
abbrev pub is_mention : Bool → Verdict → Bool
is_mention change (answered changed) = not change
is_mention change (answered (refused refusal)) = true
is_mention change verdict = false

-- The documents that were opened, closed or refused last, after a record with this number.
abbrev pub mentioned : Bool → Option (List ℕ) → ℕ → List Mention → List Mention
mentioned true (Some uri) number mentions = newest_first uri number mentions
mentioned counts uri number mentions = mentions
