-- The text that is kept of a document that is closed.
use Rattle.std.specs.Prelude.{if◌then◌else◌}
use Rattle.log_session.specs.Prelude.{ℕ, List, Option, Some, None, option_map, bytes_eq, DocumentItem, IncomingData, did_close, entry_at}
use Rattle.log_session.specs.inside.Bodies.{BodyData, from_client}

-- The text of the document with this URI, if it is open.
abbrev pub text_at : List DocumentItem → List ℕ → Option (List ℕ)
text_at table uri = option_map (λ entry. entry.text) (entry_at table uri)

-- The text that a client's message may close.
abbrev pub text_closed : List DocumentItem → List ℕ → IncomingData → Option (List ℕ)
text_closed table uri (did_close (Some p)) = if bytes_eq p.uri uri then text_at table uri else None
text_closed table uri m = None

-- The same of a record's body.
abbrev pub closed_by : List DocumentItem → Option (List ℕ) → BodyData → Option (List ℕ)
closed_by table (Some uri) (from_client version m) = text_closed table uri m
closed_by table uri read = None

-- A text that is kept in place of the one before, if there is one.
abbrev pub kept_after : Option (List ℕ) → Option (List ℕ) → Option (List ℕ)
kept_after None before = before
kept_after (Some text) before = Some text
