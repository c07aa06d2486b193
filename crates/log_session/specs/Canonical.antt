-- The bodies that an accepted change is written with: its canonical message, or the whole text that
-- it leaves.
use Rattle.log_session.specs.Prelude.{ℕ, map, List, Option, Some, None, units_in, reading, ChangeData, IncomingData, incoming_of, did_change, ServerData, session_encoding, content_change_from_data, changed}
use Rattle.lsp_store.specs.Message.{canonical_body, whole_body}
use Rattle.log_session.specs.Session.{Session, Verdict, answered}

-- ---- `normalise`: each accepted change as its canonical message, and every other byte as it is

-- The parameters of a `didChange`, if they are valid.
abbrev pub change_in : IncomingData → Option ChangeData
change_in (did_change params) = params
change_in m = None

-- The body of the canonical message of a batch on the documents of a server.
abbrev pub canonical_change_body : ServerData → ChangeData → List ℕ
canonical_change_body server p
    = canonical_body (units_in (session_encoding server)) server.table p.uri p.version
    (map content_change_from_data p.changes)

-- The body of a `didChange` with the URI and the version of a change (LSP 3.17,
-- TextDocumentContentChangeEvent). It has one change without a range: the text of the document
-- after all its changes.
abbrev pub whole_change_body : ServerData → ChangeData → List ℕ
whole_change_body server p
    = whole_body (units_in (session_encoding server)) server.table p.uri p.version
    (map content_change_from_data p.changes)

-- The body that an accepted change is written with: `body` says which, by the server before it.
-- Other records have none.
abbrev pub body_if : (ServerData → ChangeData → List ℕ) → ServerData → Option ChangeData → Verdict
    → Option (List ℕ)
body_if body server (Some p) (answered changed) = Some (body server p)
body_if body server change verdict = None

-- The same from the bytes of the record's body.
abbrev pub body_of_record : (ServerData → ChangeData → List ℕ) → Session → List ℕ → Verdict
    → Option (List ℕ)
body_of_record body s read verdict
    = body_if body s.server (change_in (incoming_of (reading read))) verdict

-- The canonical body of an accepted change.
abbrev pub canonical_if : ServerData → Option ChangeData → Verdict → Option (List ℕ)
canonical_if server change verdict = body_if canonical_change_body server change verdict

abbrev pub canonical_of_record : Session → List ℕ → Verdict → Option (List ℕ)
canonical_of_record s body verdict = body_of_record canonical_change_body s body verdict
