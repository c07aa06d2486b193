-- A record that isn't an accepted one about a document leaves that document as it is.
use Rattle.log_report.proofs.Prelude.{◌≡◌, ℕ, Bool, true, false, List, [], ◌∷◌, ◌++◌, map, bytes_eq, refl, sym, ap, ◌∙◌, ℤ, ◌&&◌, bytes_eq-Decides, units_in, ContentChange, reading, DocumentItem, as_sent, Phase, IncomingData, incoming_of, Sender, Client, Server, Version, Record, Session, Judged, answered, has_changed, judge, judge_from, judge_client, encoding_for, uri_of, is_document, arith, common_steps}
use Rattle.lsp_store.specs.Table.{entry_at, after_open, after_change, after_close}
use Rattle.lsp_server.specs.Step.{ServerData, Step, step_in, content_change_from_data, session_encoding}
use Rattle.log_session.proofs.Records.StateLemmas.{step_by, heard_table}

-- ---- another document

same_last : (table : List DocumentItem) (entry : DocumentItem) (uri : List ℕ) → bytes_eq uri entry.uri ≡ false
    → entry_at (table ++ entry ∷ []) uri ≡ entry_at table uri
same_last [] entry uri other = rw other refl
same_last (x ∷ table) entry uri other = grind (arith, common_steps, (same_last table entry uri other))

-- an entry of the document that a message is about is no entry of another one
differs : (uri other entry : List ℕ) → bytes_eq uri other ≡ false → bytes_eq other entry ≡ true → bytes_eq uri entry
    ≡ false
differs uri other entry differ same = ap (bytes_eq uri) (sym ((bytes_eq-Decides other entry).0 same)) ∙ differ

same_changed : (units : ℕ → ℕ) (table : List DocumentItem) (other : List ℕ) (version : ℤ) (batch : List ContentChange)
    (uri : List ℕ) → bytes_eq uri other ≡ false → entry_at (after_change units table other version batch) uri
    ≡ entry_at table uri
same_changed units [] other version batch uri differ = refl
same_changed units (x ∷ table) other version batch uri differ =
    grind (arith, common_steps, differs, (same_changed units table other version batch uri differ))

same_closed : (table : List DocumentItem) (other uri : List ℕ) → bytes_eq uri other ≡ false
    → entry_at (after_close table other) uri ≡ entry_at table uri
same_closed [] other uri differ = refl
same_closed (x ∷ table) other uri differ =
    grind (arith, common_steps, differs, (same_closed table other uri differ))

same_open : (table : List DocumentItem) (entry : DocumentItem) (uri : List ℕ) → bytes_eq uri entry.uri ≡ false
    → entry_at (after_open table entry) uri ≡ entry_at table uri
same_open table entry uri other = same_last (after_close table entry.uri) entry uri other ∙ same_closed table entry.uri
    uri other

-- ---- a step

-- Is a step of an accepted message about this document?
abbrev Touches : List ℕ → Sender → IncomingData → Step → Bool
Touches uri side m step = has_changed (answered (as_sent step.answer)) && is_document uri (uri_of side m)

abbrev Keeps : List ℕ → ServerData → IncomingData → Step → Type 0
Keeps uri s m step = Touches uri Client m step ≡ false → entry_at step.state.table uri ≡ entry_at s.table uri

step_keeps : (phase : Phase) (uri : List ℕ) (s : ServerData) (m : IncomingData) → Keeps uri s m (step_in phase s m)
step_keeps phase uri s m =
    step_by s (Keeps uri s) (λ m answer phase encoding other. refl) (λ p may. same_open s.table p uri)
    (λ p may. same_changed (units_in (session_encoding s)) s.table p.uri p.version
    (map content_change_from_data p.changes) uri) (λ p may. same_closed s.table p.uri uri) phase m

-- ---- a record

abbrev IsKept : List ℕ → Session → Sender → IncomingData → Judged → Type 0
IsKept uri s side m j = (has_changed j.verdict && is_document uri (uri_of side m)) ≡ false
    → entry_at j.session.server.table uri ≡ entry_at s.server.table uri

client_keeps : (uri : List ℕ) (s : Session) (version : Version) (m : IncomingData)
    → IsKept uri s Client m (judge_client s version m)
client_keeps uri s version m = grind (arith, common_steps, step_keeps)

side_keeps : (uri : List ℕ) (s : Session) (version : Version) (side : Sender) (body : List ℕ)
    → IsKept uri s side (incoming_of (reading body)) (judge_from s version side body)
side_keeps uri s version Client body = client_keeps uri s version (incoming_of (reading body))
side_keeps uri s version Server body =
    λ other. ap (λ (table : List DocumentItem). entry_at table uri)
    (heard_table s (encoding_for s.expected (reading body)))

pub record_keeps : (uri : List ℕ) (s : Session) (r : Record) → IsKept uri s r.head.side (incoming_of (reading r.body))
    (judge s r)
record_keeps uri s r = side_keeps uri s r.head.version r.head.side r.body
