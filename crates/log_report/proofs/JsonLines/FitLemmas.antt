-- The numbers of a session fit their types: counts 64 bits, versions 32 bits. A canonical message is JSON.
use Rattle.log_report.proofs.Prelude.{if◌then◌else◌, ◌≡◌, ℕ, ℤ, suc, ◌^◌, ◌<◌, ◌≤◌, Bool, true, false, List, [], ◌∷◌, ◌++◌, length, map, Option, Some, None, refl, sym, ap, ◌∙◌, subst, arith, take, bytes_eq, FitsSigned, IsUtf8, ⊤, option_and_then, option_map_or, is_utf8, cases_Bool, ltb-false, IsUtf8-from_is_utf8, Json, IsUtf8-are_ascii, Data, read, LimitsData, AreInRange, units_in, ContentChange, json_of, message_of, reading, DocumentItem, value_of, IsProperId, AllWithin, after_change, after_close, after_open, entry_at, refused, Phase, IncomingData, not_json, not_a_message, response, initialize, shutdown, other_request, did_open, did_change, did_close, other_notification, incoming_of, ServerData, content_change_from_data, session_encoding, step_in, Sender, Client, Server, Version, Record, canonical_of_record, Known, is_not_open, is_stale_refusal, is_unread, known_after, last_in, lead_of, or_unread, uri_of, Mention, is_mention, last_for, last_record, mentioned, most_mentions, without, Session, Verdict, answered, encoding_for, has_changed, judge, judge_from, id_of, is_json, method_of, within, common_steps, change_in, is_some}
use Rattle.std.specs.Int.{w32}
use Rattle.log_session.specs.Canonical.{canonical_change_body}
use Rattle.lsp_message.proofs.BodyLemmas.{body_is}
use Rattle.lsp_store.specs.Message.{change_body, change_message}
use Rattle.log_report.proofs.JsonLines.PlainLemmas.{visible_compact}
use Rattle.log_session.proofs.Json.StringLemmas.{are_visible, if_some}
use Rattle.log_session.proofs.Json.WithinLemmas.{IsJson, read_is}
use Rattle.log_session.proofs.Records.AskedLemmas.{IsProperIncoming, asked_proper}
use Rattle.log_session.proofs.Records.JudgeLemmas.{case_of, judged_again, judged_held, of_incoming, of_server}
use Rattle.log_session.proofs.Json.ReadLemmas.{OnSome, on_any}
use Rattle.log_session.proofs.Records.StateLemmas.{IsHeldState, step_by}
use Rattle.log_report.proofs.Reports.TraceLemmas.{one_more_record}
use Rattle.lsp_message.specs.Message as msg

-- ---- what a body asks

proper_id : (m : IncomingData) → IsProperIncoming m → OnSome IsProperId (id_of m)
proper_id (not_a_message id) is = is
proper_id (response id) is = is
proper_id (initialize id offers) is = is
proper_id (shutdown id) is = is
proper_id (other_request id method) is = is.0
proper_id _ is = tt

proper_method : (m : IncomingData) → IsProperIncoming m → OnSome IsUtf8 (method_of m)
proper_method (other_request id method) is = is.1
proper_method (other_notification method) is = is
proper_method not_json is = tt
proper_method (not_a_message id) is = tt
proper_method (response id) is = tt
proper_method _ is = IsUtf8-are_ascii _ refl

proper_uri : (m : IncomingData) → IsProperIncoming m → OnSome IsUtf8 (uri_of Client m)
proper_uri (did_open (Some p)) is = is.uri
proper_uri (did_change (Some p)) is = is.uri
proper_uri (did_close (Some p)) is = is
proper_uri _ is = tt

pub id_fits : (body : List ℕ) → OnSome IsProperId (id_of (incoming_of (reading body)))
id_fits body = proper_id (incoming_of (reading body)) (asked_proper body)

pub method_utf8 : (body : List ℕ) → OnSome IsUtf8 (method_of (incoming_of (reading body)))
method_utf8 body = proper_method (incoming_of (reading body)) (asked_proper body)

pub uri_utf8 : (side : Sender) (body : List ℕ) → OnSome IsUtf8 (uri_of side (incoming_of (reading body)))
uri_utf8 Client body = proper_uri (incoming_of (reading body)) (asked_proper body)
uri_utf8 Server body = tt

-- ---- the versions of a table

abbrev VersionFits : DocumentItem → Type 0
VersionFits entry = FitsSigned w32 entry.version

abbrev pub AreVersions : List DocumentItem → Type 0
AreVersions [] = ⊤
AreVersions (entry ∷ table) = VersionFits entry × AreVersions table

versions_at : (table : List DocumentItem) (uri : List ℕ) → AreVersions table → OnSome VersionFits (entry_at table uri)
versions_at [] uri kept = tt
versions_at (first ∷ table) uri kept = grind (arith, common_steps, bytes_eq, cases_Bool, (versions_at table uri kept.1))

versions_close : (table : List DocumentItem) (uri : List ℕ) → AreVersions table → AreVersions (after_close table uri)
versions_close [] uri kept = tt
versions_close (first ∷ table) uri kept =
    grind (arith, common_steps, bytes_eq, cases_Bool, (versions_close table uri kept.1))

versions_last : (table : List DocumentItem) (entry : DocumentItem) → AreVersions table → VersionFits entry
    → AreVersions (table ++ entry ∷ [])
versions_last [] entry kept is = (is, tt)
versions_last (first ∷ table) entry kept is = (kept.0, versions_last table entry kept.1 is)

versions_open : (table : List DocumentItem) (entry : DocumentItem) → AreVersions table → VersionFits entry
    → AreVersions (after_open table entry)
versions_open table entry kept is =
    versions_last (after_close table entry.uri) entry (versions_close table entry.uri kept) is

versions_change : (units : ℕ → ℕ) (table : List DocumentItem) (uri : List ℕ) (version : ℤ)
    (batch : List ContentChange) → AreVersions table → FitsSigned w32 version
    → AreVersions (after_change units table uri version batch)
versions_change units [] uri version batch kept fits = tt
versions_change units (first ∷ table) uri version batch kept fits =
    grind (arith, common_steps, bytes_eq, cases_Bool, (versions_change units table uri version batch kept.1 fits))

step_versions : (phase : Phase) (s : ServerData) (m : IncomingData) → IsProperIncoming m → AreVersions s.table
    → AreVersions (step_in phase s m).state.table
step_versions phase s m proper kept =
    step_by s (λ m step. IsProperIncoming m → AreVersions step.state.table) (λ m answer phase encoding is. kept)
    (λ p may is. versions_open s.table p kept is.version)
    (λ p may is. versions_change (units_in (session_encoding s)) s.table p.uri p.version
    (map content_change_from_data p.changes) kept is.version)
    (λ p may is. versions_close s.table p.uri kept) phase m proper

-- ---- the documents that are known

abbrev IsCount : ℕ → Type 0
IsCount n = n < 2 ^ 64

abbrev pub AreNumbered : List Mention → Type 0
AreNumbered [] = ⊤
AreNumbered (mention ∷ mentions) = IsCount mention.number × AreNumbered mentions

numbered_without : (uri : List ℕ) (mentions : List Mention) → AreNumbered mentions → AreNumbered (without uri mentions)
numbered_without uri [] are = tt
numbered_without uri (mention ∷ mentions) are =
    grind (arith, common_steps, bytes_eq, cases_Bool, (numbered_without uri mentions are.1))

numbered_take : (n : ℕ) (mentions : List Mention) → AreNumbered mentions → AreNumbered (take n mentions)
numbered_take (suc n) (mention ∷ mentions) are = (are.0, numbered_take n mentions are.1)
numbered_take _ _ are = tt

numbered_more : (counts : Bool) (uri : Option (List ℕ)) (count : ℕ) (mentions : List Mention) → IsCount count
    → AreNumbered mentions → AreNumbered (mentioned counts uri count mentions)
numbered_more true (Some uri) count mentions is are =
    numbered_take most_mentions (record { uri = uri; number = count } ∷ without uri mentions)
    (is, numbered_without uri mentions are)
numbered_more _ _ count mentions is are = are

last_count : (uri : List ℕ) (mentions : List Mention) → AreNumbered mentions → OnSome IsCount (last_record uri mentions)
last_count uri [] are = tt
last_count uri (mention ∷ mentions) are =
    grind (arith, common_steps, bytes_eq, cases_Bool, (last_count uri mentions are.1))

mention_fits : (mentions : List Mention) (uri : Option (List ℕ)) (verdict : Verdict) → AreNumbered mentions
    → OnSome IsCount (last_for mentions uri verdict)
mention_fits mentions uri (answered (refused refusal)) are =
    on_any IsCount (λ uri. last_record uri mentions) (λ uri. last_count uri mentions are) uri
mention_fits mentions uri _ are = tt

either_fits : (b : Bool) (x y : Option ℕ) → OnSome IsCount x → OnSome IsCount y → OnSome IsCount (if b then x else y)
either_fits true x y h k = h
either_fits false x y h k = k

unread_fits : (last unread : Option ℕ) (verdict : Verdict) → OnSome IsCount last → OnSome IsCount unread
    → OnSome IsCount (or_unread last unread verdict)
unread_fits None unread verdict h k = either_fits (is_not_open verdict) unread None k tt
unread_fits (Some last) unread verdict h k = h

pub last_fits : (known : Known) (uri : Option (List ℕ)) (verdict : Verdict) → AreNumbered known.made
    → AreNumbered known.mentions → OnSome IsCount known.unread → OnSome IsCount (last_in known uri verdict)
last_fits known uri verdict made mentions unread =
    either_fits (is_stale_refusal verdict) (last_for known.made uri verdict)
    (or_unread (last_for known.mentions uri verdict) known.unread verdict) (mention_fits known.made uri verdict made)
    (unread_fits (last_for known.mentions uri verdict) known.unread verdict
    (mention_fits known.mentions uri verdict mentions) unread)

lead_fits : (last : Option ℕ) (number : ℕ) (verdict : Verdict) → OnSome IsCount last → IsCount number
    → IsCount (lead_of last number verdict)
lead_fits None number verdict h k = k
lead_fits (Some last) number verdict h k = one (is_not_open verdict)
  where
    one : (b : Bool) → IsCount (if b then last else number)
    one true = h
    one false = k

-- ---- a session

pub record IsFit (limits : LimitsData) (known : Known) (s : Session) : Type 0 where
  pub held : IsHeldState limits s.server
  pub versions : AreVersions s.server.table
  pub records : IsCount s.records
  pub made : AreNumbered known.made
  pub mentions : AreNumbered known.mentions
  pub unread : OnSome IsCount known.unread

from_versions : (s : Session) (version : Version) (side : Sender) (body : List ℕ) → AreVersions s.server.table
    → AreVersions (judge_from s version side body).session.server.table
from_versions s version Client body kept =
    of_incoming (λ j. AreVersions j.session.server.table) s version (incoming_of (reading body)) kept
    (step_versions s.server.phase s.server (incoming_of (reading body)) (asked_proper body) kept)
from_versions s version Server body kept =
    of_server (λ j. AreVersions j.session.server.table) s kept kept (λ encoding. kept)
    (encoding_for s.expected (reading body))

pub judged_fits : (limits : LimitsData) (known : Known) (s : Session) (r : Record) → IsFit limits known s
    → IsFit limits (known_after known s r.head r.body (judge s r)) (judge s r).session
judged_fits limits known s r fit =
    let records : IsCount (judge s r).session.records =
    subst IsCount (sym (one_more_record s r)) (let few = fit.records in omega arith) in
    record {
      held = judged_held limits s r fit.held;
      versions = from_versions s r.head.version r.head.side r.body fit.versions;
      records = records;
      made = numbered_more (has_changed (judge s r).verdict)
          (uri_of r.head.side (incoming_of (reading r.body))) (judge s r).session.records known.made records
          fit.made;
      mentions = numbered_more (is_mention (is_some (change_in (incoming_of (reading r.body)))) (judge s r).verdict)
          (uri_of r.head.side (incoming_of (reading r.body)))
          (lead_of (last_in known (uri_of r.head.side (incoming_of (reading r.body))) (judge s r).verdict)
          (judge s r).session.records (judge s r).verdict) known.mentions
          (lead_fits (last_in known (uri_of r.head.side (incoming_of (reading r.body))) (judge s r).verdict)
          (judge s r).session.records (judge s r).verdict
          (last_fits known (uri_of r.head.side (incoming_of (reading r.body))) (judge s r).verdict fit.made
          fit.mentions fit.unread) records) fit.mentions;
      unread = either_fits (is_unread (judge s r).verdict) (Some (judge s r).session.records) known.unread records
          fit.unread;
    }

pub document_fits : (table : List DocumentItem) (uri : Option (List ℕ)) → AreVersions table
    → OnSome VersionFits (option_and_then (entry_at table) uri)
document_fits table uri kept = on_any VersionFits (entry_at table) (λ uri. versions_at table uri kept) uri

-- ---- texts

abbrev pub HasText : DocumentItem → Type 0
HasText entry = IsUtf8 entry.text

texts_at : (limits : LimitsData) (table : List DocumentItem) (uri : List ℕ) → AllWithin limits table
    → OnSome HasText (entry_at table uri)
texts_at limits [] uri kept = tt
texts_at limits (first ∷ table) uri kept =
    grind (arith, common_steps, bytes_eq, cases_Bool, (texts_at limits table uri kept.1))

pub text_utf8 : (limits : LimitsData) (table : List DocumentItem) (uri : Option (List ℕ)) → AllWithin limits table
    → OnSome HasText (option_and_then (entry_at table) uri)
text_utf8 limits table uri kept = on_any HasText (entry_at table) (λ uri. texts_at limits table uri kept) uri

-- ---- bodies

-- bytes that are JSON in UTF-8
pub record IsBody (body : List ℕ) : Type 0 where
  pub value : Json
  pub json : IsJson body value
  pub utf8 : IsUtf8 body

-- a body that counts as JSON is JSON
pub body_json : (body : List ℕ) → is_json (incoming_of (reading body)) ≡ true → IsBody body
body_json body h = by (json_of body) refl
  where
    by : (o : Option Data) → json_of body ≡ o → IsBody body
    by None e =
        let none : reading body ≡ msg.not_json = ap (λ o. option_map_or message_of o msg.not_json) e in
        absurd (let no : false ≡ true = ap (λ r. is_json (incoming_of r)) (sym none) ∙ h in cc)
    by (Some d) e =
        let both = if_some (is_utf8 body) (read body) d e in
        let found = read_is body d both.1 in
        record { value = found.0; json = found.1; utf8 = IsUtf8-from_is_utf8 body both.0 }

visible_change : (uri : List ℕ) (version : ℤ) (batch : List ContentChange)
    → are_visible (change_body uri version batch) ≡ true
unfolding change_body
visible_change uri version batch =
    ap are_visible (body_is (change_message uri version batch))
    ∙ visible_compact (value_of (change_message uri version batch))

within_both : (max : ℕ) (o : Option (List ℕ)) (body : List ℕ) → within max o ≡ Some body
    → (o ≡ Some body) × (length body ≤ max)
within_both max None body e = absurd (let no : None ≡ Some body = e in cc)
within_both max (Some other) body e = grind (arith, common_steps, ltb-false)

-- a canonical message is JSON without line breaks
pub canonical_json : (limits : LimitsData) → AreInRange limits → (s : Session) (r : Record) (body : List ℕ)
    → IsHeldState limits s.server
    → within s.server.config.limits.max_body (canonical_of_record s r.body (judge s r).verdict) ≡ Some body
    → IsBody body × (are_visible body ≡ true)
canonical_json limits ranges s r body held e =
    let both = within_both s.server.config.limits.max_body (canonical_of_record s r.body (judge s r).verdict) body e in
    let short : length body ≤ limits.max_body = omega (arith, both.1, ap (λ (l : LimitsData). l.max_body) held.limit) in
    let again = judged_again limits ranges s r.head r.body body held both.0 short in
    let change = case_of canonical_change_body s.server (incoming_of (reading body)) (judge s r).verdict body again.1 in
    let first = case_of canonical_change_body s.server (incoming_of (reading r.body)) (judge s r).verdict body
    both.0 in (
      body_json body (ap is_json change.asks),
      subst (λ b. are_visible b ≡ true) (sym first.is) (visible_change first.change.uri first.change.version _),
    )
