-- What a body asks is as the types hold it: its texts are UTF-8, and its numbers fit.
use Rattle.log_session.proofs.Prelude.{◌≡◌, ℕ, ℤ, pos, negsuc, ◌<◌, ◌^◌, Bool, true, false, ◌||◌, List, map, Option, Some, None, option_map, option_and_then, FitsSigned, IsUtf8, bytes_eq, codes, refl, arith, ⊤, if◌then◌else◌, nat_lt, int_lt, option_map_or, is_utf8, cond_both, ltb-true, nat_tests, IsUtf8-from_is_utf8, scalars-chars, get_member, get, as_object, as_str, as_array, as_i64, read, member_at, text_in, array_in, each_of, whole_in, IdData, whole, OutcomeData, Reading, MessageData, id_in, json_of, message_of, reading, CloseData, close_by, close_of, DocumentItem, ContentChangeData, ChangeData, open_of, open_by, change_of, change_by, document_in, document_and_changes, content_change_in, version_in, version_from, IsProperId, IncomingData, not_a_message, response, initialize, shutdown, other_request, did_open, did_change, did_close, other_notification, incoming_by, incoming_of, content_change_from_data, AreTexts, common_steps}
use Rattle.std.specs.Int.{w32}
use Rattle.std.specs.Str.{all_scalars, chars}
use Rattle.serde_json.specs.Data.{Num, unsigned, negative, float, Data, null, number, string, array, object, Items, no_items, item, Members, no_members, member}
use Rattle.log_session.proofs.Json.ReadLemmas.{OnSome, held_ordered, on_any, on_map, on_then, NumFits, IsHeld, ItemsAreHeld, MembersAreHeld, read_held}
use Rattle.lsp_message.specs.Message as msg

-- ---- members of a value

held_member : (name : List ℕ) (ms : Members) → MembersAreHeld ms → OnSome IsHeld (get_member name ms)
held_member name no_members received = tt
held_member name (member l e ms) received = grind (arith, common_steps, held_ordered, (held_member name ms received.1))

held_get : (name : List ℕ) (d : Data) → IsHeld d → OnSome IsHeld (get name d)
held_get name (object ms) received = held_member name ms received
held_get name _ received = tt

held_at : (name : List ℕ) (found : Option Data) → OnSome IsHeld found → OnSome IsHeld (member_at name found)
held_at name found received = on_then IsHeld IsHeld (get name) (λ d h. held_get name d h) found received

text_held : (d : Data) → IsHeld d → OnSome IsUtf8 (as_str d)
text_held (string s) received = received
text_held _ received = tt

held_text : (found : Option Data) → OnSome IsHeld found → OnSome IsUtf8 (text_in found)
held_text found received = on_then IsHeld IsUtf8 as_str text_held found received

object_held : (d : Data) → IsHeld d → OnSome MembersAreHeld (as_object d)
object_held (object ms) received = received
object_held _ received = tt

array_held : (d : Data) → IsHeld d → OnSome ItemsAreHeld (as_array d)
array_held (array ds) received = received
array_held _ received = tt

-- ---- ids

id_by_number : (b : Bool) (n : ℕ) → (b ≡ true → n < 2 ^ 63)
    → OnSome IsProperId (option_map whole (if b then Some (pos n) else None))
id_by_number true n small = record { sfits = small refl }
id_by_number false n small = tt

id_number : (n : Num) → NumFits n → OnSome IsProperId (option_map whole (as_i64 n))
id_number (unsigned n) fits = id_by_number (nat_lt n (2 ^ 63)) n (λ e. ltb-true n (2 ^ 63) e)
id_number (negative z) fits = fits
id_number (float x) fits = tt

id_held : (d : Data) → IsHeld d → OnSome IsProperId (id_in d)
id_held (number n) received = id_number n received
id_held (string s) received = received
id_held _ received = tt

-- ---- messages

abbrev IsProperMessage : MessageData → Type 0
IsProperMessage (msg.request id method params) = IsProperId id × IsUtf8 method × OnSome IsHeld params
IsProperMessage (msg.notification method params) = IsUtf8 method × OnSome IsHeld params
IsProperMessage (msg.response id outcome) = OnSome IsProperId id

abbrev IsProperReading : Reading → Type 0
IsProperReading (msg.message m) = IsProperMessage m
IsProperReading (msg.not_a_message id) = OnSome IsProperId id
IsProperReading msg.not_json = ⊤

found_or : {A : Type 0} (P : A → Type 0) (f : A → Reading) (o : Option A) (d : Reading)
    → ((a : A) → P a → IsProperReading (f a)) → OnSome P o → IsProperReading d → IsProperReading (option_map_or f o d)
found_or P f None d all has rest = rest
found_or P f (Some a) d all has rest = all a has

any : {A : Type 0} (o : Option A) → OnSome (λ (a : A). ⊤) o
any None = tt
any (Some a) = tt

response_proper : (id : Option IdData) (outcome : Option OutcomeData) → OnSome IsProperId id
    → OnSome IsProperMessage (option_map (msg.response id) outcome)
response_proper id None is = tt
response_proper id (Some outcome) is = is

named_proper : (id : Data) (outcome : Option OutcomeData) → IsHeld id
    → OnSome IsProperMessage (option_and_then (λ i. option_map (msg.response (Some i)) outcome) (id_in id))
named_proper id outcome is =
    on_then IsProperId IsProperMessage _ (λ i h. response_proper (Some i) outcome h) (id_in id) (id_held id is)

row_proper : (method id : Option Data) (value : Data) → OnSome IsHeld method → OnSome IsHeld id
    → OnSome IsHeld (get (codes "params") value) → OnSome IsProperMessage (msg.message_by method id value)
row_proper (Some (string s)) None value named is params = (named, params)
row_proper (Some (string s)) (Some id) value named is params =
    on_then IsProperId IsProperMessage _ (λ i p. (p, named, params)) (id_in id) (id_held id is)
row_proper None (Some null) value named is params = response_proper None (msg.outcome_in value) tt
row_proper None (Some (number n)) value named is params = named_proper (number n) (msg.outcome_in value) is
row_proper None (Some (string s)) value named is params = named_proper (string s) (msg.outcome_in value) is
row_proper _ _ value named is params = tt

version_proper : (two : Bool) (found : Option MessageData) → OnSome IsProperMessage found
    → OnSome IsProperMessage (if two then found else None)
version_proper true found has = has
version_proper false found has = tt

value_proper : (d : Data) → IsHeld d → IsProperReading (message_of d)
value_proper d held = grind (arith, common_steps, found_or, version_proper, row_proper, held_get, on_then, id_held)

pub value_held : (body : List ℕ) → OnSome IsHeld (json_of body)
value_held body = by (is_utf8 body) refl
  where
    on_read : (found : Option Data) → IsUtf8 body → read body ≡ found → OnSome IsHeld found
    on_read None u e = tt
    on_read (Some d) u e = read_held body d u e

    by : (b : Bool) → is_utf8 body ≡ b → OnSome IsHeld (if b then read body else None)
    by true e = on_read (read body) (IsUtf8-from_is_utf8 body e) refl
    by false e = tt

reading_proper : (body : List ℕ) → IsProperReading (reading body)
reading_proper body = found_or IsHeld message_of (json_of body) msg.not_json value_proper (value_held body) tt

-- ---- parameters

pub record IsProperAsked (p : ChangeData) : Type 0 where
  pub uri : IsUtf8 p.uri
  pub version : FitsSigned w32 p.version
  pub texts : AreTexts (map content_change_from_data p.changes)

pub record IsOpened (p : DocumentItem) : Type 0 where
  pub uri : IsUtf8 p.uri
  pub version : FitsSigned w32 p.version
  pub text : IsUtf8 p.text

abbrev IsClosed : CloseData → Type 0
IsClosed p = IsUtf8 p.uri

document_held : (params : Option Data) → OnSome IsHeld params → OnSome MembersAreHeld (document_in params)
document_held params received =
    on_then IsHeld MembersAreHeld as_object object_held (member_at (codes "textDocument") params)
    (held_at (codes "textDocument") params received)

abbrev IsEditHeld : ContentChangeData → Type 0
IsEditHeld e = all_scalars (chars e.text) ≡ true

abbrev AreEditsHeld : List ContentChangeData → Type 0
AreEditsHeld es = AreTexts (map content_change_from_data es)

edit_held : (d : Data) → IsHeld d → OnSome IsEditHeld (content_change_in d)
edit_held d received =
    grind (arith, common_steps, on_then, codes, any, held_text, held_member, object_held, scalars-chars)

edits_held : (ds : Items) → ItemsAreHeld ds → OnSome AreEditsHeld (each_of content_change_in ds)
edits_held no_items received = tt
edits_held (item d ds) received = grind (arith, common_steps, on_then, edit_held, (edits_held ds received.1))

within_fits : (z : ℤ) → OnSome (FitsSigned w32) (version_from z)
within_fits (pos n) = cond_both (int_lt (pos n) (negsuc 2147483647) || int_lt (pos 2147483647) (pos n)) None
    (Some (pos n)) (OnSome (FitsSigned w32)) (λ e. tt) (λ e. record { sfits = grind (arith, nat_tests) })
within_fits (negsuc n) = cond_both (int_lt (negsuc n) (negsuc 2147483647) || int_lt (pos 2147483647) (negsuc n)) None
    (Some (negsuc n)) (OnSome (FitsSigned w32)) (λ e. tt) (λ e. record { sfits = grind (arith, nat_tests) })

version_fits : (found : Option Data) → OnSome (FitsSigned w32) (version_in found)
version_fits found = on_any (FitsSigned w32) version_from within_fits (whole_in found)

-- members of an object

member_text : (name : List ℕ) (ms : Members) → MembersAreHeld ms → OnSome IsUtf8 (text_in (get_member name ms))
member_text name ms held = held_text (get_member name ms) (held_member name ms held)

open_held : (ms : Members) → MembersAreHeld ms → OnSome IsOpened (open_by ms)
open_held ms held =
    on_then IsUtf8 IsOpened _
    (λ uri u. on_any IsOpened _
    (λ language. on_then (FitsSigned w32) IsOpened _
    (λ version fits. on_then IsUtf8 IsOpened _ (λ text t. record { uri = u; version = fits; text = t })
    (text_in (get_member (codes "text") ms)) (member_text (codes "text") ms held))
    (version_in (get_member (codes "version") ms)) (version_fits (get_member (codes "version") ms)))
    (text_in (get_member (codes "languageId") ms)))
    (text_in (get_member (codes "uri") ms)) (member_text (codes "uri") ms held)

opened_held : (params : Option Data) → OnSome IsHeld params → OnSome IsOpened (open_of params)
opened_held params received = on_then MembersAreHeld IsOpened open_by open_held (document_in params)
    (document_held params received)

close_held : (ms : Members) → MembersAreHeld ms → OnSome IsClosed (close_by ms)
close_held ms held = grind (arith, common_steps, on_map, held_text, held_member)

closed_held : (params : Option Data) → OnSome IsHeld params → OnSome IsClosed (close_of params)
closed_held params received = on_then MembersAreHeld IsClosed close_by close_held (document_in params)
    (document_held params received)

change_held : (ms : Members) (ds : Items) → MembersAreHeld ms → ItemsAreHeld ds → OnSome IsProperAsked (change_by ms ds)
change_held ms ds received also =
    on_then IsUtf8 IsProperAsked _
    (λ uri u. on_then (FitsSigned w32) IsProperAsked _
    (λ version fits. on_then AreEditsHeld IsProperAsked _ (λ es us. record { uri = u; version = fits; texts = us })
    (each_of content_change_in ds) (edits_held ds also))
    (version_in (get_member (codes "version") ms)) (version_fits (get_member (codes "version") ms)))
    (text_in (get_member (codes "uri") ms)) (member_text (codes "uri") ms received)

abbrev AreBothHeld : Members × Items → Type 0
AreBothHeld p = MembersAreHeld p.0 × ItemsAreHeld p.1

both_held : (params : Option Data) → OnSome IsHeld params → OnSome AreBothHeld (document_and_changes params)
both_held params received =
    on_then MembersAreHeld AreBothHeld _
    (λ ms h. on_then ItemsAreHeld AreBothHeld _ (λ ds i. (h, i)) (array_in (member_at (codes "contentChanges") params))
    (on_then IsHeld ItemsAreHeld as_array array_held (member_at (codes "contentChanges") params)
    (held_at (codes "contentChanges") params received)))
    (document_in params) (document_held params received)

changed_held : (params : Option Data) → OnSome IsHeld params → OnSome IsProperAsked (change_of params)
changed_held params received =
    on_then AreBothHeld IsProperAsked (λ p. change_by p.0 p.1) (λ p h. change_held p.0 p.1 h.0 h.1)
    (document_and_changes params) (both_held params received)

-- ---- what is asked

abbrev pub IsProperIncoming : IncomingData → Type 0
IsProperIncoming (not_a_message id) = OnSome IsProperId id
IsProperIncoming (response id) = OnSome IsProperId id
IsProperIncoming (initialize id offers) = IsProperId id
IsProperIncoming (shutdown id) = IsProperId id
IsProperIncoming (other_request id method) = IsProperId id × IsUtf8 method
IsProperIncoming (did_open params) = OnSome IsOpened params
IsProperIncoming (did_change params) = OnSome IsProperAsked params
IsProperIncoming (did_close params) = OnSome IsClosed params
IsProperIncoming (other_notification method) = IsUtf8 method
IsProperIncoming _ = ⊤

either_asked : (b : Bool) (x y : IncomingData) → IsProperIncoming x → IsProperIncoming y
    → IsProperIncoming (if b then x else y)
either_asked true x y p q = p
either_asked false x y p q = q

asked_message : (m : MessageData) → IsProperMessage m → IsProperIncoming (incoming_by m)
asked_message (msg.request id method params) proper = grind (arith, common_steps, either_asked, bytes_eq, codes)
asked_message (msg.notification method params) proper =
    grind (arith, common_steps, either_asked, bytes_eq, codes, opened_held, changed_held, closed_held)
asked_message (msg.response id outcome) proper = proper

asked_reading : (r : Reading) → IsProperReading r → IsProperIncoming (incoming_of r)
asked_reading (msg.message m) proper = asked_message m proper
asked_reading (msg.not_a_message id) proper = proper
asked_reading msg.not_json proper = tt

-- What a body asks is proper.
pub asked_proper : (body : List ℕ) → IsProperIncoming (incoming_of (reading body))
asked_proper body = asked_reading (reading body) (reading_proper body)
