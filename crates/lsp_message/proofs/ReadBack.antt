-- What is written is read as the same message, and no two messages have one text.
use Rattle.lsp_message.proofs.Prelude.{◌≡◌, ℕ, ◌^◌, ◌<◌, suc, pos, negsuc, List, [], ◌∷◌, map, Bool, true, false, Option, Some, None, option_map, option_and_then, FitsSigned, IfSome, All, bytes_eq, codes, refl, sym, ap, ◌∙◌, arith, lt-ltb, ℤ, if◌then◌else◌, Data, number, get, of_integer, as_i64, read, items_of, Encoding, Utf8, Utf16, Utf32, Position, Range, Offers, SyncKind, Off, ErrorCode, ParseError, InvalidRequest, MethodNotFound, InvalidParams, ServerNotInitialized, text_in, is_null, offers_of, announced_of, IdData, whole, message_of, message, reading, id_in, id_found, DocumentItem, ContentChangeData, ChangeData, open_of, change_of, close_of, version_from, version_in, position_in, range_in, content_change_in, content_changes_in, OutgoingData, sent, IsReadBack, IsProper, IsProperId, IsProperDocument, IsProperChange, IsProperEdit, IsProperRange, IsProperPosition, common_steps}
use Rattle.std.specs.Int.{w32, w64}
use Rattle.std.proofs.lemmas.Bool.Decides.{nat_tests}
use Rattle.std.proofs.lemmas.Option.{same_Some}
use Rattle.lsp_message.specs.declared.agreement.Announced.{Announced}
use Rattle.lsp_message.proofs.Readings.{reading_of_value}
use Rattle.lsp_message.proofs.Bodies.{read-body_of, utf8-body_of}
use Rattle.lsp_message.specs.Outgoing as spec
use Rattle.lsp_message.specs.Written as values

-- ---- numbers

as_i64-of_integer : (z : ℤ) → FitsSigned w64 z → as_i64 (of_integer z) ≡ Some z
as_i64-of_integer (pos n) h = let small : n < 2 ^ 63 = h.sfits in rw lt-ltb refl
as_i64-of_integer (negsuc n) h = refl

version_from-fits : (z : ℤ) → FitsSigned w32 z → version_from z ≡ Some z
version_from-fits (pos n) h = let small : n < 2 ^ 31 = h.sfits in grind (arith, nat_tests)
version_from-fits (negsuc n) h = let small : n < 2 ^ 31 = h.sfits in grind (arith, nat_tests)

version_in-of_integer : (z : ℤ) → FitsSigned w32 z → version_in (Some (number (of_integer z))) ≡ Some z
version_in-of_integer z h = grind (arith, common_steps, option_and_then, as_i64-of_integer, version_from-fits)

-- ---- which message it is

id_in-id_value : (id : IdData) → IsProperId id → id_in (values.id_value id) ≡ Some id
id_in-id_value (whole (pos n)) h = ap (option_map whole) (as_i64-of_integer (pos n) h)
id_in-id_value _ h = refl

id_found-id_or_null : (id : Option IdData) → IfSome id IsProperId → id_found (Some (values.id_or_null id)) ≡ id
id_found-id_or_null None h = refl
id_found-id_or_null (Some id) h = id_in-id_value id h

message_of-value_of : (m : OutgoingData) → IsProper m → message_of (values.value_of m) ≡ message (sent m)
message_of-value_of (spec.initialize_result (whole n) encoding kind) h = rw (id_in-id_value (whole n) h) refl
message_of-value_of (spec.shutdown_result (whole n)) h = rw (id_in-id_value (whole n) h) refl
message_of-value_of (spec.error_reply id error) h = grind (arith, common_steps, id_found-id_or_null)
message_of-value_of _ h = refl

pub reading-body_of : (m : OutgoingData) → IsProper m → reading (spec.body_of m) ≡ message (sent m)
reading-body_of m h = reading_of_value (spec.body_of m) (values.value_of m) (utf8-body_of m h) (read-body_of m h)
    ∙ message_of-value_of m h

-- ---- its parameters

position_in-position_value : (p : Position) → IsProperPosition p → position_in (Some (values.position_value p)) ≡ Some p
position_in-position_value p h = grind (arith, common_steps, lt-ltb)

range_in-range_value : (r : Range) → IsProperRange r → range_in (Some (values.range_value r)) ≡ Some r
range_in-range_value r h = rw (position_in-position_value r.start h.start, position_in-position_value r.stop h.stop)
    refl

content_change_in-content_change_value : (r : Option Range) (s : List ℕ) → IfSome r IsProperRange
    → content_change_in (values.content_change_value (record { range = r; text = s }))
    ≡ Some (record { range = r; text = s })
content_change_in-content_change_value None s h = refl
content_change_in-content_change_value (Some r) s h = rw (range_in-range_value r h) refl

content_changes_in-edits : (es : List ContentChangeData) → All IsProperEdit es → content_changes_in (items_of
    (map values.content_change_value es)) ≡ Some es
content_changes_in-edits [] h = refl
content_changes_in-edits (e ∷ es) h =
    let first = h 0 e (omega arith) in
    let later = content_changes_in-edits es (λ k d l. h (suc k) d (omega arith)) in
    rw (content_change_in-content_change_value e.range e.text first.range, later) refl

open_of-open_params : (p : DocumentItem) → IsProperDocument p → open_of (Some (values.open_params p)) ≡ Some p
open_of-open_params p h = rw (version_in-of_integer p.version h.version) refl

change_of-change_params : (p : ChangeData) → IsProperChange p → change_of (Some (values.change_params p)) ≡ Some p
change_of-change_params p h =
    rw (version_in-of_integer p.version h.version, content_changes_in-edits p.changes h.changes) refl

offers_of-initialize_params : (utf8 utf32 : Bool) → let offers : Offers = record { utf8 = utf8; utf32 = utf32 } in
    offers_of (Some (values.initialize_params offers)) ≡ Some offers
offers_of-initialize_params true true = refl
offers_of-initialize_params false false = refl
offers_of-initialize_params _ _ = refl

abbrev announces : Encoding → SyncKind → Announced
announces encoding kind = record { open_close = true; kind = kind; encoding = Some encoding }

announced_of-initialize_value : (encoding : Encoding) (kind : SyncKind)
    → announced_of (values.initialize_value encoding kind) ≡ Some (announces encoding kind)
announced_of-initialize_value Utf8 Off = refl
announced_of-initialize_value Utf16 Off = refl
announced_of-initialize_value Utf32 Off = refl
announced_of-initialize_value _ _ = refl

pub is_read_back : (m : OutgoingData) → IsProper m → IsReadBack m
is_read_back (spec.initialize offers) h = offers_of-initialize_params offers.utf8 offers.utf32
is_read_back (spec.did_open p) h = open_of-open_params p h
is_read_back (spec.did_change p) h = change_of-change_params p h
is_read_back (spec.did_close p) h = refl
is_read_back (spec.initialize_result id encoding kind) h = announced_of-initialize_value encoding kind
is_read_back _ h = tt

-- ---- the message that a value is, as far as it was written

abbrev error_named : List ℕ → Option ErrorCode
error_named s =
    if bytes_eq s (spec.error_message ParseError) then Some ParseError
    else if bytes_eq s (spec.error_message InvalidRequest) then Some InvalidRequest
    else if bytes_eq s (spec.error_message MethodNotFound) then Some MethodNotFound
    else if bytes_eq s (spec.error_message InvalidParams) then Some InvalidParams
    else if bytes_eq s (spec.error_message ServerNotInitialized) then Some ServerNotInitialized
    else None

abbrev called : List ℕ → Option Data → Option OutgoingData
called m params =
    if bytes_eq m (codes "initialize") then option_map spec.initialize (offers_of params)
    else if bytes_eq m (codes "initialized") then Some spec.initialized
    else if bytes_eq m (codes "textDocument/didOpen") then option_map spec.did_open (open_of params)
    else if bytes_eq m (codes "textDocument/didChange") then option_map spec.did_change (change_of params)
    else if bytes_eq m (codes "textDocument/didClose") then option_map spec.did_close (close_of params)
    else if bytes_eq m (codes "shutdown") then Some spec.shutdown
    else Some spec.exit

abbrev announced : IdData → Announced → Option OutgoingData
announced id a = option_map (λ e. spec.initialize_result id e a.kind) a.encoding

abbrev answered : Option IdData → Data → Option OutgoingData
answered id result =
    option_and_then (λ i. if is_null result then Some (spec.shutdown_result i) else option_and_then (announced i)
    (announced_of result)) id

abbrev refused : Option IdData → Data → Option OutgoingData
refused id error =
    option_map (spec.error_reply id) (option_and_then error_named (text_in (get (codes "message") error)))

abbrev replied : Option IdData → Option Data → Option Data → Option OutgoingData
replied id (Some error) result = refused id error
replied id None result = option_and_then (answered id) result

abbrev written_by : Option (List ℕ) → Data → Option OutgoingData
written_by (Some m) d = called m (get (codes "params") d)
written_by None d = replied (id_found (get (codes "id") d)) (get (codes "error") d) (get (codes "result") d)

abbrev written_as : Data → Option OutgoingData
written_as d = written_by (text_in (get (codes "method") d)) d

error_named-text : (e : ErrorCode) → error_named (spec.error_message e) ≡ Some e
error_named-text ParseError = refl
error_named-text _ = refl

written_as-value_of : (m : OutgoingData) → IsProper m → written_as (values.value_of m) ≡ Some m
written_as-value_of (spec.initialize offers) h =
    ap (option_map spec.initialize) (offers_of-initialize_params offers.utf8 offers.utf32)
written_as-value_of (spec.did_open p) h = ap (option_map spec.did_open) (open_of-open_params p h)
written_as-value_of (spec.did_change p) h = ap (option_map spec.did_change) (change_of-change_params p h)
written_as-value_of (spec.initialize_result id encoding kind) h =
    rw (id_in-id_value id h) (ap (option_and_then (announced id)) (announced_of-initialize_value encoding kind))
written_as-value_of (spec.shutdown_result id) h = rw (id_in-id_value id h) refl
written_as-value_of (spec.error_reply id error) h = grind (arith, common_steps, id_found-id_or_null, error_named-text)
written_as-value_of _ h = refl

-- two messages with one text are one message
pub body_of-unique : (m n : OutgoingData) → IsProper m → IsProper n → spec.body_of m ≡ spec.body_of n → m ≡ n
body_of-unique m n h k same =
    let same_values : values.value_of m ≡ values.value_of n =
    same_Some _ _ (sym (read-body_of m h) ∙ ap read same ∙ read-body_of n k) in
    same_Some _ _ (sym (written_as-value_of m h) ∙ ap written_as same_values ∙ written_as-value_of n k)

-- what holds of the body of each message
pub ruleset written_laws = (reading-body_of, is_read_back)
