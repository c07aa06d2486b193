-- Laws of messages: each row of the table of messages by itself, and which members are read.
use Rattle.std.specs.Prelude.{◌≡◌, ◌↔◌, ◌∷◌}
use Rattle.lsp_message.specs.Prelude.{ℕ, true, false, List, [], Option, Some, None, codes, ⊤, Num, Data, null, number, object, Items, Members, get_member, as_object, as_str, as_i64}
use Rattle.serde_json.specs.Data.{string}
use Rattle.lsp_message.specs.Values.{text_in, is_null, is_missing}
use Rattle.lsp_message.specs.Message.{IdData, whole, text, given, failed, request, notification, response, not_a_message, message, id_in, id_found, message_of}
use Rattle.lsp_message.specs.Params.{open_by, change_by, close_by, content_change_by}

-- The member `jsonrpc`, if there is one.
abbrev pub version_of : Members → Option Data
version_of ms = get_member (codes "jsonrpc") ms

-- The member `method`, if there is one.
abbrev pub method_of : Members → Option Data
method_of ms = get_member (codes "method") ms

-- The member `id`, if there is one.
abbrev pub id_of : Members → Option Data
id_of ms = get_member (codes "id") ms

-- The member `params`, if there is one.
abbrev pub params_of : Members → Option Data
params_of ms = get_member (codes "params") ms

-- The member `error`, if there is one.
abbrev pub error_of : Members → Option Data
error_of ms = get_member (codes "error") ms

-- The member `result`, if there is one.
abbrev pub result_of : Members → Option Data
result_of ms = get_member (codes "result") ms

-- An object names version 2.0 of JSON-RPC.
abbrev pub IsTwo : Members → Type 0
IsTwo ms = text_in (version_of ms) ≡ Some (codes "2.0")

-- A response's member `id` is this id, or null for none.
abbrev pub NamesRequest : Option Data → Option IdData → Type 0
NamesRequest id None = id ≡ Some null
NamesRequest id (Some named) = id_found id ≡ Some named

-- Values and objects that are no message, whatever else they contain.
pub record RefusedRows : Type 0 where
  -- no object
  pub no_object : (value : Data) → as_object value ≡ None → message_of value ≡ not_a_message None
  -- another version, or none
  pub version : (ms : Members) → (IsTwo ms → ⊥) →
      message_of (object ms) ≡ not_a_message (id_found (id_of ms))
  -- a method that is no string
  pub method :
      (ms : Members) (method : Data) → IsTwo ms → method_of ms ≡ Some method →
      as_str method ≡ None →
      message_of (object ms) ≡ not_a_message (id_found (id_of ms))
  -- a call with an id that is neither a whole number nor a string
  pub call_id :
      (ms : Members) (name : List ℕ) (id : Data) → IsTwo ms → text_in (method_of ms) ≡ Some name →
      id_of ms ≡ Some id → id_in id ≡ None → message_of (object ms) ≡ not_a_message None
  -- neither a method nor an id
  pub no_id : (ms : Members) → IsTwo ms → method_of ms ≡ None → id_of ms ≡ None →
      message_of (object ms) ≡ not_a_message None
  -- a response with an id that is neither null nor a whole number nor a string
  pub answer_id :
      (ms : Members) (id : Data) → IsTwo ms → method_of ms ≡ None → id_of ms ≡ Some id →
      is_null id ≡ false → id_in id ≡ None →
      message_of (object ms) ≡ not_a_message None
  -- a response with neither an error nor a result
  pub no_outcome :
      (ms : Members) (id : Option IdData) → IsTwo ms → method_of ms ≡ None →
      NamesRequest (id_of ms) id →
      is_missing (error_of ms) ≡ true → result_of ms ≡ None →
      message_of (object ms) ≡ not_a_message id

-- Objects that are a message, whatever else they contain.
pub record MessageRows : Type 0 where
  -- A method without an id is a notification.
  pub notifications :
      (ms : Members) (name : List ℕ) → IsTwo ms → text_in (method_of ms) ≡ Some name →
      id_of ms ≡ None →
      message_of (object ms) ≡ message (notification name (params_of ms))
  -- A method with an id is a request.
  pub requests :
      (ms : Members) (name : List ℕ) (id : IdData) → IsTwo ms → text_in (method_of ms) ≡ Some name →
      id_found (id_of ms) ≡ Some id →
      message_of (object ms) ≡ message (request id name (params_of ms))
  -- An error that isn't null is a failure, whatever the result is.
  pub failures :
      (ms : Members) (id : Option IdData) → IsTwo ms → method_of ms ≡ None →
      NamesRequest (id_of ms) id →
      is_missing (error_of ms) ≡ false → message_of (object ms) ≡ message (response id failed)
  -- A result that is null is a result too.
  pub results :
      (ms : Members) (id : Option IdData) (result : Data) → IsTwo ms → method_of ms ≡ None →
      NamesRequest (id_of ms) id →
      is_missing (error_of ms) ≡ true → result_of ms ≡ Some result →
      message_of (object ms) ≡ message (response id (given result))

-- A value is this id: a number in the range of `i64` that is written without a fraction and an
-- exponent, or a string.
abbrev pub IsIdOf : IdData → Data → Type 0
IsIdOf (whole z) value = (n : Num) × (value ≡ number n) × (as_i64 n ≡ Some z)
IsIdOf (text s) value = value ≡ string s

-- The values that are an id are these alone.
abbrev pub IdLaw : Type 0
IdLaw = (value : Data) (id : IdData) → (id_in value ≡ Some id) ↔ IsIdOf id value

-- A notification has no member `id`.
abbrev pub NotificationLaw : Type 0
NotificationLaw =
    (ms : Members) (name : List ℕ) (params : Option Data) →
    message_of (object ms) ≡ message (notification name params) → id_of ms ≡ None

-- The id of a refused object is its own.
abbrev pub RefusalLaw : Type 0
RefusalLaw = (ms : Members) (id : IdData) → message_of (object ms) ≡ not_a_message (Some id) →
    id_found (id_of ms) ≡ Some id

-- Both objects have the same member of each of these names, or none.
abbrev pub AgreeOn : List (List ℕ) → Members → Members → Type 0
AgreeOn [] ms others = ⊤
AgreeOn (name ∷ names) ms others = (get_member name ms ≡ get_member name others)
    × AgreeOn names ms others

-- The names of the members of a message.
abbrev pub message_names : List (List ℕ)
message_names = codes "jsonrpc" ∷ codes "method" ∷ codes "id" ∷ codes "params" ∷ codes "error"
    ∷ codes "result" ∷ []

-- The names of the members of an opened document.
abbrev pub open_names : List (List ℕ)
open_names = codes "uri" ∷ codes "languageId" ∷ codes "version" ∷ codes "text" ∷ []

-- Members that aren't named are ignored, in messages and in the parameters of the document
-- messages.
pub record NamedLaw : Type 0 where
  pub messages : (ms others : Members) → AgreeOn message_names ms others →
      message_of (object ms) ≡ message_of (object others)
  pub opened : (ms others : Members) → AgreeOn open_names ms others → open_by ms ≡ open_by others
  pub changed :
      (ms others : Members) (changes : Items) →
      AgreeOn (codes "uri" ∷ codes "version" ∷ []) ms others →
      change_by ms changes ≡ change_by others changes
  pub closed : (ms others : Members) → AgreeOn (codes "uri" ∷ []) ms others →
      close_by ms ≡ close_by others
  pub edits : (ms others : Members) → AgreeOn (codes "text" ∷ codes "range" ∷ []) ms others →
      content_change_by ms ≡ content_change_by others
