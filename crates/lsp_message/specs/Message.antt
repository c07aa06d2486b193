-- Which message a body is (LSP 3.17, Base Protocol: Abstract Message, Request Message, Response
-- Message, Notification Message).
use Rattle.std.specs.Prelude.{if◌then◌else◌}
use Rattle.lsp_message.specs.Prelude.{ℕ, ℤ, Bool, false, List, Option, Some, None, option_map, option_and_then, codes, option_map_or, is_utf8, bytes_eq, Data, null, number, get, as_i64, read}
use Rattle.serde_json.specs.Data.{string}
use Rattle.lsp_message.specs.Values.{◌>>=◌, text_in, is_missing}

-- The id of a request, and of the response to it: a whole number of 64 bits (the protocol's have
-- 32), or a text.
pub data IdData : Type 0 where
  whole : ℤ → IdData
  text : List ℕ → IdData

-- The outcome of a request: a result, or an error.
pub data OutcomeData : Type 0 where
  given : Data → OutcomeData
  failed : OutcomeData

-- A request has an id, a method and params; a notification a method and params; a response an id,
-- or null, and an outcome. Params are of any type (LSP 3.17: an array or an object).
pub data MessageData : Type 0 where
  request : IdData → List ℕ → Option Data → MessageData
  notification : List ℕ → Option Data → MessageData
  response : Option IdData → OutcomeData → MessageData

-- What a body is read as. JSON that is no message may still have an id, which a reply can name.
pub data Reading : Type 0 where
  not_json : Reading
  not_a_message : Option IdData → Reading
  message : MessageData → Reading

-- The id that a value is: a whole number of 64 bits (the protocol's have 32), or a string.
abbrev pub id_in : Data → Option IdData
id_in (number n) = option_map whole (as_i64 n)
id_in (string s) = Some (text s)
id_in other = None

-- The id that a member `id` is, if it is there.
abbrev pub id_found : Option Data → Option IdData
id_found id = option_and_then id_in id

-- Whether a message names version 2.0 of JSON-RPC.
abbrev pub is_version_two : Option Data → Bool
is_version_two version = option_map_or (λ s. bytes_eq s (codes "2.0")) (text_in version) false

-- The outcome of a response, if there is one. An error that isn't null is a failure, whatever the
-- result is.
abbrev pub outcome_in : Data → Option OutcomeData
outcome_in value = if is_missing (get (codes "error") value) then
    option_map given (get (codes "result") value) else Some failed

-- The message of version 2.0 that a value is, by its members `method` and `id`. The first row that
-- fits counts: a notification has a method and no id; a request has both; a response has an id
-- alone, which may be null. Anything else is no message.
abbrev pub message_by : Option Data → Option Data → Data → Option MessageData
message_by (Some (string method)) None value
    = Some (notification method (get (codes "params") value))
message_by (Some (string method)) id value = do
  found ← id_found id
  Some (request found method (get (codes "params") value))
message_by None (Some null) value = option_map (response None) (outcome_in value)
message_by None id value = do
  found ← id_found id
  option_map (response (Some found)) (outcome_in value)
message_by other id value = None

-- The message that a value is, if it is one.
abbrev pub message_in : Data → Option MessageData
message_in value = if is_version_two (get (codes "jsonrpc") value) then
    message_by (get (codes "method") value) (get (codes "id") value) value else None

-- What a JSON value is read as. One that is no message still has the id that is found.
abbrev pub message_of : Data → Reading
message_of value = option_map_or message (message_in value)
    (not_a_message (id_found (get (codes "id") value)))

-- The JSON value of a body; none where its bytes are not UTF-8 or `serde_json` refuses them.
abbrev pub json_of : List ℕ → Option Data
json_of body = if is_utf8 body then read body else None

-- What a body is read as: no JSON, JSON that is no message, or a message.
abbrev pub reading : List ℕ → Reading
reading body = option_map_or message_of (json_of body) not_json
