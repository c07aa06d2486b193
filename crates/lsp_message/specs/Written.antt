-- The JSON value of each message that is written. A body is the compact text of that value.
use Rattle.std.specs.Prelude.{◌∷◌}
use Rattle.lsp_message.specs.Prelude.{ℕ, ℤ, true, List, [], map, filter, Option, Some, None, codes, Data, null, boolean, number, unsigned, array, object, Members, no_members, member, of_integer, items_of, Encoding, Utf8, Utf16, Utf32, Position, Range, name_of, Offers, SyncKind, ErrorCode}
use Rattle.serde_json.specs.Data.{string}
use Rattle.lsp_message.specs.Agreement.{is_offered}
use Rattle.lsp_message.specs.Message.{IdData, whole, text}
use Rattle.lsp_message.specs.Params.{DocumentItem, ContentChangeData, ChangeData, CloseData}
use Rattle.lsp_message.specs.Outgoing.{OutgoingData, initialize, initialized, did_open, did_change, did_close, shutdown, exit, initialize_result, shutdown_result, error_reply, code_of, error_message, kind_number}

-- The member `error` of an error response.
abbrev pub error_value : ErrorCode → Data
error_value error
    = object (member (codes "code") (number (of_integer (code_of error)))
    (member (codes "message") (string (error_message error)) no_members))

-- ---- envelopes

-- An id as JSON.
abbrev pub id_value : IdData → Data
id_value (whole n) = number (of_integer n)
id_value (text s) = string s

-- An id as JSON; no id is null.
abbrev pub id_or_null : Option IdData → Data
id_or_null None = null
id_or_null (Some id) = id_value id

-- The member `params`, where there are params.
abbrev pub params_member : Option Data → Members
params_member None = no_members
params_member (Some params) = member (codes "params") params no_members

-- The members of a call, apart from its id.
abbrev pub call_members : List ℕ → Option Data → Members
call_members method params
    = member (codes "jsonrpc") (string (codes "2.0"))
    (member (codes "method") (string method) (params_member params))

-- A request with this id, method and params.
abbrev pub request_value : ℕ → List ℕ → Option Data → Data
request_value id method params
    = object (member (codes "id") (number (unsigned id)) (call_members method params))

-- A notification with this method and params.
abbrev pub notification_value : List ℕ → Option Data → Data
notification_value method params = object (call_members method params)

-- A response with this id and result.
abbrev pub result_value : IdData → Data → Data
result_value id result
    = object (member (codes "id") (id_value id)
    (member (codes "jsonrpc") (string (codes "2.0")) (member (codes "result") result no_members)))

-- An error response, whose id may be null.
abbrev pub error_reply_value : Option IdData → ErrorCode → Data
error_reply_value id error
    = object (member (codes "error") (error_value error)
    (member (codes "id") (id_or_null id)
    (member (codes "jsonrpc") (string (codes "2.0")) no_members)))

-- ---- params and results

-- The names of the encodings that are offered, in the order utf-8, utf-16, utf-32.
abbrev pub names_of : Offers → List Data
names_of offers
    = map (λ encoding. string (name_of encoding))
    (filter (is_offered offers) (Utf8 ∷ Utf16 ∷ Utf32 ∷ []))

-- The client's `general` capabilities: the encodings that it offers.
abbrev pub general_value : Offers → Data
general_value offers
    = object (member (codes "positionEncodings") (array (items_of (names_of offers))) no_members)

-- The client's `capabilities`.
abbrev pub capabilities_value : Offers → Data
capabilities_value offers = object (member (codes "general") (general_value offers) no_members)

-- The params of `initialize`. The process id and the root URI are null.
abbrev pub initialize_params : Offers → Data
initialize_params offers
    = object (member (codes "capabilities") (capabilities_value offers)
    (member (codes "processId") null (member (codes "rootUri") null no_members)))

-- A `TextDocumentItem`.
abbrev pub opened_document : DocumentItem → Data
opened_document p =
    object (member (codes "languageId") (string p.language) (member (codes "text") (string p.text)
    (member (codes "uri") (string p.uri)
    (member (codes "version") (number (of_integer p.version)) no_members))))

-- The params of `textDocument/didOpen`.
abbrev pub open_params : DocumentItem → Data
open_params p = object (member (codes "textDocument") (opened_document p) no_members)

-- A `Position`.
abbrev pub position_value : Position → Data
position_value p
    = object (member (codes "character") (number (unsigned p.character))
    (member (codes "line") (number (unsigned p.line)) no_members))

-- A `Range`.
abbrev pub range_value : Range → Data
range_value r
    = object (member (codes "end") (position_value r.stop)
    (member (codes "start") (position_value r.start) no_members))

-- The member `range` before the others, where a change has one.
abbrev pub range_before : Option Range → Members → Members
range_before None rest = rest
range_before (Some r) rest = member (codes "range") (range_value r) rest

-- A `TextDocumentContentChangeEvent`.
abbrev pub content_change_value : ContentChangeData → Data
content_change_value e = object (range_before e.range (member (codes "text") (string e.text) no_members))

-- A `VersionedTextDocumentIdentifier`.
abbrev pub versioned_document : List ℕ → ℤ → Data
versioned_document uri version
    = object (member (codes "uri") (string uri)
    (member (codes "version") (number (of_integer version)) no_members))

-- The params of `textDocument/didChange`.
abbrev pub change_params : ChangeData → Data
change_params p
    = object (member (codes "contentChanges") (array (items_of (map content_change_value p.changes)))
    (member (codes "textDocument") (versioned_document p.uri p.version) no_members))

-- A `TextDocumentIdentifier`.
abbrev pub closed_document : List ℕ → Data
closed_document uri = object (member (codes "uri") (string uri) no_members)

-- The params of `textDocument/didClose`.
abbrev pub close_params : CloseData → Data
close_params p = object (member (codes "textDocument") (closed_document p.uri) no_members)

-- The server's `textDocumentSync`: documents that open and close are notified, and changes in this
-- way.
abbrev pub sync_value : SyncKind → Data
sync_value kind
    = object (member (codes "change") (number (unsigned (kind_number kind)))
    (member (codes "openClose") (boolean true) no_members))

-- The server's `capabilities`.
abbrev pub announced_value : Encoding → SyncKind → Data
announced_value encoding kind
    = object (member (codes "positionEncoding") (string (name_of encoding))
    (member (codes "textDocumentSync") (sync_value kind) no_members))

-- The result of `initialize`.
abbrev pub initialize_value : Encoding → SyncKind → Data
initialize_value encoding kind
    = object (member (codes "capabilities") (announced_value encoding kind) no_members)

-- ---- each message

-- The JSON value of a message.
abbrev pub value_of : OutgoingData → Data
value_of (initialize offers)
    = request_value 1 (codes "initialize") (Some (initialize_params offers))
value_of initialized = notification_value (codes "initialized") (Some (object no_members))
value_of (did_open p) = notification_value (codes "textDocument/didOpen") (Some (open_params p))
value_of (did_change p)
    = notification_value (codes "textDocument/didChange") (Some (change_params p))
value_of (did_close p) = notification_value (codes "textDocument/didClose") (Some (close_params p))
value_of shutdown = request_value 2 (codes "shutdown") None
value_of exit = notification_value (codes "exit") None
value_of (initialize_result id encoding kind) = result_value id (initialize_value encoding kind)
value_of (shutdown_result id) = result_value id null
value_of (error_reply id error) = error_reply_value id error
