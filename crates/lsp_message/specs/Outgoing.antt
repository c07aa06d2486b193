-- The messages that are written, and the body of each (LSP 3.17, Initialize, Initialized, Shutdown,
-- Exit, DidOpen, DidChange, DidClose): JSON without spaces, with members in the order of their
-- names' bytes.
use Rattle.std.specs.Prelude.{◌∷◌, ◌++◌}
use Rattle.lsp_message.specs.Prelude.{ℕ, ℤ, negsuc, List, [], filter, Option, Some, None, codes, decimal, join_by, Encoding, Utf8, Utf16, Utf32, Position, Range, name_of, Offers, SyncKind, Off, Full, Incremental, ErrorCode}
use Rattle.std.specs.Fmt.{signed_decimal}
use Rattle.json.specs.Print.{quoted}
use Rattle.lsp_message.specs.declared.outgoing.ErrorCode.TheVariants.{ParseError, InvalidRequest, MethodNotFound, InvalidParams, ServerNotInitialized}
use Rattle.lsp_message.specs.Agreement.{is_offered}
use Rattle.lsp_message.specs.Message.{IdData, whole, text}
use Rattle.lsp_message.specs.Params.{DocumentItem, ContentChangeData, ChangeData, CloseData}

-- A client's message (the first seven), or a reply: `error_reply` is also a client's, to a request.
pub data OutgoingData : Type 0 where
  initialize : Offers → OutgoingData
  initialized : OutgoingData
  did_open : DocumentItem → OutgoingData
  did_change : ChangeData → OutgoingData
  did_close : CloseData → OutgoingData
  shutdown : OutgoingData
  exit : OutgoingData
  initialize_result : IdData → Encoding → SyncKind → OutgoingData
  shutdown_result : IdData → OutgoingData
  error_reply : Option IdData → ErrorCode → OutgoingData

-- ---- the errors of a reply

-- The number of an error (LSP 3.17, ErrorCodes).
abbrev pub code_of : ErrorCode → ℤ
code_of ParseError = negsuc 32699
code_of InvalidRequest = negsuc 32599
code_of MethodNotFound = negsuc 32600
code_of InvalidParams = negsuc 32601
code_of ServerNotInitialized = negsuc 32001

-- The `message` of an error response.
abbrev pub error_message : ErrorCode → List ℕ
error_message ParseError = codes "parse error"
error_message InvalidRequest = codes "invalid request"
error_message MethodNotFound = codes "method not found"
error_message InvalidParams = codes "invalid params"
error_message ServerNotInitialized = codes "server not initialized"

-- ---- parts of a body; `quoted` is a string of JSON

-- The object of an error response, as it is written.
abbrev pub error_text : ErrorCode → List ℕ
error_text e =
    codes "{\"code\":" ++ signed_decimal (code_of e) ++ codes ",\"message\":"
    ++ quoted (error_message e) ++ codes "}"

-- An id, or null.
abbrev pub id_text : Option IdData → List ℕ
id_text None = codes "null"
id_text (Some (whole n)) = signed_decimal n
id_text (Some (text s)) = quoted s

-- The names of the encodings that are offered, in the order utf-8, utf-16, utf-32.
abbrev pub offers_text : Offers → List ℕ
offers_text offers =
    let offered = filter (is_offered offers) (Utf8 ∷ Utf16 ∷ Utf32 ∷ []) in
    join_by (λ encoding. quoted (name_of encoding)) (codes ",") offered

-- The number of a kind of synchronisation (TextDocumentSyncKind).
abbrev pub kind_number : SyncKind → ℕ
kind_number Off = 0
kind_number Full = 1
kind_number Incremental = 2

-- A `TextDocumentItem`.
abbrev pub document_text : DocumentItem → List ℕ
document_text p =
    codes "{\"languageId\":" ++ quoted p.language ++ codes ",\"text\":" ++ quoted p.text
    ++ codes ",\"uri\":" ++ quoted p.uri ++ codes ",\"version\":" ++ signed_decimal p.version
    ++ codes "}"

-- A `Position`.
abbrev pub position_text : Position → List ℕ
position_text p =
    codes "{\"character\":" ++ decimal p.character ++ codes ",\"line\":" ++ decimal p.line
    ++ codes "}"

-- A `Range`.
abbrev pub range_text : Range → List ℕ
range_text r =
    codes "{\"end\":" ++ position_text r.stop ++ codes ",\"start\":" ++ position_text r.start
    ++ codes "}"

-- The member `range`, where a change has one.
abbrev pub range_if_any : Option Range → List ℕ
range_if_any None = []
range_if_any (Some r) = codes "\"range\":" ++ range_text r ++ codes ","

-- A `TextDocumentContentChangeEvent`.
abbrev pub content_change_text : ContentChangeData → List ℕ
content_change_text e = codes "{" ++ range_if_any e.range ++ codes "\"text\":" ++ quoted e.text ++ codes "}"

-- ---- bodies

-- A notification with this method, whose characters need no escape, and these params.
abbrev pub notification_text : List ℕ → List ℕ → List ℕ
notification_text method params =
    codes "{\"jsonrpc\":\"2.0\",\"method\":\"" ++ method ++ codes "\",\"params\":" ++ params
    ++ codes "}"

-- A response with this id and result.
abbrev pub result_text : IdData → List ℕ → List ℕ
result_text id result =
    codes "{\"id\":" ++ id_text (Some id) ++ codes ",\"jsonrpc\":\"2.0\",\"result\":" ++ result
    ++ codes "}"

-- The body of a message.
abbrev pub body_of : OutgoingData → List ℕ
body_of (initialize offers) =
    codes "{\"id\":1,\"jsonrpc\":\"2.0\",\"method\":\"initialize\",\"params\":{\"capabilities\":"
    ++ codes "{\"general\":{\"positionEncodings\":[" ++ offers_text offers
    ++ codes "]}},\"processId\":null,\"rootUri\":null}}"
body_of initialized = notification_text (codes "initialized") (codes "{}")
body_of (did_open p) =
    notification_text (codes "textDocument/didOpen")
    (codes "{\"textDocument\":" ++ document_text p ++ codes "}")
body_of (did_change p) =
    notification_text (codes "textDocument/didChange")
    (codes "{\"contentChanges\":[" ++ join_by content_change_text (codes ",") p.changes
    ++ codes "],\"textDocument\":{\"uri\":" ++ quoted p.uri ++ codes ",\"version\":"
    ++ signed_decimal p.version ++ codes "}}")
body_of (did_close p) =
    notification_text (codes "textDocument/didClose")
    (codes "{\"textDocument\":{\"uri\":" ++ quoted p.uri ++ codes "}}")
body_of shutdown = codes "{\"id\":2,\"jsonrpc\":\"2.0\",\"method\":\"shutdown\"}"
body_of exit = codes "{\"jsonrpc\":\"2.0\",\"method\":\"exit\"}"
body_of (initialize_result id encoding kind) =
    result_text id (codes "{\"capabilities\":{\"positionEncoding\":" ++ quoted (name_of encoding)
    ++ codes ",\"textDocumentSync\":{\"change\":" ++ decimal (kind_number kind)
    ++ codes ",\"openClose\":true}}}")
body_of (shutdown_result id) = result_text id (codes "null")
body_of (error_reply id error) =
    codes "{\"error\":" ++ error_text error ++ codes ",\"id\":" ++ id_text id
    ++ codes ",\"jsonrpc\":\"2.0\"}"
