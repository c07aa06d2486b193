-- What the receiver reads a written message as.
use Rattle.lsp_message.specs.Prelude.{true, pos, Some, None, ⊤, codes, FitsSigned, All, IfSome, null, object, no_members, Position, Range}
use Rattle.std.specs.Prelude.{IsUtf8, ◌≡◌, ◌^◌, ◌<◌}
use Rattle.std.specs.Int.{w32, w64}
use Rattle.lsp_message.specs.Agreement.{offers_of, announced_of}
use Rattle.lsp_message.specs.Message.{IdData, whole, text, given, failed, MessageData, request, notification, response, message, reading}
use Rattle.lsp_message.specs.Outgoing.{OutgoingData, body_of, initialize, initialized, did_open, did_change, did_close, shutdown, exit, initialize_result, shutdown_result, error_reply}
use Rattle.lsp_message.specs.Written.{initialize_params, open_params, change_params, close_params, initialize_value}
use Rattle.lsp_message.specs.Params.{DocumentItem, ContentChangeData, ChangeData, open_of, change_of, close_of}

-- ---- messages as the types hold them: numbers in their ranges, and texts in UTF-8

-- A number of an id is in the range of `i64`, and its text is UTF-8.
abbrev pub IsProperId : IdData → Type 0
IsProperId (whole n) = FitsSigned w64 n
IsProperId (text s) = IsUtf8 s

-- The version is in the range of `i32`, and the texts are UTF-8.
pub record IsProperDocument (p : DocumentItem) : Type 0 where
  pub uri : IsUtf8 p.uri
  pub language : IsUtf8 p.language
  pub version : FitsSigned w32 p.version
  pub text : IsUtf8 p.text

-- Line and character are in the range of `u32`.
pub record IsProperPosition (p : Position) : Type 0 where
  pub line : p.line < 2 ^ 32
  pub character : p.character < 2 ^ 32

-- Both ends of the range are such positions.
pub record IsProperRange (r : Range) : Type 0 where
  pub start : IsProperPosition r.start
  pub stop : IsProperPosition r.stop

-- The range, if there is one, is such a range, and the text is UTF-8.
pub record IsProperEdit (e : ContentChangeData) : Type 0 where
  pub range : IfSome e.range IsProperRange
  pub text : IsUtf8 e.text

-- The version is in the range of `i32`, the URI is UTF-8, and each change is such a change.
pub record IsProperChange (p : ChangeData) : Type 0 where
  pub uri : IsUtf8 p.uri
  pub version : FitsSigned w32 p.version
  pub changes : All IsProperEdit p.changes

-- A message as the type `Outgoing` contains it: numbers in their ranges, and texts in UTF-8.
abbrev pub IsProper : OutgoingData → Type 0
IsProper (did_open p) = IsProperDocument p
IsProper (did_change p) = IsProperChange p
IsProper (did_close p) = IsUtf8 p.uri
IsProper (initialize_result id encoding kind) = IsProperId id
IsProper (shutdown_result id) = IsProperId id
IsProper (error_reply id error) = IfSome id IsProperId
IsProper other = ⊤

-- ---- what is read

-- The message that the receiver reads. It reads an error response as a failure with its id.
abbrev pub sent : OutgoingData → MessageData
sent (initialize offers)
    = request (whole (pos 1)) (codes "initialize") (Some (initialize_params offers))
sent initialized = notification (codes "initialized") (Some (object no_members))
sent (did_open p) = notification (codes "textDocument/didOpen") (Some (open_params p))
sent (did_change p) = notification (codes "textDocument/didChange") (Some (change_params p))
sent (did_close p) = notification (codes "textDocument/didClose") (Some (close_params p))
sent shutdown = request (whole (pos 2)) (codes "shutdown") None
sent exit = notification (codes "exit") None
sent (initialize_result id encoding kind)
    = response (Some id) (given (initialize_value encoding kind))
sent (shutdown_result id) = response (Some id) (given null)
sent (error_reply id error) = response id failed

-- The receiver reads a message's body as that message.
abbrev pub IsReadAsSent : OutgoingData → Type 0
IsReadAsSent m = reading (body_of m) ≡ message (sent m)

-- The receiver reads the typed parameters, or the result, that were written.
abbrev pub IsReadBack : OutgoingData → Type 0
IsReadBack (initialize offers) = offers_of (Some (initialize_params offers)) ≡ Some offers
IsReadBack (did_open p) = open_of (Some (open_params p)) ≡ Some p
IsReadBack (did_change p) = change_of (Some (change_params p)) ≡ Some p
IsReadBack (did_close p) = close_of (Some (close_params p)) ≡ Some p
IsReadBack (initialize_result id encoding kind) = announced_of (initialize_value encoding kind)
    ≡ Some (record { open_close = true; kind = kind; encoding = Some encoding })
IsReadBack other = ⊤
