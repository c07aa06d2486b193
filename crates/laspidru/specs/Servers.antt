-- A server that C asks for, and the answer that C gets.
use Rattle.std.specs.Prelude.{if◌then◌else◌}
use Rattle.laspidru.specs.Prelude.{ℕ, ℤ, pos, nat_eq, Bool, List, [], length, option_map, Option, Some, None, Result, Ok, LimitsData, first_out_of_range, code_of, StoreFault, AnswerData, Sent, reply, changed, dropped, already_ended, refused, new_server, Answer, ALREADY_OPEN, BAD_MAX_BODY, BAD_MAX_CHANGES, BAD_MAX_DOCS, BAD_MAX_TEXT, CHANGED, DROPPED, EXITED, IGNORED, INSIDE_CHARACTER, INVALID_PARAMS, NOT_OPEN, OUT_OF_MEMORY, REFUSED, REPLIED, REVERSED_RANGE, STALE_VERSION, TOO_LONG, TOO_MANY_CHANGES, TOO_MANY_DOCUMENTS, Server, and_then, unless, EndData, stream_of}
use Rattle.lsp_edit.specs.declared.fault.EditFault.TheVariants as edit
use Rattle.lsp_message.specs.declared.outgoing.ErrorCode.{ErrorCode}
use Rattle.lsp_store.specs.declared.fault.StoreFault.TheVariants as store
use Rattle.lsp_server.specs.declared.answer.Refusal.{Refusal}
use Rattle.lsp_server.specs.declared.answer.Refusal.TheVariants as refusal
use Rattle.lsp_server.specs.declared.config.Config.{Config}
use Rattle.lsp_server.specs.declared.config.EncodingChoice.TheVariants.{Fixed, Negotiated}
use Rattle.lsp_server.specs.declared.config.ChangeForm.TheVariants.{Incremental, Full}
use Rattle.lsp_server.specs.Answer.{ignored, exits}
use Rattle.laspidru.specs.declared.answers.Settings.{Settings}
use Rattle.laspidru.specs.Objects.{encoding_at}

-- ---- how a server is set up

-- The code of a limit that is out of its range, by its number from 1.
abbrev pub limit_code : ℕ → ℕ
limit_code which =
    if nat_eq which 1 then BAD_MAX_BODY
    else if nat_eq which 2 then BAD_MAX_TEXT
    else if nat_eq which 3 then BAD_MAX_DOCS
    else BAD_MAX_CHANGES

-- Limits as C passes them, if each is in its range; else the code of the first that isn't.
abbrev pub limits_asked : (max_body max_text max_docs max_changes : ℕ) → Bool → Result LimitsData ℕ
limits_asked max_body max_text max_docs max_changes lenient =
    let bounds : LimitsData = record {
      max_body = max_body;
      max_text = max_text;
      max_docs = max_docs;
      max_changes = max_changes;
      lenient = lenient;
    } in unless (option_map limit_code (first_out_of_range bounds)) (Ok bounds)

-- The set-up of a server, if the encoding is known and each limit is in its range. The encoding is
-- fixed or preferred (LSP 3.17, PositionEncodingKind, TextDocumentSyncKind).
abbrev pub config_asked : Settings → Result Config ℕ
config_asked settings = and_then (encoding_at settings.encoding) (λ encoding.
    and_then (limits_asked settings.max_body settings.max_text settings.max_docs
    settings.max_changes settings.lenient) (λ limits. Ok (record {
      limits = limits;
      choice = if settings.is_fixed then Fixed encoding else Negotiated encoding;
      sync = if settings.whole_texts then Full else Incremental;
    })))

-- ---- the answer that C gets

-- The number of an error reply; 0 of a result.
abbrev pub error_number : Option ErrorCode → ℤ
error_number (Some code) = code_of code
error_number None = pos 0

-- The code for why the documents refuse a command.
abbrev pub store_code : StoreFault → ℕ
store_code store.AlreadyOpen = ALREADY_OPEN
store_code store.TooManyDocuments = TOO_MANY_DOCUMENTS
store_code store.TextTooLong = TOO_LONG
store_code store.NotOpen = NOT_OPEN
store_code (store.StaleVersion current) = STALE_VERSION
store_code store.TooManyChanges = TOO_MANY_CHANGES
store_code (store.Edit (edit.InsideCharacter change side)) = INSIDE_CHARACTER
store_code (store.Edit (edit.ReversedRange change)) = REVERSED_RANGE
store_code (store.Edit edit.NoMemory) = OUT_OF_MEMORY
store_code (store.BodyTooLong len) = TOO_LONG
store_code store.NoMemory = OUT_OF_MEMORY

-- The code for why a notification is refused.
abbrev pub refusal_code : Refusal → ℕ
refusal_code refusal.InvalidParams = INVALID_PARAMS
refusal_code (refusal.Store fault) = store_code fault

-- An answer with only a kind.
abbrev pub plain_out : ℕ → Answer
plain_out kind = record { kind = kind; reason = 0; status = 0; error = pos 0; reply_len = 0 }

-- An answer as C gets it. After the end of a session there is none.
abbrev pub answer_out : AnswerData Sent → Answer
answer_out (reply sent) =
    record (plain_out REPLIED) { error = error_number sent.code; reply_len = length sent.frame }
answer_out changed = plain_out CHANGED
answer_out dropped = plain_out DROPPED
answer_out ignored = plain_out IGNORED
answer_out already_ended = plain_out IGNORED
answer_out (refused why) = record (plain_out REFUSED) { reason = refusal_code why }
answer_out (exits status) = record (plain_out EXITED) { status = status }

-- The bytes of a reply; none of another answer.
abbrev pub reply_out : AnswerData Sent → List ℕ
reply_out (reply sent) = sent.frame
reply_out other = []

-- ---- the end

-- A new server, which has replied nothing.
abbrev pub server_end : Config → EndData
server_end config =
    record { party = Server (new_server config); frame = []; stream = stream_of config.limits }
