-- What a server answers, and how it is sent (LSP 3.17, Base Protocol).
use Rattle.lsp_server.specs.Prelude.{ℕ, List, Option, Some, None, ⊤, ErrorCode, OutgoingData, error_reply, body_of, Refusal}
use Rattle.lsp_frame.specs.Frame.{frame}
use Rattle.lsp_server.specs.declared.answer.Refusal.TheVariants.{InvalidParams}

-- What a server answers: a reply, or the outcome of a notification or of a response. The documents
-- changed; it came in the wrong phase; the server doesn't handle it; it is refused; or the session
-- ends with an exit status. An ended server has no answer.
pub data AnswerData (Reply : Type 0) : Type 0 where
  reply : Reply → AnswerData Reply
  changed dropped ignored already_ended : AnswerData Reply
  refused : Refusal → AnswerData Reply
  exits : ℕ → AnswerData Reply

-- A reply is sent as a frame. An error response has a code.
pub record Sent : Type 0 where
  pub frame : List ℕ
  pub code : Option ErrorCode

-- The code of a reply, if it is an error response.
abbrev pub reply_code : OutgoingData → Option ErrorCode
reply_code (error_reply id error) = Some error
reply_code m = None

-- A reply as it is sent.
abbrev pub sent_reply : OutgoingData → Sent
sent_reply m = record { frame = frame (body_of m); code = reply_code m }

-- An answer, with its reply as it is sent.
abbrev pub as_sent : AnswerData OutgoingData → AnswerData Sent
as_sent (reply m) = reply (sent_reply m)
as_sent changed = changed
as_sent dropped = dropped
as_sent ignored = ignored
as_sent already_ended = already_ended
as_sent (refused refusal) = refused refusal
as_sent (exits status) = exits status

-- An answer that takes no memory: there is no reply, and the store isn't called. (An ended server's
-- isn't one: the call returns a fault.)
abbrev pub NeverAllocates : {Reply : Type 0} → AnswerData Reply → Type 0
NeverAllocates dropped = ⊤
NeverAllocates ignored = ⊤
NeverAllocates (exits status) = ⊤
NeverAllocates (refused InvalidParams) = ⊤
NeverAllocates answer = ⊥
