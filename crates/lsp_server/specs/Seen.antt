-- The types of `src/` as the definitions see them.
use Rattle.lsp_server.specs.Prelude.{IsSome, ⊤, Answer, Reply, Changed, Dropped, Ignored, Refused}
pub use Rattle.lsp_message.specs.Seen.{incoming_view}
use Rattle.lsp_server.specs.declared.answer.Answer.TheVariants as answer
use Rattle.lsp_server.specs.Answer.{AnswerData, reply, changed, dropped, ignored, refused, exits, Sent}

-- An answer, with its frame as bytes.
abbrev pub answer_view : Answer → AnswerData Sent
answer_view (Reply frame code) = reply (record { frame = frame.items; code = code })
answer_view Changed = changed
answer_view Dropped = dropped
answer_view Ignored = ignored
answer_view (Refused refusal) = refused refusal
answer_view (answer.Exit status) = exits status

-- An answer to a message that isn't obeyed: an error response, or the notification is dropped,
-- ignored or refused.
abbrev pub IsRefusing : Answer → Type 0
IsRefusing (Reply frame code) = IsSome code
IsRefusing Changed = ⊥
IsRefusing (answer.Exit status) = ⊥
IsRefusing a = ⊤
