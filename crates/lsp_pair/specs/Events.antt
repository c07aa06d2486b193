-- How both ends are set up, what may happen to them, and what they answer.
use Rattle.std.specs.Prelude.{◌∷◌}
use Rattle.lsp_pair.specs.Prelude.{List, [], LimitsData, OutgoingData, AnswerData, reply_code, Call, DeliveredData, Did}
use Rattle.lsp_message.specs.declared.agreement.Offers.{Offers}
use Rattle.lsp_server.specs.declared.config.Config.{Config}
use Rattle.lsp_server.specs.Answer as answer
use Rattle.lsp_client.specs.Step as client
use Rattle.lsp_pair.specs.declared.event.Did.TheVariants as done
use Rattle.lsp_pair.specs.declared.event.Heard.{Heard}
use Rattle.lsp_pair.specs.declared.event.Heard.TheVariants as heard

-- The configuration of both ends.
pub record Setting : Type 0 where
  pub limits : LimitsData
  pub offers : Offers
  pub config : Config

-- What may happen: a call of the client, or the delivery of the first message for an end.
pub data EventData : Type 0 where
  calls : Call → EventData
  to_server to_client : EventData

-- An answer of the server without its message. (The last row is that of `dropped`. Nothing is
-- delivered to an ended server, so no answer of it comes here.)
abbrev pub did_of : AnswerData OutgoingData → Did
did_of (answer.reply m) = done.Reply (reply_code m)
did_of answer.changed = done.Changed
did_of answer.ignored = done.Ignored
did_of (answer.refused refusal) = done.Refused refusal
did_of (answer.exits status) = done.Exit status
did_of a = done.Dropped

-- The message of a reply.
abbrev pub replies_in : AnswerData OutgoingData → List OutgoingData
replies_in (answer.reply m) = m ∷ []
replies_in a = []

-- The result of a delivery without its message.
abbrev pub heard_of : {Message : Type 0} → DeliveredData Message → Heard
heard_of (client.sends m) = heard.Send
heard_of client.noted = heard.Noted
heard_of client.ignored = heard.Ignored
heard_of (client.bad_server reason) = heard.BadServer reason

-- The message that a client sends.
abbrev pub messages_in : DeliveredData OutgoingData → List OutgoingData
messages_in (client.sends m) = m ∷ []
messages_in d = []
