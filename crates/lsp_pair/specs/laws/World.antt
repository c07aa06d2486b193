-- The world of a list of events: what both ends sent, how much of it was delivered, and the state
-- of each end then. It has no bytes, and one function defines the documents of both ends.
use Rattle.std.specs.Prelude.{◌+◌, ◌∷◌, ◌++◌}
use Rattle.lsp_pair.specs.Prelude.{ℕ, ℤ, List, [], take, map, slice_get, FitsSigned, IsUtf8, Option, Some, None, Result, Ok, Err, ⊤, message, OutgoingData, Command, opens, changes, closes, table_of, ClientFault, Agreed, Call, orders, Order, Happened, Refused, Server, Client, Nothing}
use Rattle.std.specs.Int.{w32}
use Rattle.lsp_text.specs.declared.encoding.Encoding.{Encoding}
use Rattle.lsp_edit.specs.Batch.{ContentChange}
use Rattle.lsp_message.specs.Outgoing as outgoing
use Rattle.lsp_message.specs.laws.Sent.{sent, IsProperDocument}
use Rattle.lsp_store.specs.Message.{AreTexts, written_content_change}
use Rattle.lsp_server.specs.declared.phase.Phase as server_phase
use Rattle.lsp_server.specs.declared.phase.Phase.TheVariants as server_phases
use Rattle.lsp_server.specs.Incoming as incoming
use Rattle.lsp_server.specs.Incoming.{IncomingData}
use Rattle.lsp_server.specs.Step as server
use Rattle.lsp_client.specs.declared.phase.Phase as client_phase
use Rattle.lsp_client.specs.declared.phase.Phase.TheVariants as client_phases
use Rattle.lsp_client.specs.Step as client
use Rattle.lsp_pair.specs.declared.event.Happened.TheVariants.{Sent}
use Rattle.lsp_pair.specs.Events.{Setting, EventData, calls, to_server, to_client, did_of, replies_in, heard_of, messages_in}

-- A message of the client: a document command, with the batch that the caller passed, or a message
-- of the session's lifecycle.
pub data ClientMessage : Type 0 where
  commands : Command → ClientMessage
  lifecycle : OutgoingData → ClientMessage

-- The document commands among messages.
abbrev pub commands_in : List ClientMessage → List Command
commands_in [] = []
commands_in (commands command ∷ sent) = command ∷ commands_in sent
commands_in (lifecycle m ∷ sent) = commands_in sent

-- What the client sent, oldest first, and how many of it were delivered; the same for the server.
-- Then the phase and the agreement of each end.
pub record World : Type 0 where
  pub out : List ClientMessage
  pub out_delivered : ℕ
  pub back : List OutgoingData
  pub back_delivered : ℕ
  pub client_phase : client_phase.Phase
  pub agreed : Option Agreed
  pub server_phase : server_phase.Phase
  pub encoding : Option Encoding

-- The world before the first event.
abbrev pub beginning : World
beginning =
    record {
      out = [];
      out_delivered = 0;
      back = [];
      back_delivered = 0;
      client_phase = client_phases.New;
      agreed = None;
      server_phase = server_phases.New;
      encoding = None;
    }

-- The client of a world. Its table is that of the commands that it sent.
abbrev pub client_of : Setting → World → client.ClientData
client_of setting w =
    record {
      limits = setting.limits;
      offers = setting.offers;
      phase = w.client_phase;
      agreed = w.agreed;
      table = table_of (commands_in w.out);
    }

-- The server of a world. Its table is that of the commands that were delivered.
abbrev pub server_of : Setting → World → server.ServerData
server_of setting w =
    record {
      config = setting.config;
      phase = w.server_phase;
      encoding = w.encoding;
      table = table_of (commands_in (take w.out_delivered w.out));
    }

-- ---- events

-- What happens, and the world after it.
pub record Turn : Type 0 where
  pub happened : Happened
  pub world : World

-- The message of an accepted call comes last in `out`; a refused call changes nothing.
abbrev pub turn_of_call : World → ClientMessage → Result client.Sending ClientFault → Turn
turn_of_call w sent (Ok sending) =
    record {
      happened = Sent;
      world = record w {
        out = w.out ++ sent ∷ [];
        client_phase = sending.state.phase;
        agreed = sending.state.agreed;
      };
    }
turn_of_call w sent (Err fault) = record { happened = Refused fault; world = w }

-- The message of an accepted call, by the call and what was sent.
abbrev pub message_of_call : client.ClientData → Call → OutgoingData → ClientMessage
message_of_call s (orders order) m =
    commands (client.command_of (client.agreement s).encoding order)
message_of_call s call m = lifecycle m

-- What an accepted call sends. (A refused one sends nothing; this is then any message.)
abbrev pub message_in : Result client.Sending ClientFault → OutgoingData
message_in (Ok sending) = sending.message
message_in (Err refusal) = outgoing.exit

-- A call is a step of the client of this world.
abbrev pub call_event : Setting → World → Call → Turn
call_event setting w call =
    let result = client.call_result (client_of setting w) call in
    turn_of_call w (message_of_call (client_of setting w) call (message_in result)) result

-- What a message of the client asks of a server.
abbrev pub incoming_of_message : ClientMessage → IncomingData
incoming_of_message (commands (opens entry)) = incoming.did_open (Some entry)
incoming_of_message (commands (changes uri version encoding batch)) =
    incoming.did_change (Some (record {
      uri = uri;
      version = version;
      changes = map written_content_change batch;
    }))
incoming_of_message (commands (closes uri)) = incoming.did_close (Some (record { uri = uri }))
incoming_of_message (lifecycle m) = incoming.incoming_of (message (sent m))

-- One more message of `out` is delivered, and a reply comes last in `back`.
abbrev pub turn_of_step : World → server.Step → Turn
turn_of_step w step =
    record {
      happened = Server (did_of step.answer);
      world = record w {
        out_delivered = w.out_delivered + 1;
        back = w.back ++ replies_in step.answer;
        server_phase = step.state.phase;
        encoding = step.state.encoding;
      };
    }

-- The server of this world handles the first message that waits for it.
abbrev pub to_server_event : Setting → World → Option ClientMessage → Turn
to_server_event setting w None = record { happened = Nothing; world = w }
to_server_event setting w (Some sent) =
    turn_of_step w (server.step_on (server_of setting w) (incoming_of_message sent))

-- One more message of `back` is delivered, and what the client sends comes last in `out`.
abbrev pub turn_of_delivery : World → client.Delivery → Turn
turn_of_delivery w delivery =
    record {
      happened = Client (heard_of delivery.delivered);
      world = record w {
        back_delivered = w.back_delivered + 1;
        out = w.out ++ map lifecycle (messages_in delivery.delivered);
        client_phase = delivery.state.phase;
        agreed = delivery.state.agreed;
      };
    }

-- The turn of a delivery, or of its refusal, which changes nothing.
abbrev pub turn_of_result : World → Result client.Delivery ClientFault → Turn
turn_of_result w (Ok delivery) = turn_of_delivery w delivery
turn_of_result w (Err fault) = record { happened = Refused fault; world = w }

-- The client of this world handles the first message that waits for it.
abbrev pub to_client_event : Setting → World → Option OutgoingData → Turn
to_client_event setting w None = record { happened = Nothing; world = w }
to_client_event setting w (Some m) =
    turn_of_result w (client.delivery_result (client_of setting w) (message (sent m)))

-- One event: what happens, and the world after it.
abbrev pub turn : Setting → World → EventData → Turn
turn setting w (calls call) = call_event setting w call
turn setting w to_server = to_server_event setting w (slice_get w.out w.out_delivered)
turn setting w to_client = to_client_event setting w (slice_get w.back w.back_delivered)

-- The world after a list of events, from a world.
abbrev pub world_from : Setting → World → List EventData → World
world_from setting w [] = w
world_from setting w (event ∷ events) = world_from setting (turn setting w event).world events

-- The world of a list of events.
abbrev pub world_of : Setting → List EventData → World
world_of setting events = world_from setting beginning events

-- ---- events as their types contain them: versions in 32 bits, texts in UTF-8

-- The version is in the range of `i32`, the URI is UTF-8, and the texts are lists of scalar values.
pub record IsProperEdits (uri : List ℕ) (version : ℤ) (batch : List ContentChange) : Type 0 where
  pub name : IsUtf8 uri
  pub fits : FitsSigned w32 version
  pub texts : AreTexts batch

-- An order has such numbers and texts.
abbrev pub IsProperOrder : Order → Type 0
IsProperOrder (client.opens entry) = IsProperDocument entry
IsProperOrder (client.edits uri version batch) = IsProperEdits uri version batch
IsProperOrder (client.closes uri) = IsUtf8 uri

-- An event has such numbers and texts.
abbrev pub IsProperEvent : EventData → Type 0
IsProperEvent (calls (orders order)) = IsProperOrder order
IsProperEvent event = ⊤

-- All events have such numbers and texts.
abbrev pub AreProperEvents : List EventData → Type 0
AreProperEvents [] = ⊤
AreProperEvents (event ∷ events) = IsProperEvent event × AreProperEvents events
