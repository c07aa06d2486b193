-- What either end of a session does with a body, and what is asked of it and of its documents.
use Rattle.std.specs.Prelude.{◌≡◌, if◌then◌else◌, ◌⊎◌}
use Rattle.laspidru.specs.Prelude.{ℕ, List, length, option_map, Option, Some, None, Result, Ok, Err, ok_or, Encoding, Utf8, Utf16, Utf32, StoreData, entry_at, as_sent, Step, step, Delivery, delivery_of, is_listening, Answer, ENDED, NOT_OPEN, OK, OTHER_KIND, WRONG_PHASE, Object, End, Party, Server, Client, true, OUT_OF_MEMORY, Taken, and_then, unless, EndData, Stream}
use Rattle.lsp_message.specs.Message.{reading}
use Rattle.lsp_message.specs.Params.{DocumentItem}
use Rattle.lsp_server.specs.declared.phase.Phase.{Phase}
use Rattle.lsp_server.specs.declared.phase.Phase.TheVariants.{New, Running, Down, Ended}
use Rattle.lsp_client.specs.declared.phase.Phase as client_phase
use Rattle.lsp_client.specs.Seen.{as_frame}
use Rattle.laspidru.specs.declared.answers.State.{State}
use Rattle.laspidru.specs.Clients.{delivered_out, phase_numbers, sent_frame}
use Rattle.laspidru.specs.Objects.{uri_asked}
use Rattle.laspidru.specs.Servers.{answer_out, reply_out}
use Rattle.laspidru.specs.Framers.{HasNoBody, IsBodyOf, IsFedTo}

-- The end in an object.
abbrev pub as_end : Object → Result EndData ℕ
as_end (End held) = Ok held
as_end other = Err OTHER_KIND

-- ---- what it does with a body

-- What an end does with a body: the end after it, the frame to send, and the answer that C gets.
pub record Handling : Type 0 where
  pub party : Party
  pub frame : List ℕ
  pub answer : Answer

-- The step of a server, as C gets it.
abbrev pub served_out : Step → Handling
served_out it = record {
  party = Server it.state;
  frame = reply_out (as_sent it.answer);
  answer = answer_out (as_sent it.answer);
}

-- The delivery of a client, as C gets it.
abbrev pub heard_out : Delivery → Handling
heard_out it = record {
  party = Client it.state;
  frame = sent_frame (as_frame it.delivered);
  answer = delivered_out (as_frame it.delivered);
}

-- By the table of a server's steps, or of a client's deliveries.
abbrev pub handling_by : Party → List ℕ → Handling
handling_by (Server server) body = served_out (step server (reading body))
handling_by (Client client) body = heard_out (delivery_of client (reading body))

-- A server handles no message after the end of its session.
abbrev pub session_over : Phase → Option ℕ
session_over Ended = Some ENDED
session_over other = None

-- A client handles none before `initialize` and after `exit`, nor once its session failed.
abbrev pub deaf : client_phase.Phase → Option ℕ
deaf phase = if is_listening phase then None else Some WRONG_PHASE

-- The code of an end that handles no message in its phase.
abbrev pub closed : Party → Option ℕ
closed (Server server) = session_over server.phase
closed (Client client) = deaf client.phase

-- What an end does with a body, or the code of its refusal.
abbrev pub handling_of : Party → List ℕ → Result Handling ℕ
handling_of party body = unless (closed party) (Ok (handling_by party body))

-- The end, its frame and the answer are those after a body, and the call is done.
pub record IsHandledBy (party : Party) (frame : List ℕ) (code : ℕ) (out : Answer)
    (it : Handling) : Type 0 where
  pub done : code ≡ OK
  pub party_after : party ≡ it.party
  pub frame_after : frame ≡ it.frame
  pub answer : out ≡ it.answer

-- The handle has the end after a body, and C gets the answer.
pub record IsHandled (held : EndData) (code : ℕ) (stored : Option Object) (out : Answer)
    (it : Handling) : Type 0 where
  pub done : code ≡ OK
  pub end_after : stored
      ≡ Some (End (record { party = it.party; frame = it.frame; stream = held.stream }))
  pub answer : out ≡ it.answer

-- An end that handles messages in its phase.
abbrev pub listening : Result EndData ℕ → Result EndData ℕ
listening held = and_then held (λ it. unless (closed it.party) (Ok it))

-- ---- what it takes of its stream

-- A piece was fed, and no message is whole; or there is a fault.
pub record HasNoMessage (old : Stream) (piece : List ℕ) (code : ℕ) (new : Stream)
    (taken : Taken) : Type 0 where
  pub fed : IsFedTo old piece code new taken
  pub none : code ≡ OK → HasNoBody new.framing

-- A piece was fed up to the end of a message with this body.
pub record HasMessage (old : Stream) (piece : List ℕ) (new : Stream) (taken : Taken)
    (body : List ℕ) : Type 0 where
  pub fed : IsFedTo old piece OK new taken
  pub is : IsBodyOf new.framing body

-- A message is whole, and out of memory. The next call handles it.
abbrev pub IsWaiting : Stream → List ℕ → ℕ → Stream → Taken → Type 0
IsWaiting old piece code new taken =
    (code ≡ OUT_OF_MEMORY) × ((body : List ℕ) × HasMessage old piece new taken body)

-- A message is whole, and was handled.
pub record IsOneTaken (old : EndData) (piece : List ℕ) (code : ℕ) (new : EndData)
    (taken : Taken) (after : Answer) : Type 0 where
  pub stream : Stream
  pub body : List ℕ
  pub message : HasMessage old.stream piece stream taken body
  pub done : code ≡ OK
  pub end_after : new ≡ record {
    party = (handling_by old.party body).party;
    frame = (handling_by old.party body).frame;
    stream = record stream { is_handled = true };
  }
  pub answer : after ≡ (handling_by old.party body).answer

-- An end took a piece. Of the end only the stream changed, and no answer is written; or a message
-- was handled.
abbrev pub IsTaken : EndData → List ℕ → ℕ → EndData → Taken → Answer → Answer → Type 0
IsTaken old piece code new taken before after =
    ((new ≡ record old { stream = new.stream }) × (after ≡ before)
    × (HasNoMessage old.stream piece code new.stream taken
    ⊎ IsWaiting old.stream piece code new.stream taken))
    ⊎ IsOneTaken old piece code new taken after

-- ---- what is asked of it

-- The open documents of an end, and its limits.
abbrev pub store_in : Party → StoreData
store_in (Server server) = record { limits = server.config.limits; table = server.table }
store_in (Client client) = record { limits = client.limits; table = client.table }

-- The encoding that was agreed on.
abbrev pub agreed_encoding : Party → Option Encoding
agreed_encoding (Server server) = server.encoding
agreed_encoding (Client client) = option_map (λ agreed. agreed.encoding) client.agreed

-- The number of an encoding; 0 of none.
abbrev pub encoding_number : Option Encoding → ℕ
encoding_number None = 0
encoding_number (Some Utf8) = 8
encoding_number (Some Utf16) = 16
encoding_number (Some Utf32) = 32

-- The number of a server's phase, as a client in that phase has it.
abbrev pub server_phase : Phase → ℕ
server_phase New = 0
server_phase Running = 2
server_phase Down = 4
server_phase Ended = 5

-- The number of an end's phase, and why its session failed; 0 if it didn't.
abbrev pub party_phase : Party → ℕ × ℕ
party_phase (Server server) = (server_phase server.phase, 0)
party_phase (Client client) = phase_numbers client.phase

-- The state of an end.
pub record IsState (out : State) (party : Party) : Type 0 where
  pub phase : (out.phase, out.reason) ≡ party_phase party
  pub encoding : out.encoding ≡ encoding_number (agreed_encoding party)
  pub documents : out.documents ≡ length (store_in party).table

-- ---- its open documents

-- The open document of a URI.
abbrev pub entry_in : List ℕ → EndData → Result DocumentItem ℕ
entry_in uri held = ok_or (entry_at (store_in held.party).table uri) NOT_OPEN

-- The same, with the codes of the URI and of the handle before it.
abbrev pub entry_asked : List ℕ → Result EndData ℕ → Result DocumentItem ℕ
entry_asked uri held = and_then (uri_asked uri) (λ named. and_then held (entry_in named))

-- What is asked of a text, here of the open document's. The code of the URI comes before all others.
abbrev pub asked_of_open : {X : Type 0} → List ℕ → Result EndData ℕ
    → (Result (List ℕ) ℕ → Result X ℕ) → Result X ℕ
asked_of_open uri held asked = and_then (uri_asked uri)
    (λ named. asked (and_then (and_then held (entry_in named)) (λ entry. Ok entry.text)))
