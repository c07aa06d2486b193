-- Both ends of a session and the frames between them, and one step of both.
use Rattle.std.specs.Prelude.{◌≡◌, ◌≢◌, ◌&&◌, ◌||◌, ◌∷◌, ◌++◌}
use Rattle.lsp_pair.specs.Prelude.{ℕ, Bool, true, false, not, nat_le, List, [], map, Result, Ok, Err, LimitsData, AreInRange, reading, OutgoingData, body_of, ClientFault, Happened, Refused, Server, Client, Nothing}
use Rattle.lsp_frame.specs.Frame.{frame, IsFrameOf}
use Rattle.lsp_text.specs.declared.encoding.Encoding.TheVariants.{Utf16}
use Rattle.lsp_store.specs.Limits.{AreWithin}
use Rattle.lsp_server.specs.declared.config.EncodingChoice.{EncodingChoice}
use Rattle.lsp_server.specs.declared.config.EncodingChoice.TheVariants.{Fixed, Negotiated}
use Rattle.lsp_server.specs.declared.phase.Phase.TheVariants.{Ended}
use Rattle.lsp_server.specs.Step as server
use Rattle.lsp_client.specs.Step as client
use Rattle.lsp_pair.specs.declared.event.Happened.TheVariants.{Sent}
use Rattle.lsp_pair.specs.Events.{Setting, EventData, calls, to_server, to_client, did_of, replies_in, heard_of, messages_in}

-- Both ends, and the frames on the way to each, oldest first.
pub record PairData : Type 0 where
  pub client : client.ClientData
  pub server : server.ServerData
  pub to_server : List (List ℕ)
  pub to_client : List (List ℕ)

-- A new pair.
abbrev pub new_pair : Setting → PairData
new_pair setting =
    record {
      client = client.new_client setting.limits setting.offers;
      server = server.new_server setting.config;
      to_server = [];
      to_client = [];
    }

-- ---- one step, on the pair's own ends

-- The frame of a message.
abbrev pub message_frame : OutgoingData → List ℕ
message_frame m = frame (body_of m)

-- A call of the client. The frame of an accepted call comes last in the queue to the server, and a
-- refused one changes nothing.
abbrev pub IsCallStep : PairData → Result client.Sending ClientFault → Happened → PairData →
    Type 0
IsCallStep old (Ok sending) happened new =
    (happened ≡ Sent)
    × (new ≡ record old {
      client = sending.state;
      to_server = old.to_server ++ message_frame sending.message ∷ [];
    })
IsCallStep old (Err fault) happened new = (happened ≡ Refused fault) × (new ≡ old)

-- The server, which has not ended, handles the first frame of its queue, and its reply comes last
-- in the other.
pub record IsServerStep (old : PairData) (first : List ℕ) (rest : List (List ℕ))
    (happened : Happened) (new : PairData) : Type 0 where
  pub body : List ℕ
  pub framed : IsFrameOf old.server.config.limits.max_body first body
  pub has_not_ended : old.server.phase ≢ Ended
  pub happens :
      happened ≡ Server (did_of (server.step old.server (reading body)).answer)
  pub leaves : new ≡ record old {
    server = (server.step old.server (reading body)).state;
    to_server = rest;
    to_client =
        old.to_client
        ++ map message_frame (replies_in (server.step old.server (reading body)).answer);
  }

-- The client, which listens, handles the first frame of its queue. What it sends comes last in the
-- other.
pub record IsClientStep (old : PairData) (first : List ℕ) (rest : List (List ℕ))
    (happened : Happened) (new : PairData) : Type 0 where
  pub body : List ℕ
  pub framed : IsFrameOf old.client.limits.max_body first body
  pub is_listening : client.is_listening old.client.phase ≡ true
  pub happens :
      happened ≡ Client (heard_of (client.delivery_of old.client (reading body)).delivered)
  pub leaves : new ≡ record old {
    client = (client.delivery_of old.client (reading body)).state;
    to_client = rest;
    to_server =
        old.to_server
        ++ map message_frame (messages_in (client.delivery_of old.client (reading body)).delivered);
  }

-- A delivery from a queue; where it is empty nothing changes.
abbrev pub IsDeliveryStep : (List ℕ → List (List ℕ) → Type 0) → PairData → List (List ℕ) →
    Happened
    → PairData → Type 0
IsDeliveryStep taken old [] happened new = (happened ≡ Nothing) × (new ≡ old)
IsDeliveryStep taken old (first ∷ rest) happened new = taken first rest

-- One step of a pair: what happens, and the pair after it.
abbrev pub IsStep : PairData → EventData → Happened → PairData → Type 0
IsStep old (calls call) happened new =
    IsCallStep old (client.call_result old.client call) happened new
IsStep old to_server happened new =
    IsDeliveryStep (λ first rest. IsServerStep old first rest happened new)
    old old.to_server happened new
IsStep old to_client happened new =
    IsDeliveryStep (λ first rest. IsClientStep old first rest happened new)
    old old.to_client happened new

-- A step may take memory, unless it is a delivery from a queue that is empty.
abbrev pub StepMayAllocate : PairData → EventData → Type 0
StepMayAllocate old event =
    (event ≡ to_server → old.to_server ≢ []) × (event ≡ to_client → old.to_client ≢ [])

-- The steps of a list of events, in order.
abbrev pub IsRun : PairData → List EventData → PairData → Type 0
IsRun old [] new = new ≡ old
IsRun old (event ∷ events) new =
    (happened : Happened) × (mid : PairData) × IsStep old event happened mid
    × IsRun mid events new

-- ---- which settings a pair accepts

-- A server of this choice can choose UTF-16, which a client uses where nothing else was agreed on.
abbrev pub can_choose_utf16 : EncodingChoice → Bool
can_choose_utf16 (Fixed Utf16) = true
can_choose_utf16 (Negotiated prefer) = true
can_choose_utf16 choice = false

-- Each of the limits is at most the other's, and they are lenient only if the others are.
abbrev pub are_within : LimitsData → LimitsData → Bool
are_within small great =
    nat_le small.max_body great.max_body && nat_le small.max_text great.max_text
    && nat_le small.max_docs great.max_docs && nat_le small.max_changes great.max_changes
    && (not small.lenient || great.lenient)

-- A setting that a pair accepts.
pub record IsFitting (setting : Setting) : Type 0 where
  pub ranges : AreInRange setting.limits
  pub great : AreInRange setting.config.limits
  pub within : AreWithin setting.limits setting.config.limits
  pub choice : can_choose_utf16 setting.config.choice ≡ true
