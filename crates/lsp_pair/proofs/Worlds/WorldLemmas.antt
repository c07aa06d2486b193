-- What holds of the world of every list of events.
use Rattle.lsp_pair.proofs.Prelude.{◌≡◌, Bool, List, [], ◌∷◌, ◌++◌, Option, Result, Ok, Err, refl, sym, ap, ◌∙◌, subst, arith, if◌then◌else◌, MatchOption, message, OutgoingData, sent, ClientFault, WrongPhase, Call, Server, Client, Nothing, Setting, EventData, calls, to_server, to_client, did_of, heard_of, IsFitting, ClientMessage, World, beginning, Turn, turn_of_call, message_of_call, message_in, turn_of_step, to_server_event, turn_of_delivery, turn_of_result, to_client_event, turn, world_from, world_of, client_of, IsProperEvent, AreProperEvents, waiting_out, waiting_back, pair_of, IsUsual, IsUsualBack, IsUsualTurn, HaveOneEncoding, common_steps}
use Rattle.lsp_pair.proofs.Worlds.ListLemmas.{next_is, none_next}
use Rattle.lsp_pair.proofs.Worlds.Shapes.{Shape, fresh, asking, Row, row_at, AtShape, WorldSound}
use Rattle.lsp_pair.proofs.Worlds.ArriveLemmas.{Arrives, Arrivals, arrivals}
use Rattle.lsp_pair.proofs.Worlds.ReturnLemmas.{Returns, Returning, returning}
use Rattle.lsp_pair.proofs.Worlds.CallLemmas.{CallResult, called_sound}
use Rattle.lsp_client.specs.Step as client

pub beginning_sound : (setting : Setting) → WorldSound setting beginning
beginning_sound setting =
    record {
      shape = fresh;
      at = record {
        busy = tt;
        is = refl;
        arrived = omega arith;
        returned = omega arith;
        said = tt;
      };
    }

-- ---- one turn

-- what a turn answers, and that the world stays sound
pub record IsGoodTurn (setting : Setting) (w : World) (event : EventData) (t : Turn) : Type 0 where
  pub usual : IsUsualTurn w event t.happened
  pub next : WorldSound setting t.world

module _ (setting : Setting) (sound : IsFitting setting) (w : World) (ok : WorldSound setting w) where
  -- the messages that wait, and what becomes of them
  pub there_arrives : Arrivals setting w (waiting_out w)
  there_arrives =
      subst (λ (r : Row). Arrivals setting w r.there) (sym ok.at.is) (arrivals setting sound w ok.shape ok.at)

  pub here_returns : Returning setting w (waiting_back w)
  here_returns =
      subst (λ (r : Row). Returning setting w r.here) (sym ok.at.is) (returning setting sound w ok.shape ok.at)

  -- the turn where a message waits
  pub served_turn : (said : ClientMessage) (rest : List ClientMessage) (e : waiting_out w ≡ said ∷ rest)
      (a : Arrives setting w said rest) → turn setting w to_server ≡ turn_of_step w a.step_is
  served_turn said rest e a = ap (to_server_event setting w) (next_is w.out w.out_delivered said rest e).there
      ∙ ap (turn_of_step w) a.given

  pub heard_turn : (m : OutgoingData) (rest : List OutgoingData) (e : waiting_back w ≡ m ∷ rest)
      (r : Returns setting w m rest) → turn setting w to_client ≡ turn_of_delivery w r.delivery_is
  heard_turn m rest e r =
      ap (to_client_event setting w) (next_is w.back w.back_delivered m rest e).there
      ∙ (ap (λ (b : Bool). turn_of_result w
      (if b then Ok (client.delivery_of (client_of setting w) (message (sent m))) else Err (WrongPhase w.client_phase)))
      r.listening
      ∙ ap (turn_of_delivery w) r.given)

  pub quiet_there : waiting_out w ≡ [] → turn setting w to_server ≡ record { happened = Nothing; world = w }
  quiet_there e = ap (to_server_event setting w) (none_next w.out w.out_delivered e)

  pub quiet_here : waiting_back w ≡ [] → turn setting w to_client ≡ record { happened = Nothing; world = w }
  quiet_here e = ap (to_client_event setting w) (none_next w.back w.back_delivered e)

  server_turn : (q : List ClientMessage) → waiting_out w ≡ q → Arrivals setting w q
      → IsGoodTurn setting w to_server (turn setting w to_server)
  server_turn [] e a = grind (arith, common_steps, quiet_there, none_next)
  server_turn (said ∷ rest) e a =
      subst (IsGoodTurn setting w to_server) (sym (served_turn said rest e a)) (record {
        usual =
            subst (λ (o : Option ClientMessage). MatchOption o (Server (did_of a.step_is.answer) ≡ Nothing)
            (λ said. IsUsual said (Server (did_of a.step_is.answer))))
            (sym (next_is w.out w.out_delivered said rest e).there) a.usual;
        next = a.next;
      })

  client_turn : (q : List OutgoingData) → waiting_back w ≡ q → Returning setting w q
      → IsGoodTurn setting w to_client (turn setting w to_client)
  client_turn [] e r = grind (arith, common_steps, quiet_here, none_next)
  client_turn (m ∷ rest) e r =
      subst (IsGoodTurn setting w to_client) (sym (heard_turn m rest e r)) (record {
        usual =
            subst (λ (o : Option OutgoingData). MatchOption o (Client (heard_of r.delivery_is.delivered) ≡ Nothing)
            (λ m. IsUsualBack m (Client (heard_of r.delivery_is.delivered))))
            (sym (next_is w.back w.back_delivered m rest e).there) r.usual;
        next = r.next;
      })

  call_turn : (call : Call) (result : Result client.Sending ClientFault)
      → CallResult setting w (message_of_call (client_of setting w) call) result
      → WorldSound setting (turn_of_call w (message_of_call (client_of setting w) call (message_in result))
      result).world
  call_turn call (Ok sending) is = is.next
  call_turn call (Err refusal) is = ok

  pub good_turn : (event : EventData) → IsProperEvent event → IsGoodTurn setting w event (turn setting w event)
  good_turn (calls call) proper = grind (arith, common_steps, call_turn, called_sound)
  good_turn to_server proper = server_turn (waiting_out w) refl there_arrives
  good_turn to_client proper = client_turn (waiting_back w) refl here_returns

-- ---- whole lists

pub from_sound : (setting : Setting) → IsFitting setting → (w : World) → WorldSound setting w
    → (events : List EventData) → AreProperEvents events → WorldSound setting (world_from setting w events)
from_sound setting sound w ok [] proper = ok
from_sound setting sound w ok (event ∷ events) proper =
    from_sound setting sound (turn setting w event).world (good_turn setting sound w ok event proper.0).next events
    proper.1

pub world_sound : (setting : Setting) → IsFitting setting → (events : List EventData) → AreProperEvents events
    → WorldSound setting (world_of setting events)
world_sound setting sound events proper = from_sound setting sound beginning (beginning_sound setting) events proper

pub world-last : (setting : Setting) (w : World) (events : List EventData) (event : EventData)
    → world_from setting w (events ++ event ∷ []) ≡ (turn setting (world_from setting w events) event).world
world-last setting w [] event = refl
world-last setting w (first ∷ events) event = world-last setting (turn setting w first).world events event

pub proper_last : (events : List EventData) (event : EventData) → AreProperEvents events → IsProperEvent event
    → AreProperEvents (events ++ event ∷ [])
proper_last [] event p q = (q, tt)
proper_last (first ∷ events) event p q = (p.0, proper_last events event p.1 q)

-- ---- what both ends agree on

pub agree_at : (setting : Setting) (w : World) (shape : Shape) → AtShape setting w shape
    → HaveOneEncoding setting (pair_of setting w)
agree_at setting w shape at = grind (arith, common_steps, row_at, asking)
