-- A step of a pair at a world leaves it at the world after the event.
use Rattle.lsp_pair.proofs.Prelude.{ℕ, ◌≡◌, List, [], ◌∷◌, ◌++◌, map, take, drop, Result, Ok, Err, refl, sym, ap, ◌∙◌, subst, arith, drop-append-le, take-append-le, map-append, frame, SyncKind, reading, OutgoingData, body_of, DocumentItem, table_of, ClientFault, Happened, Server, Client, Setting, EventData, calls, to_server, to_client, did_of, replies_in, heard_of, messages_in, PairData, new_pair, message_frame, IsFitting, IsCallStep, IsServerStep, IsClientStep, IsDeliveryStep, IsStep, ClientMessage, commands, lifecycle, World, commands_in, Turn, turn_of_call, message_of_call, message_in, turn_of_step, turn_of_delivery, turn, world_of, beginning, client_of, server_of, IsProperEvent, frame_of, table_with, frames_from, waiting_out, waiting_back, pair_of, IsAt, IsUsualTurn, HaveOneEncoding, IsStepAt, common_steps}
use Rattle.lsp_client.specs.Step.{Call, Sending, Delivery, delivery_of, sent_body}
use Rattle.lsp_pair.proofs.Worlds.LifeLemmas.{one_body}
use Rattle.lsp_pair.proofs.Worlds.ListLemmas.{table_after_all, after-last, quiet, whole_after, frames-append, frames_said, next_is}
use Rattle.lsp_pair.proofs.Worlds.Shapes.{the_kind, WorldSound}
use Rattle.lsp_pair.proofs.Worlds.ArriveLemmas.{Arrives, Arrivals, body_on}
use Rattle.lsp_pair.proofs.Worlds.ReturnLemmas.{Returns, Returning}
use Rattle.lsp_pair.proofs.Worlds.CallLemmas.{IsSending, CallResult, called_sound}
use Rattle.lsp_pair.proofs.Worlds.WorldLemmas.{good_turn, there_arrives, here_returns, served_turn, heard_turn, quiet_there, quiet_here, world_sound, world-last, proper_last, agree_at}
use Rattle.lsp_server.specs.Step as server

pub frame_on : (kind : SyncKind) (table : List DocumentItem) (said : ClientMessage) → frame_of kind table said
    ≡ frame (body_on kind table said)
unfolding sent_body
frame_on kind table (commands command) = refl
frame_on kind table (lifecycle m) = refl

-- what happens is what a turn has, and the pair is that of its world
pub record AsTurn (setting : Setting) (t : Turn) (happened : Happened) (new : PairData) : Type 0 where
  pub happens : happened ≡ t.happened
  pub leaves : new ≡ pair_of setting t.world

module _ (setting : Setting) (sound : IsFitting setting) (w : World) (ok : WorldSound setting w) where
  abbrev old : PairData
  old = pair_of setting w

  abbrev kind : SyncKind
  kind = the_kind setting

  -- ---- a call

  -- the queue when the client said one message more
  queue_more : (said : ClientMessage) → frames_from kind (server_of setting w).table (waiting_out w) ++ frame_of kind
      (client_of setting w).table said ∷ []
      ≡ frames_from kind (table_of (commands_in (take w.out_delivered (w.out ++ said ∷ []))))
      (drop w.out_delivered (w.out ++ said ∷ []))
  queue_more said = grind (arith, common_steps, whole_after, frames-append, take-append-le, drop-append-le)

  called_pair : (said : ClientMessage) (sending : Sending) → IsSending setting w said sending
      → record old { client = sending.state; to_server = old.to_server ++ message_frame sending.message ∷ [] }
      ≡ pair_of setting (turn_of_call w said (Ok sending)).world
  called_pair said sending is = grind (arith, common_steps, after-last, take-append-le, queue_more)

  call_step : (call : Call) (result : Result Sending ClientFault) (happened : Happened) (new : PairData)
      → CallResult setting w (message_of_call (client_of setting w) call) result → IsCallStep old result happened new
      → AsTurn setting (turn_of_call w (message_of_call (client_of setting w) call (message_in result)) result) happened
      new
  call_step call (Ok sending) happened new is steps = record {
    happens = steps.0;
    leaves = steps.1 ∙ called_pair (message_of_call (client_of setting w) call sending.message) sending is;
  }
  call_step call (Err refusal) happened new is steps = record { happens = steps.0; leaves = steps.1 }

  -- ---- a delivery to the server

  served_pair : (said : ClientMessage) (rest : List ClientMessage) (e : waiting_out w ≡ said ∷ rest)
      (a : Arrives setting w said rest) → record old {
        server = a.step_is.state;
        to_server = frames_from kind (table_with old.server.table said) rest;
        to_client = old.to_client ++ map message_frame (replies_in a.step_is.answer);
      }
      ≡ pair_of setting (turn_of_step w a.step_is).world
  served_pair said rest e a =
      grind (arith, common_steps, next_is, table_after_all, after-last, map-append, drop-append-le)

  server_step : (q : List ClientMessage) → waiting_out w ≡ q → Arrivals setting w q → (happened : Happened)
      (new : PairData) → IsDeliveryStep (λ first rest. IsServerStep old first rest happened new) old
      (frames_from kind (server_of setting w).table q) happened new
      → AsTurn setting (turn setting w to_server) happened new
  server_step [] e a happened new steps = grind (arith, common_steps, quiet_there)
  server_step (said ∷ rest) e a happened new steps =
      let within = sound.within.body in
      let body : steps.body ≡ body_on kind (server_of setting w).table said =
      one_body setting.config.limits.max_body (frame_of kind (server_of setting w).table said)
      (body_on kind (server_of setting w).table said) steps.body
      (frame_on kind (server_of setting w).table said) (omega (arith, a.short, within)) sound.great.greatest_body
      steps.framed in
      let does : server.step (server_of setting w) (reading steps.body) ≡ a.step_is =
      ap (λ (b : List ℕ). server.step (server_of setting w) (reading b)) body ∙ a.written in
      subst (λ (t : Turn). AsTurn setting t happened new) (sym (served_turn setting sound w ok said rest e a)) (record {
        happens = steps.happens ∙ ap (λ (s : server.Step). Server (did_of s.answer)) does;
        leaves =
            steps.leaves
            ∙ (ap (λ (s : server.Step). record old {
              server = s.state;
              to_server = frames_from kind (table_with old.server.table said) rest;
              to_client = old.to_client ++ map message_frame (replies_in s.answer);
            }) does
            ∙ served_pair said rest e a);
      })

  -- ---- a delivery to the client

  heard_pair : (m : OutgoingData) (rest : List OutgoingData) (e : waiting_back w ≡ m ∷ rest)
      (r : Returns setting w m rest) → record old {
        client = r.delivery_is.state;
        to_client = map message_frame rest;
        to_server = old.to_server ++ map message_frame (messages_in r.delivery_is.delivered);
      }
      ≡ pair_of setting (turn_of_delivery w r.delivery_is).world
  heard_pair m rest e r =
      grind (arith, common_steps, next_is, quiet, frames_said, frames-append, take-append-le, drop-append-le)

  client_step : (q : List OutgoingData) → waiting_back w ≡ q → Returning setting w q → (happened : Happened)
      (new : PairData)
      → IsDeliveryStep (λ first rest. IsClientStep old first rest happened new) old (map message_frame q) happened new
      → AsTurn setting (turn setting w to_client) happened new
  client_step [] e r happened new steps = grind (arith, common_steps, quiet_here)
  client_step (m ∷ rest) e r happened new steps =
      let body : steps.body ≡ body_of m = one_body setting.limits.max_body (message_frame m) (body_of m) steps.body refl
      r.short sound.ranges.greatest_body steps.framed in
      let does : delivery_of (client_of setting w) (reading steps.body) ≡ r.delivery_is =
      ap (λ (b : List ℕ). delivery_of (client_of setting w) (reading b)) body ∙ r.written in
      subst (λ (t : Turn). AsTurn setting t happened new) (sym (heard_turn setting sound w ok m rest e r)) (record {
        happens = steps.happens ∙ ap (λ (h : Delivery). Client (heard_of h.delivered)) does;
        leaves =
            steps.leaves
            ∙ (ap (λ (h : Delivery). record old {
              client = h.state;
              to_client = map message_frame rest;
              to_server = old.to_server ++ map message_frame (messages_in h.delivered);
            }) does
            ∙ heard_pair m rest e r);
      })

  -- ---- any step

  pub steps_as : (event : EventData) → IsProperEvent event → (happened : Happened) (new : PairData)
      → IsStep old event happened new → AsTurn setting (turn setting w event) happened new
  steps_as (calls call) proper happened new steps = grind (arith, common_steps, call_step, called_sound)
  steps_as to_server proper happened new steps = server_step (waiting_out w) refl (there_arrives setting sound w ok)
      happened new steps
  steps_as to_client proper happened new steps = client_step (waiting_back w) refl (here_returns setting sound w ok)
      happened new steps

-- ---- the theorem

-- A new pair is at the world of no events.
pub new_at : (setting : Setting) → IsAt setting (new_pair setting) []
new_at setting = record { proper = tt; is = refl }

pub steps_at : (setting : Setting) → IsFitting setting → (old new : PairData) (events : List EventData)
    (event : EventData) (happened : Happened) → IsProperEvent event
    → IsAt setting old events → IsStep old event happened new → IsStepAt setting events event happened new
steps_at setting sound old new events event happened proper at steps =
    let w : World = world_of setting events in
    let ok : WorldSound setting w = world_sound setting sound events at.proper in
    let here : IsStep (pair_of setting w) event happened new =
    subst (λ (p : PairData). IsStep p event happened new) at.is steps in
    let t = steps_as setting sound w ok event proper happened new here in
    let good = good_turn setting sound w ok event proper in
    record {
      happens = t.happens;
      at = record {
        proper = proper_last events event at.proper proper;
        is = t.leaves ∙ ap (pair_of setting) (sym (world-last setting beginning events event));
      };
      usual = subst (IsUsualTurn w event) (sym t.happens) good.usual;
      agree = subst (HaveOneEncoding setting) (sym t.leaves) (agree_at setting (turn setting w event).world
          good.next.shape good.next.at);
    }

-- A pair at a world has one encoding.
pub agrees : (setting : Setting) (pair : PairData) (events : List EventData) → IsFitting setting
    → IsAt setting pair events → HaveOneEncoding setting pair
agrees setting pair events sound at =
    let w : World = world_of setting events in
    let ok : WorldSound setting w = world_sound setting sound events at.proper in
    subst (HaveOneEncoding setting) (sym at.is) (agree_at setting w ok.shape ok.at)
