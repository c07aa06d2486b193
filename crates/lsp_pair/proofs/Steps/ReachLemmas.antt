-- What a reached pair has in its queues.
use Rattle.lsp_pair.proofs.Prelude.{ℕ, ◌≡◌, ◌≢◌, true, List, [], ◌∷◌, ◌++◌, map, Result, Ok, Err, IfOk, OnOk, OnErr, refl, sym, ◌∙◌, subst, arith, IsFrame, written_is_frame, OutgoingData, Ended, is_listening, Happened, Server, Setting, EventData, PairData, message_frame, IsFitting, IsStep, ClientMessage, commands, lifecycle, World, server_of, IsProperEvent, frames_from, IsAt, IsUsual, IsStepAt, HasHistory, History, IsHistory, history_of, world_of, both_ends, HoldsOfFirst, common_steps}
use Rattle.lsp_pair.proofs.Worlds.Shapes.{the_kind, WorldSound}
use Rattle.lsp_pair.proofs.Worlds.ArriveLemmas.{Arrives, Arrivals, body_on}
use Rattle.lsp_pair.proofs.Worlds.ReturnLemmas.{Returning}
use Rattle.lsp_pair.proofs.Worlds.WorldLemmas.{there_arrives, here_returns, world_sound}
use Rattle.lsp_pair.proofs.Steps.StepLemmas.{frame_on, steps_at}
use Rattle.lsp_message.specs.Outgoing as outgoing
use Rattle.lsp_server.specs.Step as server
use Rattle.lsp_client.specs.Step as client
use Rattle.lsp_pair.specs.declared.event.Did.TheVariants as done

-- an ended server does nothing usual
never_ended : (said : ClientMessage) → IsUsual said (Server done.Dropped) → ⊥
never_ended (commands command) h = cc
never_ended (lifecycle (outgoing.initialize offers)) h = cc
never_ended (lifecycle outgoing.initialized) h = cc
never_ended (lifecycle outgoing.shutdown) h = cc
never_ended (lifecycle outgoing.exit) h = cc
never_ended _ h = h

module _ (setting : Setting) (sound : IsFitting setting) (w : World) (ok : WorldSound setting w) where
  not_ended : (said : ClientMessage) (rest : List ClientMessage) → Arrives setting w said rest → w.server_phase ≢ Ended
  not_ended said rest a ended = grind (arith, common_steps, never_ended)

  first_served : (q : List ClientMessage) → Arrivals setting w q
      → HoldsOfFirst (frames_from (the_kind setting) (server_of setting w).table q)
      (λ first. IsFrame setting.config.limits.max_body first × (w.server_phase ≢ Ended))
  first_served [] a = tt
  first_served (said ∷ rest) a = grind (arith, common_steps, body_on, the_kind, frame_on, written_is_frame)

  first_heard : (q : List OutgoingData) → Returning setting w q
      → HoldsOfFirst (map message_frame q) (λ first. IsFrame setting.limits.max_body first
      × (is_listening w.client_phase ≡ true))
  first_heard [] r = tt
  first_heard (m ∷ rest) r = grind (arith, common_steps, written_is_frame)

pub reached_serves : (h : History) (pair : PairData) → IsHistory h pair
    → HoldsOfFirst pair.to_server (λ first. IsFrame pair.server.config.limits.max_body first
    × (pair.server.phase ≢ Ended))
reached_serves h pair r = grind (arith, common_steps, world_sound, first_served, there_arrives)

pub reached_hears : (h : History) (pair : PairData) → IsHistory h pair
    → HoldsOfFirst pair.to_client (λ first. IsFrame pair.client.limits.max_body first
    × (is_listening pair.client.phase ≡ true))
reached_hears h pair r = grind (arith, common_steps, world_sound, first_heard, here_returns)

-- ---- a step that may run out of memory

pub reach_or_same : {E : Type 0} (old new : PairData) (event : EventData) (result : Result Happened E)
    → IsProperEvent event → HasHistory old
    → IfOk result (λ a. IsStep old event a new) → OnErr result (new ≡ old) → HasHistory new
reach_or_same old new event (Ok a) proper has steps same =
    let was = has.1 in (
      history_of (world_of was.setting (was.events ++ event ∷ [])),
      record {
        setting = was.setting;
        sound = was.sound;
        events = was.events ++ event ∷ [];
        at = (steps_at was.setting was.sound old new was.events event a proper was.at steps).at;
        told = refl;
      },
    )
reach_or_same old new event (Err e) proper has steps same = subst HasHistory (sym same) has

pub step_from : {E : Type 0} (old now new : PairData) (event given : EventData) (result : Result Happened E) → old ≡ now
    → given ≡ event → IfOk result (λ a. IsStep old event a new) → IfOk result (λ a. IsStep now given a new)
step_from old now new event given result same is steps = grind (arith, common_steps)

pub at_if : {E : Type 0} (old new : PairData) (event : EventData) (result : Result Happened E) → IsProperEvent event
    → IfOk result (λ a. IsStep old event a new)
    → IfOk result (λ a. (setting : Setting) (events : List EventData) → IsFitting setting → IsAt setting old events
    → IsStepAt setting events event a new)
at_if old new event (Ok a) proper steps = λ setting events sound at. steps_at setting sound old new events event a
    proper at steps
at_if old new event (Err e) proper steps = tt

pub at_next : {E : Type 0} (old new : PairData) (event : EventData) (result : Result Happened E)
    → IfOk result (λ happened. (setting : Setting) (events : List EventData) → IsFitting setting
    → IsAt setting old events → IsStepAt setting events event happened new)
    → OnOk result ((setting : Setting) (events : List EventData) → IsFitting setting → IsAt setting old events
    → IsAt setting new (events ++ event ∷ []))
at_next old new event (Ok a) steps = λ setting events sound at. (steps setting events sound at).at
at_next old new event (Err e) steps = tt

-- what is left of a delivery that ran out of memory
pub same_at_server : {A E : Type 0} (c : client.ClientData) (s t : server.ServerData) (q p b d : List (List ℕ))
    (result : Result A E) → OnErr result ((t ≡ s) × (p ≡ q) × (d ≡ b))
    → OnErr result (both_ends c t p d ≡ both_ends c s q b)
same_at_server c s t q p b d (Ok a) same = tt
same_at_server c s t q p b d (Err e) same = λ i. both_ends c (same.0 i) (same.1 i) (same.2 i)

pub same_at_client : {A E : Type 0} (s : server.ServerData) (c k : client.ClientData) (q p b d : List (List ℕ))
    (result : Result A E) → OnErr result ((k ≡ c) × (p ≡ q) × (d ≡ b))
    → OnErr result (both_ends k s d p ≡ both_ends c s b q)
same_at_client s c k q p b d (Ok a) same = tt
same_at_client s c k q p b d (Err e) same = λ i. both_ends (same.0 i) s (same.2 i) (same.1 i)

pub same_from : {A E : Type 0} (old now new : PairData) (result : Result A E) → old ≡ now → OnErr result (new ≡ old)
    → OnErr result (new ≡ now)
same_from old now new (Ok a) same stays = tt
same_from old now new (Err e) same stays = stays ∙ same
