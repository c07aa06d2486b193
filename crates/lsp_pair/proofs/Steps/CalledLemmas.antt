-- A call of a pair's client, over plain values.
use Rattle.lsp_pair.proofs.Prelude.{ℕ, ◌≡◌, ◌≢◌, ◌⊎◌, List, [], ◌∷◌, ◌++◌, Result, Ok, Err, IfOk, IfErr, OnErr, Vec, refl, sym, ap, ◌∙◌, subst, ⊎_elim, Global, map-append, ClientFault, WrongPhase, Store, NoMemory, Sending, call_result, IsSent, IsFaultOf, Event, ToServer, ToClient, Happened, Sent, Refused, EventData, calls, to_server, to_client, PairData, IsCallStep, IsServerStep, IsClientStep, IsDeliveryStep, IsStep, event_view, frames, IsCall, HoldsOnCall, both_ends}
use Rattle.std.specs.declared.alloc.AllocError.{AllocError}
use Rattle.lsp_server.specs.Step as server
use Rattle.lsp_client.specs.Step as client

pub is_call : (e : Event) → (e ≡ ToServer → ⊥) → (e ≡ ToClient → ⊥) → IsCall (event_view e)
is_call ToServer p q = absurd (p refl)
is_call ToClient p q = absurd (q refl)
is_call _ p q = tt

-- A call is no delivery.
pub no_delivery : {A E : Type 0} (e : EventData) (sent replies : List (List ℕ)) (r : Result A E) → IsCall e
    → OnErr r ((e ≡ to_server → sent ≢ []) × (e ≡ to_client → replies ≢ []))
no_delivery e sent replies (Ok x) is = tt
no_delivery e sent replies (Err x) is = ((λ same. absurd (subst IsCall same is)), λ same. absurd (subst IsCall same is))

module _ (s : server.ServerData) (c new : client.ClientData) (q next : List (Vec ℕ Global)) (b : List (List ℕ)) where
  sent_is : (r : Result Sending ClientFault) (bytes : Vec ℕ Global) → IsSent r bytes.items new → next ≡ q ++ bytes ∷ []
      → IsCallStep (both_ends c s (frames q) b) r Sent (both_ends new s (frames next) b)
  sent_is (Ok sending) bytes sends pushed = (
    refl,
    λ i. both_ends (sends.1 i) s
        ((ap frames pushed ∙ (map-append (λ (f : Vec ℕ Global). f.items) q (bytes ∷ [])
        ∙ ap (λ (f : List ℕ). frames q ++ f ∷ []) sends.0)) i) b,
  )
  sent_is (Err refusal) bytes sends pushed = absurd sends

  refused_is : (r : Result Sending ClientFault) (fault : ClientFault) → IsFaultOf r fault → fault ≢ NoMemory → new ≡ c
      → next ≡ q → IsCallStep (both_ends c s (frames q) b) r (Refused fault) (both_ends new s (frames next) b)
  refused_is (Ok sending) fault error other same stays = absurd (other error)
  refused_is (Err (WrongPhase phase)) fault error other same stays =
      (ap Refused error, λ i. both_ends (same i) s (frames (stays i)) b)
  refused_is (Err (Store why)) fault error other same stays = (
    ⊎_elim (λ (e : fault ≡ NoMemory). absurd (other e)) (λ (e : fault ≡ Store why). ap Refused e) error,
    λ i. both_ends (same i) s (frames (stays i)) b,
  )
  refused_is (Err NoMemory) fault error other same stays = absurd (other error)

  pub call_is : (e : EventData) (sent : Result (Vec ℕ Global) ClientFault) (result : Result Happened AllocError)
      → IsCall e
      → IfOk sent (λ bytes. HoldsOnCall e (λ k. IsSent (call_result c k) bytes.items new)) → OnErr sent (new ≡ c)
      → IfErr sent (λ fault. (fault ≡ NoMemory) ⊎ HoldsOnCall e (λ k. IsFaultOf (call_result c k) fault))
      → IfOk sent (λ bytes. (result ≡ Ok Sent) × (next ≡ q ++ bytes ∷ []))
      → IfErr sent (λ fault. (next ≡ q) × IfOk result (λ h. (fault ≢ NoMemory) × (h ≡ Refused fault)))
      → IfOk result (λ h. IsStep (both_ends c s (frames q) b) e h (both_ends new s (frames next) b))
  call_is (calls k) (Ok bytes) result is sends same error pushed refused =
      subst (λ (r : Result Happened AllocError). IfOk r (λ h. IsStep (both_ends c s (frames q) b) (calls k) h
      (both_ends new s (frames next) b))) (sym pushed.0) (sent_is (call_result c k) bytes sends pushed.1)
  call_is (calls k) (Err fault) (Ok h) is sends same error pushed refused =
      subst (λ (x : Happened). IsStep (both_ends c s (frames q) b) (calls k) x (both_ends new s (frames next) b))
      (sym refused.1.1) (⊎_elim (λ (out : fault ≡ NoMemory). absurd (refused.1.0 out))
      (λ (error : IsFaultOf (call_result c k) fault). refused_is (call_result c k) fault error refused.1.0 same
      refused.0) error)
  call_is (calls k) (Err fault) (Err e) is sends same error pushed refused = tt
  call_is _ sent result is sends same error pushed refused = absurd is

  pub call_same : (sent : Result (Vec ℕ Global) ClientFault) (result : Result Happened AllocError)
      → OnErr sent (new ≡ c) → IfOk sent (λ bytes. (result ≡ Ok Sent) × (next ≡ q ++ bytes ∷ []))
      → IfErr sent (λ fault. (next ≡ q) × IfOk result (λ h. (fault ≢ NoMemory) × (h ≡ Refused fault)))
      → OnErr result (both_ends new s (frames next) b ≡ both_ends c s (frames q) b)
  call_same (Ok bytes) result same pushed refused =
      subst (λ (r : Result Happened AllocError). OnErr r (both_ends new s (frames next) b ≡ both_ends c s (frames q) b))
      (sym pushed.0) tt
  call_same (Err fault) (Ok h) same pushed refused = tt
  call_same (Err fault) (Err e) same pushed refused = λ i. both_ends (same i) s (frames (refused.0 i)) b

-- ---- a refused call changes nothing

refused_call : (old new : PairData) (result : Result Sending ClientFault) (happened : Happened) (fault : ClientFault)
    → happened ≡ Refused fault → IsCallStep old result happened new → new ≡ old
refused_call old new (Ok sending) happened fault is steps = let e : Sent ≡ Refused fault = sym steps.0 ∙ is in
    absurd (cc)
refused_call old new (Err refusal) happened fault is steps = steps.1

refused_delivery : (taken : List ℕ → List (List ℕ) → Type 0) (old new : PairData) (queue : List (List ℕ))
    (happened : Happened)
    → ((first : List ℕ) (rest : List (List ℕ)) → taken first rest → ⊥) → IsDeliveryStep taken old queue happened new
    → new ≡ old
refused_delivery taken old new [] happened never steps = steps.1
refused_delivery taken old new (first ∷ rest) happened never steps = absurd (never first rest steps)

refused_step : (old new : PairData) (event : EventData) (happened : Happened) (fault : ClientFault) → happened
    ≡ Refused fault → IsStep old event happened new → new ≡ old
refused_step old new (calls call) happened fault is steps =
    refused_call old new (call_result old.client call) happened fault is steps
refused_step old new to_server happened fault is steps =
    refused_delivery (λ first rest. IsServerStep old first rest happened new) old new old.to_server happened
    (λ first rest served. let e = sym served.happens ∙ is in cc) steps
refused_step old new to_client happened fault is steps =
    refused_delivery (λ first rest. IsClientStep old first rest happened new) old new old.to_client happened
    (λ first rest hears. let e = sym hears.happens ∙ is in cc) steps

pub refused_if : {E : Type 0} (old new : PairData) (event : EventData) (result : Result Happened E)
    → IfOk result (λ happened. IsStep old event happened new)
    → IfOk result (λ happened. (fault : ClientFault) → happened ≡ Refused fault → new ≡ old)
refused_if old new event (Ok happened) steps = λ fault is. refused_step old new event happened fault is steps
refused_if old new event (Err e) steps = tt
