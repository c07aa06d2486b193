-- A canonical message that is refused.
use Rattle.laspidru.proofs.Prelude.{◌≡◌, ◌⊎◌, ℕ, List, Option, Some, None, inl, inr, ap, subst, sym, ◌∙◌, none-some, OUT_OF_MEMORY, Object, FaultAt, IsStoreReport}
use Rattle.lsp_store.specs.declared.fault.StoreFault.{StoreFault}
use Rattle.lsp_store.specs.Faults.{IsRefusal, refusal_fault}
use Rattle.lsp_store.specs.Table.{Refusal}
use Rattle.laspidru.specs.Messages.{IsMessageLeft, frame_unless}
use Rattle.laspidru.specs.Servers.{store_code}

-- It is refused by this fault, or out of memory.
pub message_refused : (refusal : Option Refusal) (frame : List ℕ) (fault : StoreFault) (code len : ℕ)
    (stored : Option Object) (out : FaultAt)
    → IsRefusal refusal fault → code ≡ store_code fault → IsStoreReport fault out
    → (code ≡ OUT_OF_MEMORY) ⊎ IsMessageLeft (frame_unless refusal frame) code stored len out
message_refused refusal frame fault code len stored out (inl none) is written = inl (is ∙ ap store_code none)
message_refused (Some refusal) frame fault code len stored out (inr why) is written =
    let e : refusal_fault refusal ≡ fault = cc in
    inr (is ∙ ap store_code (sym e), subst (λ f. IsStoreReport f out) (sym e) written)
message_refused None frame fault code len stored out (inr why) is written = absurd (none-some fault why)
