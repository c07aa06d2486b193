-- What is sent for a command, and why a command is refused.
use Rattle.lsp_client.proofs.Prelude.{◌≡◌, ◌≢◌, ℕ, ℤ, List, Option, Some, None, refl, sym, ◌∙◌, inl, inr, Encoding, units_in, ContentChange, SyncKind, Off, Full, Incremental, StoreFault, IsRefusal, DocumentItem, already_open, changes, IsFaultOf, client_fault}
use Rattle.std.specs.Prelude.{◌⊎◌}
use Rattle.lsp_store.specs.Message.{change_body, canonical_body}
use Rattle.lsp_client.specs.declared.fault.ClientFault.TheVariants.{Store}
use Rattle.lsp_client.specs.Step.{Sending, sent_body, sending_unless}
use Rattle.lsp_store.specs.Faults as documents
use Rattle.lsp_store.specs.Table as documents_table
use Rattle.std.proofs.Common.{arith}
use Rattle.std.proofs.lemmas.Grind.{common_steps}

-- ---- refusals

-- A refusal of the store is a refusal of the client, with the store's fault.
fault_kept : (refusal : documents_table.Refusal) → client_fault (documents.refusal_fault refusal)
    ≡ Store (documents.refusal_fault refusal)
fault_kept already_open = refl
fault_kept _ = refl

pub some_same : {A : Type 0} (a b : A) → Some a ≡ Some b → a ≡ b
some_same a b e = cc

-- The client's fault for what the store refuses.
pub refused : (refusal : Option documents_table.Refusal) (sending : Sending) (fault : StoreFault)
    → IsRefusal refusal fault → IsFaultOf (sending_unless refusal sending) (client_fault fault)
refused None sending fault why = grind (arith, common_steps)
refused (Some refusal) sending fault why = grind (arith, common_steps, fault_kept)

-- ---- what is sent

-- Under any kind but Full the canonical batch is sent.
pub canonical_sent : (kind : SyncKind) (table : List DocumentItem) (uri : List ℕ) (version : ℤ) (encoding : Encoding)
    (batch : List ContentChange) → kind ≢ Full
    → sent_body kind table (changes uri version encoding batch) ≡ canonical_body (units_in encoding) table uri version
    batch
unfolding change_body sent_body
canonical_sent Full table uri version encoding batch not = absurd (not refl)
canonical_sent _ table uri version encoding batch not = refl

pub not_full : (kind : SyncKind) → (kind ≡ Incremental) ⊎ (kind ≡ Off) → kind ≢ Full
not_full kind (inl is) = λ full. let bad : Incremental ≡ Full = sym is ∙ full in cc
not_full kind (inr is) = λ full. let bad : Off ≡ Full = sym is ∙ full in cc
