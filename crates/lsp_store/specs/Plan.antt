-- A batch that was resolved once on an open document, and its application.
use Rattle.std.specs.Prelude.{◌≡◌, ◌≤◌, ◌∷◌, ◌++◌}
use Rattle.lsp_store.specs.Prelude.{ℕ, ℤ, zero, suc, List, [], length, Some, None, slice_get, units_in, Encoding, ContentChange, DocumentItem, Plan, StoreFault}
use Rattle.lsp_edit.specs.declared.delta.Delta.{Delta}
use Rattle.lsp_edit.specs.Delta.{IsDeltaOf, IsOn, bytes_after}
use Rattle.lsp_store.specs.Faults.{IsRefusal}
use Rattle.lsp_store.specs.Message.{body_refusal, canonical_body, canonical_frame, message_refusal, whole_body}
use Rattle.lsp_store.specs.Opened.{ChangeMayAllocate, StoreData}
use Rattle.lsp_store.specs.Table.{after_change, change_refusal, entry_at}

-- A document after a delta, under a version.
abbrev pub planned : DocumentItem → ℤ → Delta → DocumentItem
planned entry version delta
    = record entry { version = version; text = bytes_after entry.text delta }

-- The table with the document at an index after a delta.
abbrev pub planned_table : List DocumentItem → ℕ → ℤ → Delta → List DocumentItem
planned_table [] index version delta = []
planned_table (entry ∷ table) zero version delta = planned entry version delta ∷ table
planned_table (entry ∷ table) (suc index) version delta
    = entry ∷ planned_table table index version delta

-- The store after a plan.
abbrev pub after_plan : StoreData → Plan → StoreData
after_plan store plan
    = record store { table = planned_table store.table plan.index plan.version plan.delta }

-- A plan may be applied to a store: it was made of the text that is there, and leaves one of at most
-- 1,073,741,824 bytes (1 GiB).
pub record IsPlanOn (store : StoreData) (plan : Plan) : Type 0 where
  pub entry : DocumentItem
  pub at : slice_get store.table plan.index ≡ Some entry
  pub on : IsOn entry.text plan.delta
  pub short : length (bytes_after entry.text plan.delta) ≤ 1073741824

-- A plan of a batch on the open document of a URI, which accepts it.
pub record IsPlanOf (store : StoreData) (uri : List ℕ) (version : ℤ) (encoding : Encoding)
    (batch : List ContentChange) (plan : Plan) : Type 0 where
  pub on : IsPlanOn store plan
  pub is_open : entry_at store.table uri ≡ Some on.entry
  pub accepted : change_refusal store.limits (units_in encoding) store.table uri version batch
      ≡ None
  pub delta : IsDeltaOf (units_in encoding) store.limits.max_text on.entry.text batch plan.delta
  pub version_is : plan.version ≡ version
  pub after : after_change (units_in encoding) store.table uri version batch
      ≡ planned_table store.table plan.index plan.version plan.delta
  pub left : ChangeMayAllocate store uri version batch

-- The frame of the canonical message of each batch that a plan is of; it is accepted.
abbrev pub IsMessageOfPlan : StoreData → Plan → List ℕ → Type 0
IsMessageOfPlan store plan bytes =
    (uri : List ℕ) (version : ℤ) (encoding : Encoding) (batch : List ContentChange)
    → IsPlanOf store uri version encoding batch plan
    → (bytes ≡ canonical_frame (units_in encoding) store.table uri version batch)
    × (message_refusal store.limits (units_in encoding) store.table uri version batch ≡ None)

-- The body of that message is appended.
abbrev pub IsBodyOfPlan : StoreData → Plan → List ℕ → List ℕ → Type 0
IsBodyOfPlan store plan old new =
    (uri : List ℕ) (version : ℤ) (encoding : Encoding) (batch : List ContentChange)
    → IsPlanOf store uri version encoding batch plan
    → (new ≡ old ++ canonical_body (units_in encoding) store.table uri version batch)
    × (message_refusal store.limits (units_in encoding) store.table uri version batch ≡ None)

-- Why the canonical message of each batch that a plan is of is refused, or out of memory.
abbrev pub IsMessageFault : StoreData → Plan → StoreFault → Type 0
IsMessageFault store plan fault =
    (uri : List ℕ) (version : ℤ) (encoding : Encoding) (batch : List ContentChange)
    → IsPlanOf store uri version encoding batch plan
    → IsRefusal (message_refusal store.limits (units_in encoding) store.table uri version batch)
    fault

-- The body of the whole text is appended that each batch leaves that a plan is of. It is within the
-- limit.
abbrev pub IsWholeBodyOfPlan : StoreData → Plan → List ℕ → List ℕ → Type 0
IsWholeBodyOfPlan store plan old new =
    (uri : List ℕ) (version : ℤ) (encoding : Encoding) (batch : List ContentChange)
    → IsPlanOf store uri version encoding batch plan
    → (new ≡ old ++ whole_body (units_in encoding) store.table uri version batch)
    × (body_refusal store.limits (whole_body (units_in encoding) store.table uri version batch)
    ≡ None)

-- Why that body is refused, or out of memory.
abbrev pub IsWholeFault : StoreData → Plan → StoreFault → Type 0
IsWholeFault store plan fault =
    (uri : List ℕ) (version : ℤ) (encoding : Encoding) (batch : List ContentChange)
    → IsPlanOf store uri version encoding batch plan
    → IsRefusal (body_refusal store.limits
    (whole_body (units_in encoding) store.table uri version batch)) fault
