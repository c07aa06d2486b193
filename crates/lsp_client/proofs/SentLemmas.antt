-- What an order sends, and what it leaves.
use Rattle.lsp_client.proofs.Prelude.{◌≡◌, ◌≢◌, ℕ, ℤ, List, [], ◌∷◌, Option, Some, None, Ok, refl, sym, ap, ◌∙◌, frame, Encoding, units_in, ContentChange, SyncKind, Full, did_open, did_close, body_of, DocumentItem, StoreFault, IsRefusal, StoreData, Takes, Command, entry_at, command_refusal, table_after, IsSent, IsFaultOf, client_fault, IsOrderFault, order_refusal, whole_change, whole_text}
use Rattle.lsp_frame.specs.Limits.{LimitsData}
use Rattle.lsp_message.specs.declared.agreement.Offers.{Offers}
use Rattle.lsp_store.specs.Message.{body_refusal, change_body, whole_batch, message_refusal, canonical_body, canonical_frame}
use Rattle.lsp_client.specs.declared.agreed.Agreed.{Agreed}
use Rattle.lsp_client.specs.declared.phase.Phase.{Phase}
use Rattle.lsp_client.specs.declared.phase.Phase.TheVariants.{Ready}
use Rattle.lsp_client.specs.Step.{ClientData, Order, edits, orders, agreement, sent_body, command_result, call_result}
use Rattle.lsp_client.proofs.OrderLemmas.{refused, canonical_sent}
use Rattle.lsp_edit.specs.Delta.{bytes_after}
use Rattle.lsp_store.specs.declared.store.plan.Plan.{Plan}
use Rattle.lsp_store.specs.Plan.{IsPlanOf}
use Rattle.lsp_store.proofs.LawLemmas.{found_changed}
use Rattle.lsp_store.proofs.Tables.RefusalLemmas.{meaning_accepted}
use Rattle.lsp_store.specs.Table as documents
use Rattle.lsp_store.proofs.Tables.FirstLemmas.{later_none}
use Rattle.std.specs.Prelude.{String, string_bytes}
use Rattle.std.specs.declared.alloc.Global.{Global}

-- a client with these documents
abbrev pub with_store : Offers → Phase → Option Agreed → StoreData → ClientData
with_store offers phase agreed store = record {
  limits = store.limits;
  offers = offers;
  phase = phase;
  agreed = agreed;
  table = store.table;
}

-- the document that an order opens
abbrev pub document_of : String Global → String Global → ℤ → String Global → DocumentItem
document_of uri language version text = record {
  uri = string_bytes uri;
  language = string_bytes language;
  version = version;
  text = string_bytes text;
}

unless_ok : (refusal : Option documents.Refusal) (table new : List DocumentItem)
    → documents.unless_refused refusal table ≡ Ok new → (refusal ≡ None) × (new ≡ table)
unless_ok None table new is = (refl, cc)
unless_ok (Some refusal) table new is = absurd (cc)

-- What the store took is not refused, and leaves the next table.
pub taken_parts : (old new : StoreData) (command : Command) → Takes old command new
    → (command_refusal old.limits old.table command ≡ None) × (new.table ≡ table_after old.table command)
taken_parts old new command takes =
    unless_ok (command_refusal old.limits old.table command) (table_after old.table command) new.table takes.table

-- A frame of a command's message, which is short enough.
abbrev pub IsFramed : ClientData → SyncKind → Command → List ℕ → Type 0
IsFramed s kind command bytes = (body_refusal s.limits (sent_body kind s.table command) ≡ None)
    × (bytes ≡ frame (sent_body kind s.table command))

-- The same, of a body with limits of its own.
pub body_framed : (s : ClientData) (kind : SyncKind) (command : Command) (limits : LimitsData) (body bytes : List ℕ)
    → limits ≡ s.limits → body ≡ sent_body kind s.table command → body_refusal limits body ≡ None
    → bytes ≡ frame body → IsFramed s kind command bytes
body_framed s kind command limits body bytes same is within framed = (rw (same, is) at within, framed ∙ ap frame is)

-- A command that the store took, and whose message is short enough, is sent.
pub order_sent : (offers : Offers) (phase : Phase) (agreed : Option Agreed) (old new : StoreData) (s : ClientData)
    (kind : SyncKind) (command : Command) (bytes : List ℕ)
    → with_store offers phase agreed old ≡ s → Takes old command new → IsFramed s kind command bytes
    → IsSent (command_result s kind command) bytes (with_store offers phase agreed new)
unfolding sent_body
order_sent offers phase agreed old new s kind command bytes view takes framed =
    let parts = taken_parts old new command takes in
    let limits : old.limits ≡ s.limits = ap (λ (x : ClientData). x.limits) view in
    let table : old.table ≡ s.table = ap (λ (x : ClientData). x.table) view in
    let next : new.table ≡ table_after s.table command = parts.1 ∙ ap (λ t. table_after t command) table in
    let may : command_refusal s.limits s.table command ≡ None = rw (limits, table) at parts.0 in
    rw (may, framed.0) (
      framed.1,
      λ i. record {
        limits = (takes.limits ∙ limits) i;
        offers = (view i).offers;
        phase = (view i).phase;
        agreed = (view i).agreed;
        table = next i;
      },
    )

-- The body of an order is the one that is sent.
pub close_sent : (kind : SyncKind) (table : List DocumentItem) (copy uri : List ℕ) → copy ≡ uri
    → body_of (did_close (record { uri = copy })) ≡ sent_body kind table (documents.closes uri)
unfolding sent_body
close_sent kind table copy uri same = ap (λ (u : List ℕ). body_of (did_close (record { uri = u }))) same

pub open_sent : (kind : SyncKind) (table : List DocumentItem) (params : DocumentItem)
    → body_of (did_open params) ≡ sent_body kind table (documents.opens params)
unfolding sent_body
open_sent kind table params = refl

-- A body that is too long is refused after what the store refuses.
pub long_refused : (limits : LimitsData) (s : ClientData) (kind : SyncKind) (command : Command) (body : List ℕ)
    (fault : StoreFault) → limits ≡ s.limits
    → command_refusal s.limits s.table command ≡ None → body ≡ sent_body kind s.table command
    → IsRefusal (body_refusal limits body) fault → IsRefusal (order_refusal s.limits kind s.table command) fault
long_refused limits s kind command body fault same may is why =
    rw may (rw (same, is) at why)

-- A document that is open may be closed.
pub may_close : (limits : LimitsData) (table : List DocumentItem) (uri : List ℕ) (entry : DocumentItem) → Some entry
    ≡ entry_at table uri → command_refusal limits table (documents.closes uri) ≡ None
may_close limits table uri entry found = rw (← found) refl

-- An order that is refused in phase Ready.
pub order_fault : (s : ClientData) (order : Order) (fault : StoreFault) → s.phase ≡ Ready → IsOrderFault s order fault
    → IsFaultOf (call_result s (orders order)) (client_fault fault)
order_fault s order fault ready why = rw ready (refused _ _ fault why)

-- ---- changes

module _ (s : ClientData) (uri : List ℕ) (version : ℤ) (batch : List ContentChange) where
  abbrev pub change_of : Command
  change_of = documents.changes uri version (agreement s).encoding batch

  module _ (not : (agreement s).kind ≢ Full) where
    same_body : sent_body (agreement s).kind s.table change_of
        ≡ canonical_body (units_in (agreement s).encoding) s.table uri version batch
    same_body = canonical_sent (agreement s).kind s.table uri version (agreement s).encoding batch not

    -- The canonical message is refused as the order is, under any kind but Full, and it is what is sent.
    pub canonical_refused : (fault : StoreFault)
        → IsRefusal (message_refusal s.limits (units_in (agreement s).encoding) s.table uri version batch) fault
        → IsOrderFault s (edits uri version batch) fault
    canonical_refused fault why = rw same_body why

    pub canonical_framed : (bytes : List ℕ)
        → bytes ≡ canonical_frame (units_in (agreement s).encoding) s.table uri version batch
        → message_refusal s.limits (units_in (agreement s).encoding) s.table uri version batch ≡ None
        → IsFramed s (agreement s).kind change_of bytes
    canonical_framed bytes framed none = (
      rw same_body (later_none (command_refusal s.limits s.table change_of) _ none),
      framed ∙ ap frame (sym same_body),
    )

  -- Under Full the body is that of the text that the batch leaves.
  pub whole_sent : (whole : List ContentChange) → (agreement s).kind ≡ Full
      → whole_batch (units_in (agreement s).encoding) s.table uri version batch ≡ whole
      → change_body uri version whole ≡ sent_body (agreement s).kind s.table change_of
  unfolding sent_body change_body
  whole_sent whole full leaves = rw (full, leaves) refl

-- ---- the text that a change leaves

-- The whole text that a plan leaves is that of its batch.
pub planned_whole : (store : StoreData) (uri : List ℕ) (version : ℤ) (encoding : Encoding) (batch : List ContentChange)
    (plan : Plan) (q : IsPlanOf store uri version encoding batch plan) (text : List ℕ)
    → text ≡ bytes_after q.on.entry.text plan.delta
    → whole_batch (units_in encoding) store.table uri version batch ≡ whole_change text ∷ []
planned_whole store uri version encoding batch plan q text is =
    ap whole_text (found_changed (units_in encoding) store.table uri version batch q.on.entry q.is_open)
    ∙ ap (λ (t : List ℕ). whole_change t ∷ [])
    ((meaning_accepted store.limits q.on.entry.text _ _ q.delta.is).1 ∙ sym is)
