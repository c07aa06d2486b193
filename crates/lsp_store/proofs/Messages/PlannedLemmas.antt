-- The canonical message of a batch that was planned: what holds of it.
use Rattle.lsp_store.proofs.Prelude.{ℕ, ℤ, ◌≡◌, ◌<◌, ◌≤◌, ◌^◌, ◌↔◌, List, length, FitsSigned, IsUtf8, None, Ok, sym, ap, ◌∙◌, arith, chars, Encoding, units_in, Item, ContentChange, meaning, bytes_left, IsCanonical, canonical_law, units_some, Plan, AreTexts, DoAlike, IsCanonicalOf, IsReadAgain, canonical_batch, canonical_frame, message_refusal, StoreData, IsPlanOf, change_refusal, entry_refusal, meant_text}
use Rattle.std.specs.Int.{w32}
use Rattle.lsp_message.proofs.ReadBack.{body_of-unique, is_read_back, reading-body_of}
use Rattle.lsp_store.proofs.Messages.MessageLemmas.{accepts, exactly_alike, is_read, settles}
use Rattle.lsp_store.proofs.Tables.PlanLemmas.{on_short, on_utf8}
use Rattle.lsp_store.proofs.Tables.RefusalLemmas.{meaning_accepted}

module _ (kept : StoreData) (uri : List ℕ) (version : ℤ) (encoding : Encoding) (batch : List ContentChange)
    (plan : Plan)
    (q : IsPlanOf kept uri version encoding batch plan) where
  laws : (any : List ContentChange) (items : List Item) → meaning (units_in encoding) (chars q.on.entry.text) any
      ≡ Ok items → IsCanonical (units_in encoding) (chars q.on.entry.text) any items
  laws = canonical_law (units_in encoding) (units_some encoding) (chars q.on.entry.text)

  may : entry_refusal kept.limits (units_in encoding) q.on.entry version batch ≡ None
  may = rw q.is_open at q.accepted

  abbrev meant : List Item
  meant = (accepts kept.limits encoding kept.table uri version q.on.entry q.is_open laws batch may).items

  left_short : length (bytes_left q.on.entry.text meant) ≤ 1073741824
  left_short =
      let a = accepts kept.limits encoding kept.table uri version q.on.entry q.is_open laws batch may in
      omega (
        arith,
        q.on.short,
        ap length (sym (ap (meant_text q.on.entry.text) a.means)
            ∙ (meaning_accepted kept.limits q.on.entry.text _ _ q.delta.is).1),
      )

  pub plan_settled : message_refusal kept.limits (units_in encoding) kept.table uri version batch ≡ None
      → IsCanonicalOf kept.limits (units_in encoding) kept.table uri version batch
      (canonical_batch (units_in encoding) kept.table uri batch)
  plan_settled accepted = settles kept.limits encoding kept.table uri version q.on.entry q.is_open laws batch may
      left_short (rw q.accepted at accepted)

  module _ (uri_utf8 : IsUtf8 uri) (fits : FitsSigned w32 version) (texts : AreTexts batch) where
    pub plan_alike : length (canonical_frame (units_in encoding) kept.table uri version batch) < 2 ^ 64
        → (other : List ContentChange) → AreTexts other
        → change_refusal kept.limits (units_in encoding) kept.table uri version other ≡ None
        → (canonical_frame (units_in encoding) kept.table uri version batch
        ≡ canonical_frame (units_in encoding) kept.table uri version other)
        ↔ DoAlike (units_in encoding) kept.table uri batch other
    plan_alike small other others also =
        exactly_alike kept.limits encoding kept.table uri version q.on.entry q.is_open laws uri_utf8 fits
        (on_utf8 q.on.entry.text plan.delta q.on.on) (on_short q.on.entry.text plan.delta q.on.on) body_of-unique batch
        other texts others may (rw q.is_open at also) small

    pub plan_read : IsReadAgain uri version (canonical_batch (units_in encoding) kept.table uri batch)
    plan_read =
        is_read kept.limits encoding kept.table uri version q.on.entry q.is_open laws uri_utf8 fits
        (on_utf8 q.on.entry.text plan.delta q.on.on) (on_short q.on.entry.text plan.delta q.on.on) body_of-unique batch
        texts may reading-body_of is_read_back
