-- The whole text that a plan leaves, as one change.
use Rattle.lsp_store.proofs.Prelude.{◌≡◌, ℕ, ℤ, List, [], ◌∷◌, None, refl, sym, ap, ◌∙◌, chars, Encoding, units_in, ContentChange, bytes_after, Plan, StoreData, IsPlanOf, change_body}
use Rattle.lsp_store.specs.Message.{whole_batch, whole_body, whole_text}
use Rattle.lsp_store.proofs.LawLemmas.{found_changed}
use Rattle.lsp_store.proofs.Tables.PlanLemmas.{entry_uri}
use Rattle.lsp_store.proofs.Tables.RefusalLemmas.{meaning_accepted}

module _ (kept : StoreData) (uri : List ℕ) (version : ℤ) (encoding : Encoding) (batch : List ContentChange)
    (plan : Plan) (q : IsPlanOf kept uri version encoding batch plan) (text : List ℕ)
    (is : text ≡ bytes_after q.on.entry.text plan.delta) where
  pub whole_is : whole_batch (units_in encoding) kept.table uri version batch
      ≡ record { range = None; text = chars text } ∷ []
  whole_is =
      ap whole_text (found_changed (units_in encoding) kept.table uri version batch q.on.entry q.is_open)
      ∙ ap (λ (t : List ℕ). record { range = None; text = chars t } ∷ [])
      ((meaning_accepted kept.limits q.on.entry.text _ _ q.delta.is).1 ∙ sym is)

  -- its body, by the URI and the version that it is written with
  pub whole_planned : (key : List ℕ) → key ≡ q.on.entry.uri → (given : ℤ) → given ≡ plan.version
      → (changes : List ContentChange) → changes ≡ record { range = None; text = chars text } ∷ []
      → change_body key given changes ≡ whole_body (units_in encoding) kept.table uri version batch
  whole_planned key key_is given given_is changes changes_are =
      rw (key_is ∙ entry_uri kept.table uri q.on.entry q.is_open, given_is ∙ q.version_is, changes_are ∙ sym whole_is)
      refl
