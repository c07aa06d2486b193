-- What an open series takes from the plan of an accepted change.
use Rattle.log_rewrite.proofs.Prelude.{arith, ◌≡◌, ◌≢◌, ◌<◌, length, ℕ, ℤ, List, map, Some, refl, sym, ap, ap₂, ◌∙◌, subst, LimitsData, ChangeData, DocumentItem, StoreFault, IsMessageFault, IsMessageOfPlan, IsPlanOf, IsPlanOn, ContentChange, HasReached, IsSquashAfter, IsSquashOfPlan, SquashData, squash_of, squash_under, units_in, Encoding, IsPlanOfChange, store_of, ServerData, content_change_from_data, session_encoding, canonical_change_body, IsBegun, IsFramed, IsLonger, IsOpenIn, server_after, common_steps}
use Rattle.lsp_store.specs.declared.fault.StoreFault.TheVariants.{NoMemory}
use Rattle.lsp_store.specs.declared.store.plan.Plan.{Plan}
use Rattle.lsp_store.specs.Opened.{StoreData}
use Rattle.lsp_store.specs.Table.{changed as changed_entry, entry_at}
use Rattle.log_rewrite.proofs.NormaliseLog.AppendLemmas.{over, within}
use Rattle.log_rewrite.proofs.Squash.JoiningLemmas.{begun_open, is_begun, is_longer, longer_open}
use Rattle.log_session.proofs.Records.TakenLemmas.{plan_at}

-- A batch that is added under the limits and the encoding that are the squash's own.
own : (limits : LimitsData) (encoding : Encoding) (squash : SquashData) → squash.limits ≡ limits
    → squash.encoding ≡ encoding → squash_under limits encoding squash ≡ squash
own limits encoding squash same coded =
    ap₂ (λ (l : LimitsData) (e : Encoding). squash_under l e squash) (sym same) (sym coded)

under_own : (limits : LimitsData) (encoding : Encoding) (old new : SquashData) {version : ℤ}
    {batch : List ContentChange} {entry : DocumentItem} → old.limits ≡ limits → old.encoding ≡ encoding
    → IsSquashAfter (squash_under limits encoding old) version batch (squash_under limits encoding new)
    × (new.limits ≡ old.limits) × (new.encoding ≡ old.encoding) × HasReached new entry
    → IsSquashAfter old version batch new × HasReached new entry
under_own limits encoding old new {version} {batch} same coded added = grind (arith, common_steps, own)

module _ (server : ServerData) (p : ChangeData) {plan : Plan} (q : IsPlanOfChange server p plan) {store : StoreData}
    (same : store ≡ store_of server) where
  abbrev changes : List ContentChange
  changes = map content_change_from_data p.changes

  here : IsPlanOf store p.uri p.version (session_encoding server) changes plan
  here = plan_at server p q same

  abbrev entry : DocumentItem
  entry = here.on.entry

  is_open : entry_at server.table p.uri ≡ Some entry
  is_open = ap (λ (d : StoreData). entry_at d.table p.uri) (sym same) ∙ here.is_open

  pub plan_framed : (bytes : List ℕ) → IsMessageOfPlan store plan bytes → IsFramed server p bytes
  plan_framed bytes message =
      let on_server = subst (λ (d : StoreData). IsMessageOfPlan d plan bytes) same message in
      let both = on_server p.uri p.version (session_encoding server) changes q in
      record { is = both.0; within = within server.config.limits _ _ q.accepted both.1 }

  pub plan_too_long : (fault : StoreFault) → fault ≢ NoMemory → IsMessageFault store plan fault
      → server.config.limits.max_body < length (canonical_change_body server p)
  plan_too_long fault other why =
      let on_server = subst (λ (d : StoreData). IsMessageFault d plan fault) same why in
      (over server.config.limits _ _ fault q.accepted other (on_server p.uri p.version (session_encoding server)
      changes q)).0

  -- the batches that it begins
  pub plan_begun : {limits : LimitsData} {encoding : Encoding} {document : DocumentItem} {before next : SquashData}
      → limits ≡ store.limits → encoding ≡ session_encoding server
      → ((on : IsPlanOn store plan) → document ≡ on.entry) → before ≡ squash_of limits encoding document
      → IsSquashOfPlan store plan before next → IsBegun server p next × IsOpenIn (server_after server p) next
  plan_begun {encoding = encoding} {document = document} {before = before} {next = next}
      limits_is encoding_is document_is begun added =
      let same_limits : store.limits ≡ server.config.limits = ap (λ (d : StoreData). d.limits) same in
      let is : before ≡ squash_of server.config.limits (session_encoding server) entry =
      begun ∙ ap (λ (l : LimitsData). squash_of l encoding document) (limits_is ∙ same_limits)
      ∙ ap (λ (e : Encoding). squash_of server.config.limits e document) encoding_is
      ∙ ap (squash_of server.config.limits (session_encoding server)) (document_is here.on) in
      let from_here = subst (λ (k : SquashData). IsSquashOfPlan store plan k next) is added in
      let both = under_own store.limits (session_encoding server)
      (squash_of server.config.limits (session_encoding server) entry) next (sym same_limits) refl
      (from_here p.uri p.version (session_encoding server) changes here) in (
        is_begun server p entry is_open next both.0,
        begun_open server p entry is_open next both.0 both.1,
      )

  -- the open series, if it is of the same document, and the batches with it
  module _ {squash : SquashData} (at : IsOpenIn server squash) (uri : p.uri ≡ squash.uri) where
    pub plan_longer : (next : SquashData) → IsSquashOfPlan store plan squash next
        → IsLonger (Some squash) p next × IsOpenIn (server_after server p) next
    plan_longer next added =
        let both = under_own store.limits (session_encoding server) squash next
        (at.limits ∙ ap (λ (d : StoreData). d.limits) (sym same)) at.encoding
        (added p.uri p.version (session_encoding server) changes here) in
        let left = subst (λ (e : Encoding). HasReached next (changed_entry (units_in e) entry p.version changes))
        (sym at.encoding) both.1 in (
          is_longer server p entry is_open squash next uri both.0,
          longer_open server p entry is_open squash next at uri both.0 left,
        )
