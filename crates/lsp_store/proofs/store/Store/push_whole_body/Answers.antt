use Rattle.lsp_store.proofs.Prelude.{◌≡◌, ◌++◌, List, ℕ, refl, ap, ◌∙◌, sym, rules, w32, to_z, of_z, to_z-of_z, IfErr-weaker, StoreData, LimitsData, None, StoreFault, IsRefusal, body_refusal}
use Rattle.lsp_store.proofs.Tables.PlanLemmas.{if_ok_on}
use Rattle.lsp_store.proofs.store.Store.push_whole_body.Goals as goal

-- a body is refused as an equal one, within equal limits
same_refusal : (limits other : LimitsData) (body is : List ℕ) → limits ≡ other → body ≡ is
    → body_refusal limits body ≡ body_refusal other is
same_refusal limits other body is same equal = rw (same, equal) refl

pub returns-clause-body : goal.returns-clause-body
returns-clause-body c =
    let version : to_z w32 (of_z w32 c.in_ok-uri.version) ≡ c.in_ok-uri.version =
    to_z-of_z w32 c.in_ok-uri.version (search rules) in
    let limits = ap (λ (d : StoreData). d.limits) c.self.view_is in
    if_ok_on c.push_body.result
    (λ _ is within uri version encoding batch q.
    let body = c.in_ok-uri.ensures uri version encoding batch q in (
      is ∙ ap (λ (b : List ℕ). c.args.bytes.now.items ++ b) body,
      sym (same_refusal _ _ _ _ limits body) ∙ within,
    ))
    (rw version at c.push_body.ensures.body)
    (rw version at c.push_body.ensures.within)

pub returns-clause-error : goal.returns-clause-error
returns-clause-error c =
    let version : to_z w32 (of_z w32 c.in_ok-uri.version) ≡ c.in_ok-uri.version =
    to_z-of_z w32 c.in_ok-uri.version (search rules) in
    let limits = ap (λ (d : StoreData). d.limits) c.self.view_is in
    IfErr-weaker c.push_body.result _ _
    (λ fault why uri version encoding batch q.
    rw (sym (same_refusal _ _ _ _ limits (c.in_ok-uri.ensures uri version encoding batch q))) why)
    (rw version at c.push_body.ensures.error)
