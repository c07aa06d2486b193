use Rattle.lsp_store.proofs.Prelude.{◌≡◌, ap, ◌∙◌, rules, w32, to_z, of_z, to_z-of_z, frame, IfErr-weaker, StoreData}
use Rattle.lsp_store.proofs.Tables.PlanLemmas.{if_ok_on, planned_accepted, planned_refused}
use Rattle.lsp_store.proofs.store.Store.planned_message.Goals as goal

pub returns-clause-framed : goal.returns-clause-framed
returns-clause-framed c =
    let version : to_z w32 (of_z w32 c.in_ok-uri.version) ≡ c.in_ok-uri.version =
    to_z-of_z w32 c.in_ok-uri.version (search rules) in
    let limits = ap (λ (d : StoreData). d.limits) c.self.view_is in
    if_ok_on c.change_frame.result
    (λ bytes is within uri version encoding batch q.
    let body = c.in_ok-uri.ensures uri version encoding batch q in (
      is ∙ ap frame body,
      planned_accepted _ _ _ _ _ _ q c.self.inside.limits limits _ body within,
    ))
    (rw version at c.change_frame.ensures.framed)
    (rw version at c.change_frame.ensures.within)

pub returns-clause-error : goal.returns-clause-error
returns-clause-error c =
    let version : to_z w32 (of_z w32 c.in_ok-uri.version) ≡ c.in_ok-uri.version =
    to_z-of_z w32 c.in_ok-uri.version (search rules) in
    let limits = ap (λ (d : StoreData). d.limits) c.self.view_is in
    IfErr-weaker c.change_frame.result _ _
    (λ fault why uri version encoding batch q. planned_refused _ _ _ _ _ _ q c.self.inside.limits limits _
    (c.in_ok-uri.ensures uri version encoding batch q) fault why)
    (rw version at c.change_frame.ensures.error)
