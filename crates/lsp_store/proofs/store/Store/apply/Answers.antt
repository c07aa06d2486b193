use Rattle.lsp_store.proofs.Prelude.{◌≡◌, arith, refl, rules, w32, to_z, of_z, to_z-of_z}
use Rattle.lsp_frame.proofs.StreamLemmas.{on_err}
use Rattle.lsp_store.proofs.Tables.PlanLemmas.{entry_there, plan_applied, plan_on, plan_short, plan_takes, plan_unchanged, put_length}
use Rattle.lsp_store.proofs.store.Store.apply.Goals as goal

pub apply-requires : goal.apply-requires
apply-requires c = record {
  on = plan_on c.self.inside.limits c.self.inside.documents.entries c.args.self.now c.self.view_is c.args.plan
      c.requires.on c.in-Some.stored.now (entry_there _ _ _ c.in-Some.ensures.value);
}

-- The text is within the limit of a document, whether it is the old one or the new one.
pub invariant_of-stored : goal.invariant_of-stored
invariant_of-stored c = record { short = rw c.in_err-apply.ensures.unchanged c.in-Some.stored.now.short }

pub invariant_of-stored-2 : goal.invariant_of-stored-2
invariant_of-stored-2 c = record {
  short = rw c.in_ok-apply.ensures.changed
      (plan_short c.self.inside.limits c.self.inside.documents.entries c.args.self.now c.self.view_is c.args.plan
      c.requires.on c.in-Some.stored.now (entry_there _ _ _ c.in-Some.ensures.value));
}

pub invariant_of-self : goal.invariant_of-self
invariant_of-self c = omega (arith, put_length, c.self.invariant)

pub invariant_of-self-2 : goal.invariant_of-self-2
invariant_of-self-2 c = omega (arith, put_length, c.self.invariant)

pub returns-in_err-apply-clause-unchanged : goal.returns-in_err-apply-clause-unchanged
returns-in_err-apply-clause-unchanged c =
    on_err c.from_residual.result
    (plan_unchanged c.self.inside.limits c.self.inside.documents.entries c.args.self.now c.self.view_is c.args.plan
    c.requires.on c.in-Some.stored.now (entry_there _ _ _ c.in-Some.ensures.value) _
    (λ uri. rw c.in_err-apply.ensures.unchanged refl) _ refl)

pub returns-clause-applied : goal.returns-clause-applied
returns-clause-applied c =
    let version : to_z w32 (of_z w32 c.args.plan.version) ≡ c.args.plan.version =
    to_z-of_z w32 c.args.plan.version (search rules) in
    plan_applied c.self.inside.limits c.self.inside.documents.entries c.args.self.now c.self.view_is c.args.plan
    c.requires.on c.in-Some.stored.now (entry_there _ _ _ c.in-Some.ensures.value) _
    (λ uri. rw (version, c.in_ok-apply.ensures.changed) refl) _ refl

pub returns-clause-taken : goal.returns-clause-taken
returns-clause-taken c = λ uri version encoding batch q.
    plan_takes c.args.self.now _ uri version encoding batch c.args.plan q (returns-clause-applied c)
