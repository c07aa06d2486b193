use Rattle.log_rewrite.proofs.Prelude.{refl, change_view}
use Rattle.log_rewrite.proofs.Squash.PlanLemmas.{plan_begun}
use Rattle.log_rewrite.proofs.joining.begin.Goals as goal

pub add_plan-requires-clause-reached : goal.add_plan-requires-clause-reached
add_plan-requires-clause-reached c =
    λ on. rw (c.planned_document-document.ensures on) at c.in_ok-batches.ensures.reached

pub returns : goal.returns
returns c =
    plan_begun c.args.server.now (change_view c.args._params.now) c.requires.planned c.store-store.ensures
    c.limits-limits.ensures (rw (c.unwrap_or-encoding.ensures, c.encoding.ensures.value) refl)
    c.planned_document-document.ensures c.in_ok-batches.ensures.ok c.in_ok-add_plan.ensures.added
