-- A change in two halves: what becomes of it before anything changes, and the server after a plan.
use Rattle.std.specs.Prelude.{◌≡◌, ◌≢◌}
use Rattle.lsp_server.specs.Prelude.{map, Some, ChangeData, did_change, Answer, Changed, Running}
use Rattle.lsp_store.specs.declared.store.plan.Plan.{Plan}
use Rattle.lsp_store.specs.Opened.{StoreData}
use Rattle.lsp_store.specs.Plan.{IsPlanOf, IsPlanOn, after_plan}
use Rattle.lsp_server.specs.declared.planned.PlannedChange.{PlannedChange}
use Rattle.lsp_server.specs.declared.planned.PlannedChange.TheVariants.{Accepted, Answered}
use Rattle.lsp_server.specs.Answer.{as_sent}
use Rattle.lsp_server.specs.Seen.{answer_view}
use Rattle.lsp_server.specs.Step.{ServerData, Step, content_change_from_data, session_encoding, step_on}

-- The open documents of a server, with its limits.
abbrev pub store_of : ServerData → StoreData
store_of s = record { limits = s.config.limits; table = s.table }

-- A plan may be committed: the session is running, and the plan is of its documents as they are.
pub record IsCommittable (s : ServerData) (plan : Plan) : Type 0 where
  pub running : s.phase ≡ Running
  pub on : IsPlanOn (store_of s) plan

-- A plan is of an accepted change, in the encoding of the session.
abbrev pub IsPlanOfChange : ServerData → ChangeData → Plan → Type 0
IsPlanOfChange s p plan =
    IsPlanOf (store_of s) p.uri p.version (session_encoding s) (map content_change_from_data p.changes) plan

-- The server after a plan.
abbrev pub after_commit : ServerData → Plan → ServerData
after_commit s plan = record s { table = (after_plan (store_of s) plan).table }

-- A message isn't obeyed: it has this answer, and changes nothing.
pub record IsNotObeyed (s : ServerData) (step : Step) (a : Answer) : Type 0 where
  pub answer : answer_view a ≡ as_sent step.answer
  pub unchanged : step.state ≡ s
  pub not_changed : a ≢ Changed

-- What becomes of a change: a plan that may be committed, or an answer.
abbrev pub IsPlannedAs : ServerData → ChangeData → PlannedChange → Type 0
IsPlannedAs s p (Accepted plan) = IsCommittable s plan × IsPlanOfChange s p plan
IsPlannedAs s p (Answered a) = IsNotObeyed s (step_on s (did_change (Some p))) a
