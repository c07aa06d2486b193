-- A change in two halves, as one step.
use Rattle.lsp_server.proofs.Prelude.{ℕ, ℤ, ◌≡◌, ◌≢◌, ◌⊎◌, inl, inr, List, map, Result, Ok, Some, string_bytes, sym, ap, subst, refl, ◌∙◌, Change, ContentChange, ChangeData, change_view, content_change_view, did_change, Encoding, StoreFault, NoMemory, StoreData, IsRefused, Command, changes, Answer, Dropped, Refused, Store, Down, New, Running, refused, IsStepOf, IsNotObeyed, IsPlanOfChange, IsPlannedAs, store_of, ServerData, Step, change_command, content_change_from_data, session_encoding, command_step, unchanged_step, step_in, step_on}
use Rattle.lsp_edit.specs.Edited.{content_change}
use Rattle.lsp_message.specs.declared.params.ChangeParams.{ChangeParams}
use Rattle.lsp_store.specs.declared.store.plan.Plan.{Plan}
use Rattle.lsp_store.specs.Plan.{IsPlanOf}
use Rattle.lsp_server.specs.declared.planned.PlannedChange.{PlannedChange}
use Rattle.lsp_server.specs.declared.planned.PlannedChange.TheVariants.{Accepted, Answered}
use Rattle.lsp_server.proofs.Commands.{edits_of, obeyed_as_refused}

-- The step of a change in phase Running.
pub running_step : (s : ServerData) (p : ChangeData) → s.phase ≡ Running → step_on s (did_change (Some p))
    ≡ command_step s (change_command s p)
running_step s p running = ap (λ phase. step_in phase s (did_change (Some p))) running

-- The store's plan of a change is the server's.
pub planned_is : (s : ServerData) (store : StoreData) (p : ChangeParams) (uri : List ℕ) (version : ℤ)
    (encoding : Encoding) (edits : List Change) (plan : Plan)
    → store ≡ store_of s → uri ≡ string_bytes p.uri → version ≡ p.version → encoding ≡ session_encoding s
    → edits ≡ p.changes.items → s.phase ≡ Running → IsPlanOf store uri version encoding (map content_change edits) plan
    → IsPlannedAs s (change_view p) (Accepted plan)
planned_is s store p uri version encoding edits plan store_is uri_is version_is encoding_is edits_is running planned =
    let same : IsPlanOf (store_of s) (string_bytes p.uri) p.version (session_encoding s)
    (map content_change_from_data (map content_change_view p.changes.items)) plan =
    rw (edits_of p.changes.items, sym store_is, sym uri_is, sym version_is, sym encoding_is, sym edits_is) planned in
    (record { running = running; on = same.on }, same)

-- The store's refusal of a change is the server's answer.
pub refused_is : (s : ServerData) (store : StoreData) (p : ChangeParams) (uri : List ℕ) (version : ℤ)
    (encoding : Encoding) (edits : List Change) (fault : StoreFault) (a : Answer)
    → store ≡ store_of s → uri ≡ string_bytes p.uri → version ≡ p.version → encoding ≡ session_encoding s
    → edits ≡ p.changes.items → s.phase ≡ Running → (fault ≢ NoMemory) × (a ≡ Refused (Store fault))
    → IsRefused store (changes uri version encoding (map content_change edits)) fault
    → IsNotObeyed s (step_on s (did_change (Some (change_view p)))) a
refused_is s store p uri version encoding edits fault a store_is uri_is version_is encoding_is edits_is running why
    error =
    let command : changes uri version encoding (map content_change edits) ≡ change_command s (change_view p) =
    rw (
      uri_is,
      version_is,
      encoding_is,
      edits_is,
    ) (ap (λ (batch : List ContentChange). changes (string_bytes p.uri) p.version (session_encoding s) batch)
    (sym (edits_of p.changes.items))) in
    let given : IsRefused store (change_command s (change_view p)) fault =
    subst (λ (asked : Command). IsRefused store asked fault) command error in
    let same : IsRefused (store_of s) (change_command s (change_view p)) fault =
    subst (λ (of : StoreData). IsRefused of (change_command s (change_view p)) fault) store_is given in
    let step : step_on s (did_change (Some (change_view p))) ≡ unchanged_step s (refused (Store fault)) =
    running_step s (change_view p) running ∙ obeyed_as_refused s (change_command s (change_view p)) fault why.0 same in
    rw (why.1, step) (record { answer = refl; unchanged = refl; not_changed = λ e. cc })

-- Outside phase Running a change is dropped.
pub dropped_is : (s : ServerData) (p : ChangeData) → (s.phase ≡ New) ⊎ (s.phase ≡ Down)
    → IsNotObeyed s (step_on s (did_change (Some p))) Dropped
dropped_is s p (inl new) = rw new (record { answer = refl; unchanged = refl; not_changed = λ e. cc })
dropped_is s p (inr down) = rw down (record { answer = refl; unchanged = refl; not_changed = λ e. cc })

-- What was planned may be committed, if it is a plan.
pub accepted_on : (s : ServerData) (p : ChangeData) (planned : PlannedChange) (plan : Plan) → planned ≡ Accepted plan
    → IsPlannedAs s p planned → IsPlannedAs s p (Accepted plan)
accepted_on s p planned plan is h = subst (λ (x : PlannedChange). IsPlannedAs s p x) is h

-- A plan that is committed is the step of its change.
pub accepted_step : {E : Type 0} (s : ServerData) (p : ChangeData) (planned : PlannedChange) (plan : Plan)
    (result : Result Answer E) (new : ServerData)
    → planned ≡ Accepted plan → s.phase ≡ Running → IsPlannedAs s p planned
    → ((q : ChangeData) → IsPlanOfChange s q plan → IsStepOf (step_on s (did_change (Some q))) result s new)
    → IsStepOf (command_step s (change_command s p)) result s new
accepted_step s p planned plan result new is running h step =
    subst (λ (taken : Step). IsStepOf taken result s new) (running_step s p running)
    (step p (accepted_on s p planned plan is h).1)

-- So is an answer that changes nothing.
pub answered_step : {E : Type 0} (s : ServerData) (p : ChangeData) (planned : PlannedChange) (a : Answer) → planned
    ≡ Answered a → s.phase ≡ Running → IsPlannedAs s p planned
    → IsStepOf {E = E} (command_step s (change_command s p)) (Ok a) s s
answered_step {E} s p planned a is running h =
    let answered : IsNotObeyed s (step_on s (did_change (Some p))) a =
    subst (λ (x : PlannedChange). IsPlannedAs s p x) is h in
    subst (λ (taken : Step). IsStepOf {E = E} taken (Ok a) s s) (running_step s p running) (record {
      answer = answered.answer;
      state = sym answered.unchanged;
      unchanged = tt;
    })
