-- With squash a log ends as without: at the same record, for the same cause, with the same status and counts.
use Rattle.log_rewrite.proofs.Prelude.{List, None, Option, [], ap, arith, refl, ℕ, ◌∙◌, ◌∷◌, ◌≡◌, cases_Bool, common_steps, Result, Record, reading, ChangeData, RecordOutput, canonical_if, change_in, followed_by, front_of, log_config, normalising, unless_bad, written, RunOutput, Session, Verdict, judge, opened, Outcome, run_output_in, OpenSeries, squash_step, squashed_in, step_if, StopsAlike, incoming_of, ServerData, EngineFault}
use Rattle.log_rewrite.proofs.Squash.SeriesLemmas.{squashed_at}

abbrev single : ServerData → Record → List ℕ → Option ChangeData → Verdict → RecordOutput
single server r front change v =
    unless_bad r v (written server.config.limits.max_body r front (canonical_if server change v))

step_end : (server : ServerData) (r : Record) (front : List ℕ) (series : Option OpenSeries) (change : Option ChangeData)
    (v : Verdict) → (step_if server r front series change v).end ≡ (single server r front change v).end
step_end server r front series change v = grind (arith, common_steps, cases_Bool)

-- One output ends as another: with the same result, and with the same outcome.
abbrev EndsAlike : RunOutput → RunOutput → Type 0
EndsAlike c d = (c.stop ≡ d.stop) × (c.outcome ≡ d.outcome)

pub stop_on : (out bytes : List ℕ) (end also : Option (Result Outcome EngineFault)) (c d : RunOutput) → end ≡ also
    → c.stop ≡ d.stop → (followed_by out end c).stop ≡ (followed_by bytes also d).stop
stop_on out bytes end also c d same stops = grind (arith, common_steps)

ends_on : (out bytes : List ℕ) (end also : Option (Result Outcome EngineFault)) (c d : RunOutput) → end ≡ also
    → EndsAlike c d → EndsAlike (followed_by out end c) (followed_by bytes also d)
ends_on out bytes end also c d same alike = grind (arith, common_steps)

ends_in : (s : Session) (series : Option OpenSeries) (rs : List Record)
    → EndsAlike (squashed_in s series rs) (run_output_in normalising s rs)
ends_in s series [] = (refl, refl)
ends_in s series (r ∷ rs) =
    ends_on _ _ _ _ _ _ (step_end s.server r (front_of r.head) series (change_in (incoming_of (reading r.body)))
    (judge s r).verdict)
    (ends_in (judge s r).session (squash_step s series r (judge s r)).series rs)

pub stops_alike : StopsAlike
stops_alike settings records =
    let is = squashed_at settings records in
    let alike = ends_in (opened (log_config settings)) None records in
    (ap (λ (c : RunOutput). c.stop) is ∙ alike.0, ap (λ (c : RunOutput). c.outcome) is ∙ alike.1)
