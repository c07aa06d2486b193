-- The values of types of the code in the definitions.
use Rattle.std.specs.Prelude.{◌≡◌, ◌<◌, ◌≤◌, ◌++◌}
use Rattle.log_session.specs.Prelude.{ℕ, List, length, Option, Some, None, answer_view, Appended}
use Rattle.log_session.specs.declared.session.Verdict.{Verdict}
use Rattle.log_session.specs.declared.session.Verdict.TheVariants.{Answered, Recorded, Bad}
use Rattle.log_session.specs.declared.session.canonical.Appended.TheVariants as appended
use Rattle.log_session.specs.Session as spec

-- A judgement as its value.
abbrev pub verdict_view : Verdict → spec.Verdict
verdict_view (Answered answer) = spec.answered (answer_view answer)
verdict_view Recorded = spec.recorded
verdict_view Bad = spec.bad

-- A canonical body is appended, or it is too long. Without such a body there is nothing.
abbrev pub IsAppended : ℕ → Option (List ℕ) → Option Appended → List ℕ → List ℕ → Type 0
IsAppended max_body None error old new = error ≡ None
IsAppended max_body (Some body) None old new = ⊥
IsAppended max_body (Some body) (Some appended.Body) old new = (new ≡ old ++ body)
    × (length body ≤ max_body)
IsAppended max_body (Some body) (Some appended.TooLong) old new = max_body < length body
