-- What a command writes of the records that stay, if some are left out.
use Rattle.std.specs.Prelude.{◌≡◌}
use Rattle.log_session.specs.Prelude.{ℕ, List, Option, Some, None, Head, Record}
use Rattle.log_session.specs.Selection.{Selection, kept_in, output_of_kept}
use Rattle.log_session.specs.RunOutput.{RunOutput}
use Rattle.log_session.specs.Session.{Session}
use Rattle.log_session.specs.inside.Printer.{PrinterState}
use Rattle.log_session.specs.inside.Reads.{IsSelection}
use Rattle.log_session.specs.inside.RunOutput.{IsQuiet}

-- The output of a command, whose session is `s` before these records: of all of them, or of those
-- that stay.
abbrev pub piped : Option Selection → (List Record → RunOutput) → Session → List Record → RunOutput
piped None run_output s = run_output
piped (Some c) run_output s = λ rs. output_of_kept run_output (kept_in s c rs)

-- Without records nothing is written, and nothing ends the run.
pub piped_quiet : (c : Option Selection) (run_output : List Record → RunOutput) (s : Session)
    → IsQuiet run_output → IsQuiet (piped c run_output s)
piped_quiet None run_output s quiet = quiet
piped_quiet (Some c) run_output s quiet =
    record { silent = quiet.silent; unstopped = quiet.unstopped }

-- The output of a command over the records that are still to come, all of them or a selection.
abbrev pub pipe_output : Option Selection → PrinterState → List Record → RunOutput
pipe_output c state = piped c state.run_output state.session

pub pipe_quiet : (c : Option Selection) (state : PrinterState) → IsQuiet (pipe_output c state)
pipe_quiet c state = piped_quiet c state.run_output state.session state.quiet

-- A record is left out, or it stays and is written under a head.
abbrev pub IsAdmitted : Session → Option Selection → Option Selection → Head → List ℕ → Option Head
    → Type 0
IsAdmitted s None new head body written = (new ≡ None) × (written ≡ Some head)
IsAdmitted s (Some old) None head body written = ⊥
IsAdmitted s (Some old) (Some new) head body written = IsSelection s old new head body written
