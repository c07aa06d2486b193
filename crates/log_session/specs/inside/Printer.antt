-- How far a command's printer has come.
use Rattle.std.specs.Prelude.{refl}
use Rattle.log_session.specs.Prelude.{List, Record}
use Rattle.log_session.specs.View.{View, output_in}
use Rattle.log_session.specs.RunOutput.{RunOutput}
use Rattle.log_session.specs.Session.{Session}
use Rattle.log_session.specs.inside.RunOutput.{IsQuiet}

-- The output of an engine without a state of its own.
abbrev pub run_output_in : View (Unit {0}) → Session → List Record → RunOutput
run_output_in view = output_in view tt

-- How far a printer has come.
pub record PrinterState : Type 0 where
  -- the output for the records that are still to come
  pub run_output : List Record → RunOutput
  pub quiet : IsQuiet run_output
  -- the session before them
  pub session : Session

-- Of a command with a state of its own.
abbrev pub state_in : {State : Type 0} → View State → State → Session → PrinterState
state_in view state s = record {
  run_output = output_in view state s;
  quiet = record { silent = refl; unstopped = refl };
  session = s;
}
