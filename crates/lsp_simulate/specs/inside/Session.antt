-- A session on its way.
use Rattle.std.specs.Prelude.{◌≡◌, ◌∷◌}
use Rattle.lsp_simulate.specs.Prelude.{ℕ, [], false, List, length, Option, Appends, EngineFault, WriterState, Spends, allowed_turns, Happened, EventData, PairData, IsFitting, IsStep, new_pair, Setting, RunFault}
use Rattle.lsp_stream.specs.declared.fault.EngineFault.TheVariants.{NoMemory}
use Rattle.lsp_simulate.specs.declared.run.RunFault.TheVariants as run
use Rattle.lsp_simulate.specs.inside.Lines.{Passed}
use Rattle.lsp_simulate.specs.Session.{AreSteps, PairStep, next_line_number, pair_setting, step_line, step_lines}

-- The fault of a run whose input has this fault: out of memory, or a fault of reading.
abbrev pub read_fault : EngineFault → RunFault
read_fault NoMemory = run.NoMemory
read_fault fault = run.Read

-- A step was made, and this is its line.
pub record IsStepLine (old new : PairData) (number : ℕ) (line : List ℕ) : Type 0 where
  pub event : EventData
  pub happened : Happened
  pub is_step : IsStep old event happened new
  pub is : line ≡ step_line number happened

-- The lines of some steps were written, the last with this number, and so many turns are left. Of the
-- input their lines are taken, and these bytes are still to be taken.
pub record IsUnderWay (setting : Setting) (input later : Option (List ℕ)) (before now : WriterState)
    (left number : ℕ) (pair : PairData) : Type 0 where
  pub fits : IsFitting (pair_setting setting)
  pub steps : List PairStep
  pub are_steps : AreSteps (new_pair (pair_setting setting)) steps pair
  pub last : next_line_number number ≡ next_line_number (length steps)
  pub taken : Passed input (length steps) false later
  pub written : Appends before.written now.written (step_lines 0 steps)
  pub spent : Spends before.calls now.calls allowed_turns left
