-- A command on a log.
use Rattle.laspidru.proofs.Prelude.{◌≡◌, ◌<◌, ◌^◌, ◌⊎◌, ℕ, Bool, false, true, List, [], length, Option, Result, Err, inl, inr, sym, ◌∙◌, arith, ◌≢◌, OUT_OF_MEMORY, Object}
use Rattle.lsp_stream.specs.declared.fault.EngineFault.{EngineFault}
use Rattle.lsp_stream.specs.declared.fault.EngineFault.TheVariants.{TooManyTurns, Write}
use Rattle.log_session.specs.declared.settings.Settings.{Settings}
use Rattle.log_session.specs.Run.{IsEngineRun}
use Rattle.log_session.specs.declared.outcome.Outcome.{Outcome}
use Rattle.laspidru.specs.declared.command.Command.{Command}
use Rattle.laspidru.specs.declared.endings.Ending.{Ending}
use Rattle.laspidru.specs.declared.endings.LogSettings.{LogSettings}
use Rattle.laspidru.specs.Logs.{IsCommand, IsCommandRun, IsKept, IsKeptRun, RanOn, RunAsked, command_engine, command_turns, ending_out, log_ports}

-- It ran, and its output was kept, or out of memory.
pub ran_and_kept : (it : Command) (settings : Settings) (log output : List ℕ) (answer : Result Outcome EngineFault)
    (code : ℕ) (stored : Option Object) (out : Ending) → RanOn it settings log output answer
    → (code ≡ OUT_OF_MEMORY) ⊎ IsKept (ending_out (length output) answer) output code stored out
    → (code ≡ OUT_OF_MEMORY) ⊎ IsKeptRun it settings log code stored out
ran_and_kept it settings log output answer code stored out ran (inl none) = inl none
ran_and_kept it settings log output answer code stored out ran (inr ended) =
    inr (record { output = output; answer = answer; ran = ran; ended = ended })

-- It is the command of a name.
pub command_ran : (asked : RunAsked) (settings : LogSettings) (log : List ℕ) (it : Command) (code : ℕ)
    (stored : Option Object) (out : Ending) → IsCommand asked.name settings asked.uri it
    → (code ≡ OUT_OF_MEMORY) ⊎ IsKeptRun it asked.settings log code stored out
    → (code ≡ OUT_OF_MEMORY) ⊎ IsCommandRun asked settings log code stored out
command_ran asked settings log it code stored out is (inl none) = inl none
command_ran asked settings log it code stored out is (inr run) = inr (record { it = it; is = is; run = run })

not_write : (answer : Result Outcome EngineFault) → answer ≡ Err TooManyTurns → answer ≢ Err Write
not_write answer is write = let two : ◌≡◌ {A = Result Outcome EngineFault} (Err TooManyTurns) (Err Write) =
    sym is ∙ write in cc

-- As many reads and writes as are needed are allowed.
pub enough_turns : (it : Command) (settings : Settings) (log left output : List ℕ) (reads : ℕ) (ended failed : Bool)
    (writes : ℕ) (flushed : Bool) (answer : Result Outcome EngineFault)
    → IsEngineRun (command_engine it settings) command_turns (log_ports log 0 false [] false 0 true)
    (log_ports left reads ended output failed writes flushed) answer → length log < 2 ^ 63 → answer ≢ Err TooManyTurns
enough_turns it settings log left output reads ended failed writes flushed answer run small is =
    let read = run.few.reads in
    let written = run.few.writes (not_write answer is) in
    omega (arith, small, read, written, run.called.too_many is (omega (arith, small, read)) (omega (arith, written)))
