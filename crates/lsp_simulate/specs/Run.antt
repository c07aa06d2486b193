-- What the program does with its words, and the status that it ends with.
use Rattle.std.specs.Prelude.{◌≡◌, ◌⊎◌, ◌++◌}
use Rattle.lsp_simulate.specs.Prelude.{ℕ, List, Option, Some, None, codes, decimal, Result, Ok, Err, Keeps, kind_of, Error, EngineFault, WriterState, ports, IsFlushed, IsPrinted, IsTextPrinted, Streams, PairFault, NotUtf16, LimitsTooSmall, Setting, RunFault, Pair, Read, BadEvent}
use Rattle.clap.specs.declared.error.kind.ErrorKind.{ErrorKind}
use Rattle.clap.specs.declared.error.kind.ErrorKind.TheVariants as kind
use Rattle.lsp_stream.specs.declared.fault.EngineFault.TheVariants as engine
use Rattle.lsp_simulate.specs.declared.run.RunFault.TheVariants.{Write, NoMemory}
use Rattle.lsp_simulate.specs.Session.{WroteSession}
use Rattle.lsp_simulate.specs.Setting.{AreWordsReadAs}

-- The exit status after a fault.
abbrev pub run_fault_status : RunFault → ℕ
run_fault_status (Pair fault) = 2
run_fault_status Read = 3
run_fault_status Write = 3
run_fault_status NoMemory = 4
run_fault_status (BadEvent line) = 5

-- Why no pair has a setting.
abbrev pub pair_text : PairFault → List ℕ
pair_text NotUtf16 = codes "the server's encoding is fixed, and is not utf-16"
pair_text LimitsTooSmall =
    codes "one of the server's limits is below the client's, or only the client is lenient"

-- The text of a fault.
abbrev pub run_fault_text : RunFault → List ℕ
run_fault_text (Pair fault) = pair_text fault
run_fault_text Read = codes "read fault"
run_fault_text Write = codes "write fault"
run_fault_text NoMemory = codes "out of memory"
run_fault_text (BadEvent line) = codes "bad event at line " ++ decimal line

-- A line on standard error.
abbrev pub line : List ℕ → List ℕ
line text = codes "lsp_simulate: " ++ (text ++ codes "\n")

-- A status ends the program, and so much of a line was printed as standard error took.
abbrev pub EndsWith : ℕ → List ℕ → WriterState → WriterState → ℕ → Type 0
EndsWith wanted text before after status = (status ≡ wanted)
    × ((printed : Result (Unit {0}) EngineFault) × IsPrinted (line text) before after printed)

-- A fault ends the program with its status and its line.
abbrev pub IsReported : RunFault → WriterState → WriterState → ℕ → Type 0
IsReported fault = EndsWith (run_fault_status fault) (run_fault_text fault)

-- The fault of a run whose output has this fault: out of memory, or a fault of writing.
abbrev pub run_fault : EngineFault → RunFault
run_fault engine.NoMemory = NoMemory
run_fault fault = Write

-- Status 0 ends the program, and nothing is printed; or the fault of the output is reported.
abbrev pub IsOutputEnd : Result (Unit {0}) EngineFault → WriterState → WriterState → ℕ → Type 0
IsOutputEnd (Ok _) before after status = (status ≡ 0) × (after ≡ before)
IsOutputEnd (Err fault) before after status = IsReported (run_fault fault) before after status

-- The end after a session and the last flush: the first fault is reported.
abbrev pub IsSessionEnd : Result (Unit {0}) RunFault → Result (Unit {0}) EngineFault → WriterState →
    WriterState → ℕ → Type 0
IsSessionEnd (Ok _) flushed before after status = IsOutputEnd flushed before after status
IsSessionEnd (Err fault) flushed before after status = IsReported fault before after status

-- A session ran, and then its output was flushed, whatever came of it. So with status 0 all of the
-- input was read, and all its lines were written and flushed.
pub record IsSession (setting : Setting) (before after : Streams) (status : ℕ) : Type 0 where
  pub result : Result (Unit {0}) RunFault
  pub flushed : Result (Unit {0}) EngineFault
  -- the writer between the session and the flush
  pub writer : WriterState
  pub wrote : WroteSession setting result (ports before.reader before.writer)
      (ports after.reader writer)
  pub kept : Keeps writer.written after.writer.written
  pub flush : IsFlushed writer after.writer flushed
  pub ends : IsSessionEnd result flushed before.errors after.errors status

-- What the program does with words that are no call. Out of memory is reported, the text of a mistake
-- is printed, with status 2, and help and the version are written.
pub record IsWithoutSession (k : ErrorKind) (before after : Streams) (status : ℕ) : Type 0 where
  -- nothing is read
  pub reader : after.reader ≡ before.reader
  pub memory : k ≡ kind.OutOfMemory → (after.writer ≡ before.writer)
      × IsReported NoMemory before.errors after.errors status
  pub mistake : (k ≡ kind.OutOfMemory → ⊥) → (k ≡ kind.DisplayHelp → ⊥) →
      (k ≡ kind.DisplayVersion → ⊥)
      → (after.writer ≡ before.writer) × (status ≡ 2)
      × ((printed : Result (Unit {0}) EngineFault)
      × IsTextPrinted before.errors after.errors printed)
  pub help : (k ≡ kind.DisplayHelp) ⊎ (k ≡ kind.DisplayVersion)
      → (printed : Result (Unit {0}) EngineFault)
      × IsTextPrinted before.writer after.writer printed
      × IsOutputEnd printed before.errors after.errors status

-- What the program does with what its words are read as. Where that is neither a setting nor a
-- fault, it ends with status 2 alone.
abbrev pub IsSimulationOf : Result (Option Setting) Error → Streams → Streams → ℕ → Type 0
IsSimulationOf (Ok (Some setting)) before after status = IsSession setting before after status
IsSimulationOf (Ok None) before after status = (status ≡ 2) × (after ≡ before)
IsSimulationOf (Err error) before after status =
    IsWithoutSession (kind_of error) before after status

-- A run of the program with these words: what they are read as, and that this is done.
pub record IsSimulation (words : List (List ℕ)) (before after : Streams) (status : ℕ) : Type 0 where
  pub read : Result (Option Setting) Error
  pub words_are : AreWordsReadAs words read
  pub done : IsSimulationOf read before after status
