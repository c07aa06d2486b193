-- A program's streams, the text of help, lines on standard error, the output's last flush, and how
-- many calls may be made.
use Rattle.std.specs.Prelude.{ℕ, ◌≡◌, ◌⊎◌, [], true, false, List, decimal, Option, Some, None, Result, Ok, Err}
use Rattle.std.specs.Io.KnownBytes.{Appends}
use Rattle.lsp_stream.specs.declared.fault.EngineFault.{EngineFault}
use Rattle.lsp_stream.specs.declared.fault.EngineFault.TheVariants.{Write, NoMemory, TooManyTurns}
use Rattle.lsp_stream.specs.Ports.{ReaderState, Rose, WriterState}
use Rattle.lsp_stream.specs.Turns.{AppendsFront, Spends}

-- How many reads, writes and flushes a run may make. The last flush may be tried as often, and so
-- may the writes of a line on standard error.
abbrev pub allowed_turns : ℕ
allowed_turns = 1099511627776

-- What is known of a program's streams.
pub record Streams : Type 0 where
  -- standard input, output and error
  pub reader : ReaderState
  pub writer : WriterState
  pub errors : WriterState

-- These streams.
abbrev pub streams : ReaderState → WriterState → WriterState → Streams
streams reader writer errors = record { reader = reader; writer = writer; errors = errors }

-- The decimal digits of a number, or nothing.
abbrev pub digits_of : Option ℕ → List ℕ
digits_of None = []
digits_of (Some number) = decimal number

-- The writer failed at its last call, or each call that was allowed was made.
abbrev pub IsStopped : WriterState → WriterState → EngineFault → Type 0
IsStopped before after fault =
    ((fault ≡ Write) × (after.failed ≡ true) × Rose before.calls after.calls)
    ⊎ ((fault ≡ TooManyTurns) × Spends before.calls after.calls allowed_turns 0)

-- The last flush, and what it answered. After one that succeeded all that was written is flushed.
abbrev pub IsFlushed : WriterState → WriterState → Result (Unit {0}) EngineFault → Type 0
IsFlushed before after (Ok _) = (after.flushed ≡ true) × (after.failed ≡ false)
    × Rose before.calls after.calls
IsFlushed before after (Err fault) = IsStopped before after fault

-- A text was written. Else some first bytes of it were, and then the writer failed.
abbrev pub IsPrinted : List ℕ → WriterState → WriterState → Result (Unit {0}) EngineFault → Type 0
IsPrinted text before after (Ok _) = Appends before.written after.written text
IsPrinted text before after (Err fault) = AppendsFront before.written after.written text
    × IsStopped before after fault

-- A text of `clap` was written and flushed. Else memory ran out and nothing was written, or the
-- writer failed.
abbrev pub IsTextPrinted : WriterState → WriterState → Result (Unit {0}) EngineFault → Type 0
IsTextPrinted before after (Ok _) = (after.flushed ≡ true)
    × ((text : List ℕ) × Appends before.written after.written text)
IsTextPrinted before after (Err fault) = ((fault ≡ NoMemory) × (after ≡ before))
    ⊎ IsStopped before after fault
