-- What a reader and a writer report of their calls.
use Rattle.std.specs.Prelude.{◌≡◌, ◌≢◌, ℕ, ◌+◌, ◌<◌, ◌≤◌, ◌-◌, ◌^◌, min, max, Bool, true, false, ◌&&◌, ◌==◌, List, length, Option, Result, Ok, Err}
use Rattle.std.specs.declared.io.Error.{Error}
use Rattle.std.specs.declared.io.ErrorKind.TheVariants.{Interrupted}
use Rattle.std.specs.IoError.{error_kind}

-- What is known of a reader.
pub record ReaderState : Type 0 where
  -- the bytes that are left to read, where they are known
  pub left : Option (List ℕ)
  -- Did the last read fail?
  pub failed : Bool
  -- how many reads were made
  pub calls : ℕ
  -- how many more can be counted, at most, before one at the end
  pub calls_left : ℕ
  -- Did the last read come to the end?
  pub ended : Bool

-- What is known of a writer.
pub record WriterState : Type 0 where
  -- the bytes that it holds, where they are known
  pub written : Option (List ℕ)
  -- Did the last write or flush fail?
  pub failed : Bool
  -- how many writes and flushes were made
  pub calls : ℕ
  -- how many more can be counted, at most, before one fails, if no write is empty and no flush
  -- comes where all is flushed
  pub calls_left : ℕ
  -- Is all that it took flushed?
  pub flushed : Bool

-- What is known of both.
pub record Ports : Type 0 where
  pub reader : ReaderState
  pub writer : WriterState

-- The two as a record.
abbrev pub ports : ReaderState → WriterState → Ports
ports reader writer = record { reader = reader; writer = writer }

-- A read failed: it returned an error other than an interruption.
abbrev pub IsReadFailure : Result ℕ Error → Type 0
IsReadFailure (Ok n) = ⊥
IsReadFailure (Err e) = error_kind e ≢ Interrupted

-- A write failed: it returned an error other than an interruption, or took nothing of some bytes.
abbrev pub IsWriteFailure : Result ℕ Error → List ℕ → Type 0
IsWriteFailure (Ok n) bytes = (n ≡ 0) × (0 < length bytes)
IsWriteFailure (Err e) bytes = error_kind e ≢ Interrupted

-- A flush failed: it returned an error other than an interruption.
abbrev pub IsFlushFailure : Result (Unit {0}) Error → Type 0
IsFlushFailure (Ok _) = ⊥
IsFlushFailure (Err e) = error_kind e ≢ Interrupted

-- Whether all that was taken is flushed after a write: if all was flushed before, and the write
-- took no byte.
abbrev pub flushed_after_write : Bool → Result ℕ Error → Bool
flushed_after_write flushed (Ok n) = flushed && n == 0
flushed_after_write flushed (Err e) = flushed

-- Whether all that was taken is flushed after a flush. One that failed or was interrupted changes
-- nothing.
abbrev pub flushed_after_flush : Bool → Result (Unit {0}) Error → Bool
flushed_after_flush flushed (Ok _) = true
flushed_after_flush flushed (Err e) = flushed

-- A read is at the end: it had room and returned 0.
abbrev pub IsEnd : List ℕ → Result ℕ Error → Type 0
IsEnd room (Ok n) = (0 < length room) × (n ≡ 0)
IsEnd room (Err e) = ⊥

-- One call more. A count saturates at `u64::MAX`.
abbrev pub one_more : ℕ → ℕ
one_more n = max n (min (n + 1) (2 ^ 64 - 1))

-- A count rose, unless it is at its greatest value.
abbrev pub Rose : ℕ → ℕ → Type 0
Rose old new = new + 1 < 2 ^ 64 → old < new

-- How many calls are left when so many were made, for a reader or a writer of which nothing else is
-- known: their count goes no further.
abbrev pub uncounted : ℕ → ℕ
uncounted calls = 2 ^ 64 - 1 - calls

-- Reads were made within those that were left, but for one at the end.
pub record FewReads (before after : ReaderState) : Type 0 where
  pub most : after.calls + after.calls_left ≤ before.calls + before.calls_left + 1
  pub not_ended : after.ended ≡ false →
      after.calls + after.calls_left ≤ before.calls + before.calls_left

-- Writes and flushes were made within those that were left.
abbrev pub FewWrites : WriterState → WriterState → Type 0
FewWrites before after = after.calls + after.calls_left ≤ before.calls + before.calls_left
