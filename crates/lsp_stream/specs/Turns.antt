-- How many calls were made, and how much is written.
use Rattle.std.specs.Prelude.{◌≡◌, ◌≢◌, ◌⊎◌, Bool, true, false, ℕ, ◌+◌, ◌<◌, ◌≤◌, ◌^◌, List, ◌++◌, length, Option, Result, IfErr, OnOk}
use Rattle.std.specs.Io.KnownBytes.{Appends}
use Rattle.lsp_stream.specs.declared.fault.EngineFault.{EngineFault}
use Rattle.lsp_stream.specs.declared.fault.EngineFault.TheVariants.{Read, Write, TooManyTurns}
use Rattle.lsp_stream.specs.Ports.{FewWrites, ReaderState, Rose, WriterState}

-- Each call used one of the turns that were left. Once a count is at its greatest value, it no
-- longer says how many calls were made.
pub record Spends (count_old count_new left_old left_new : ℕ) : Type 0 where
  pub within : left_new ≤ left_old
  pub least : count_old ≤ count_new
  pub most : count_new + left_new ≤ count_old + left_old
  pub exact : count_new + 1 < 2 ^ 64 → count_new + left_new ≡ count_old + left_old

-- Some first bytes were written.
abbrev pub AppendsFront : Option (List ℕ) → Option (List ℕ) → List ℕ → Type 0
AppendsFront old new bytes = (front rest : List ℕ) × (bytes ≡ front ++ rest) × Appends old new front

-- Only some first bytes were written, or all were and they are still to be flushed.
abbrev pub AppendsShort : Bool → Option (List ℕ) → Option (List ℕ) → List ℕ → Type 0
AppendsShort unflushed old new bytes =
    (front rest : List ℕ) × (bytes ≡ front ++ rest) × Appends old new front
    × ((0 < length rest) ⊎ (unflushed ≡ true))

-- No failure is passed over: if the last call before these had not failed, the last one now has not
-- either.
abbrev pub StaysWell : Bool → Bool → Type 0
StaysWell failed_old failed_new = failed_old ≡ false → failed_new ≡ false

-- Nothing is kept back: if all bytes had been flushed before these calls, all are flushed now.
abbrev pub StaysFlushed : Bool → Bool → Type 0
StaysFlushed flushed_old flushed_new = flushed_old ≡ true → flushed_new ≡ true

-- Reads were made, each in one of the turns that were left.
pub record ReadsWithin {A : Type 0} (left_before left_after : ℕ) (before after : ReaderState)
    (result : Result A EngineFault) : Type 0 where
  -- An answer comes after a read, and none that failed is passed over.
  pub rose : OnOk result (Rose before.calls after.calls)
  pub well : OnOk result (StaysWell before.failed after.failed)
  pub fault : IfErr result (λ fault. (fault ≡ Read) ⊎ (fault ≡ TooManyTurns))
  -- The last read failed, and it did not come to the end.
  pub failed : IfErr result (λ fault. fault ≡ Read → (after.failed ≡ true) × (after.ended ≡ false)
      × Rose before.calls after.calls)
  pub well_else : IfErr result (λ fault. fault ≢ Read → StaysWell before.failed after.failed)
  -- One more read was to be made than allowed.
  pub none_left : IfErr result (λ fault. fault ≡ TooManyTurns → left_after ≡ 0)
  pub not_ended : IfErr result (λ fault. fault ≡ TooManyTurns → before.ended ≡ false →
      after.ended ≡ false)
  pub spent : Spends before.calls after.calls left_before left_after

-- Writes and flushes were made, each in one of the turns that were left.
pub record WritesWithin {A : Type 0} (left_before left_after : ℕ) (before after : WriterState)
    (result : Result A EngineFault) : Type 0 where
  -- None that failed is passed over.
  pub well : OnOk result (StaysWell before.failed after.failed)
  -- The last call failed.
  pub failed : IfErr result (λ fault. fault ≡ Write →
      (after.failed ≡ true) × Rose before.calls after.calls)
  pub well_else : IfErr result (λ fault. fault ≢ Write → StaysWell before.failed after.failed)
  -- One more call was to be made than allowed.
  pub none_left : IfErr result (λ fault. fault ≡ TooManyTurns → left_after ≡ 0)
  pub spent : Spends before.calls after.calls left_before left_after

-- Writes and flushes were made within those that were left, unless one failed.
pub record WritesFew {A : Type 0} (before after : WriterState) (result : Result A EngineFault)
    : Type 0 where
  pub ok : OnOk result (FewWrites before after)
  pub error : IfErr result (λ fault. fault ≢ Write → FewWrites before after)
