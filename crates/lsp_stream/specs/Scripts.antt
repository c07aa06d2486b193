-- How the calls of a scripted reader and of a scripted writer end.
use Rattle.std.specs.Prelude.{ℕ, ◌≡◌, ◌≢◌, ◌+◌, ◌-◌, ◌^◌, min, max, List, [], ◌∷◌, Result, Ok, Err}
use Rattle.std.specs.declared.io.Error.{Error}
use Rattle.std.specs.declared.io.ErrorKind.TheVariants.{Interrupted, OutOfMemory}
use Rattle.std.specs.IoError.{error_kind}
use Rattle.lsp_stream.specs.declared.stop.CallEnd.{CallEnd}
use Rattle.lsp_stream.specs.declared.stop.CallEnd.TheVariants.{Take, Interrupt, Fail}

-- The next call of a script, or what the calls after its end do.
abbrev pub scripted_call : List CallEnd → CallEnd → CallEnd
scripted_call [] others = others
scripted_call (call ∷ rest) others = call

-- The rest of a script after its next call.
abbrev pub rest_of : List CallEnd → List CallEnd
rest_of [] = []
rest_of (call ∷ rest) = rest

-- What a read returns that has so many bytes to copy: the scripted number of them, and at least
-- one.
abbrev pub IsScriptedRead : CallEnd → ℕ → Result ℕ Error → Type 0
IsScriptedRead (Take most) room (Ok n) = n ≡ min (max most 1) room
IsScriptedRead (Take most) room (Err e) = ⊥
IsScriptedRead Interrupt room (Ok n) = ⊥
IsScriptedRead Interrupt room (Err e) = error_kind e ≡ Interrupted
IsScriptedRead Fail room (Ok n) = ⊥
IsScriptedRead Fail room (Err e) = error_kind e ≢ Interrupted

-- What a write of so many bytes returns: the scripted number of them, unless it is out of
-- memory.
abbrev pub IsScriptedWrite : CallEnd → ℕ → Result ℕ Error → Type 0
IsScriptedWrite (Take most) len (Ok n) = n ≡ min most len
IsScriptedWrite (Take most) len (Err e) = error_kind e ≡ OutOfMemory
IsScriptedWrite Interrupt len (Ok n) = ⊥
IsScriptedWrite Interrupt len (Err e) = error_kind e ≡ Interrupted
IsScriptedWrite Fail len (Ok n) = ⊥
IsScriptedWrite Fail len (Err e) = error_kind e ≢ Interrupted

-- What a flush returns, and how many have succeeded then. Their count stays at the greatest value
-- of a `usize`.
abbrev pub IsScriptedFlush : CallEnd → ℕ → ℕ → Result (Unit {0}) Error → Type 0
IsScriptedFlush (Take most) before now (Ok _) = now ≡ min (before + 1) (2 ^ 64 - 1)
IsScriptedFlush (Take most) before now (Err e) = ⊥
IsScriptedFlush Interrupt before now (Ok _) = ⊥
IsScriptedFlush Interrupt before now (Err e) = (error_kind e ≡ Interrupted) × (now ≡ before)
IsScriptedFlush Fail before now (Ok _) = ⊥
IsScriptedFlush Fail before now (Err e) = (error_kind e ≢ Interrupted) × (now ≡ before)
