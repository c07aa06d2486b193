-- What only proofs and private contracts use of `Turns`.
use Rattle.std.specs.Prelude.{◌≡◌, ◌≢◌, Bool, true, Result, IfErr, OnOk}
use Rattle.lsp_stream.specs.declared.fault.EngineFault.{EngineFault}
use Rattle.lsp_stream.specs.declared.fault.EngineFault.TheVariants.{Write, TooManyTurns}
use Rattle.lsp_stream.specs.Ports.{WriterState}
use Rattle.lsp_stream.specs.Turns.{StaysFlushed}

-- Where each output is flushed before more is read, nothing is kept back: after an answer, and
-- after each fault but those of writing and of too many turns.
pub record LeavesFlushed {A : Type 0} (flushes : Bool) (before after : WriterState)
    (result : Result A EngineFault) : Type 0 where
  pub flushed : OnOk result (flushes ≡ true → StaysFlushed before.flushed after.flushed)
  pub flushed_else : IfErr result (λ fault. flushes ≡ true → fault ≢ Write → fault ≢ TooManyTurns →
      StaysFlushed before.flushed after.flushed)
