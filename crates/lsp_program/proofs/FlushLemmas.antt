-- What the last flush answered.
use Rattle.std.specs.Prelude.{ℕ, ◌≡◌, ◌⊎◌, true, false, Result, Ok, Err, OnOk, IfErr}
use Rattle.std.proofs.Common.{inl, inr, subst}
use Rattle.lsp_stream.specs.declared.fault.EngineFault.{EngineFault}
use Rattle.lsp_stream.specs.declared.fault.EngineFault.TheVariants.{TooManyTurns, Write}
use Rattle.lsp_stream.specs.Ports.{Rose, WriterState}
use Rattle.lsp_stream.specs.Turns.{Spends, WritesWithin}
use Rattle.lsp_program.specs.Output.{IsFlushed, allowed_turns}

pub flushed_of : (before after : WriterState) (most left : ℕ) (answer : Result (Unit {0}) EngineFault)
    → most ≡ allowed_turns
    → OnOk answer ((after.failed ≡ false) × Rose before.calls after.calls) → OnOk answer (after.flushed ≡ true)
    → IfErr answer (λ fault. (fault ≡ Write) ⊎ (fault ≡ TooManyTurns))
    → WritesWithin most left before after answer → IsFlushed before after answer
flushed_of before after most left (Ok _) all ok passed fault calls = (passed, ok.0, ok.1)
flushed_of before after most left (Err _) all ok passed (inl is) calls =
    inl (is, (calls.failed is).0, (calls.failed is).1)
flushed_of before after most left (Err _) all ok passed (inr is) calls =
    inr (
      is,
      subst (λ n. Spends before.calls after.calls allowed_turns n) (calls.none_left is)
          (subst (λ n. Spends before.calls after.calls n left) all calls.spent),
    )
