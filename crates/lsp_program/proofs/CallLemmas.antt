-- Calls of a writer one after another, and what they wrote.
use Rattle.std.proofs.Common.{◌≡◌, ◌⊎◌, ◌≤◌, ◌<◌, inl, inr, ℕ, List, ◌++◌, Option, Err, ap, sym, ◌∙◌, subst, arith, append_assoc}
use Rattle.std.proofs.KnownBytes.{Appends-trans}
use Rattle.std.specs.Io.KnownBytes.{Appends}
use Rattle.lsp_stream.specs.declared.fault.EngineFault.{EngineFault}
use Rattle.lsp_stream.specs.declared.fault.EngineFault.TheVariants.{TooManyTurns, Write}
use Rattle.lsp_stream.specs.Ports.{Rose, WriterState}
use Rattle.lsp_stream.specs.Turns.{AppendsFront, Spends, WritesWithin}
use Rattle.lsp_program.specs.Output.{IsStopped, allowed_turns}

pub spends_more : (a b c left mid right : ℕ) → Spends a b left mid → Spends b c mid right → Spends a c left right
spends_more a b c left mid right first second = record {
  within = omega (arith, first.within, second.within);
  least = omega (arith, first.least, second.least);
  most = omega (arith, first.most, second.most);
  exact = λ h. omega (arith, h, first.exact, second.exact, second.least);
}

pub rose_after : (a b c : ℕ) → a ≤ b → Rose b c → Rose a c
rose_after a b c least rose = λ h. let more : b < c = rose h in omega (arith, more, least)

pub front_after : (old mid new : Option (List ℕ)) (before bytes : List ℕ) → Appends old mid before
    → AppendsFront mid new bytes → AppendsFront old new (before ++ bytes)
front_after old mid new before bytes wrote some = (
  before ++ some.0,
  some.1,
  ap (λ z. before ++ z) some.2 ∙ sym (append_assoc before some.0 some.1),
  Appends-trans old mid new before some.0 wrote some.3,
)

pub front_before : (old new : Option (List ℕ)) (bytes rest : List ℕ) → AppendsFront old new bytes
    → AppendsFront old new (bytes ++ rest)
front_before old new bytes rest some = (
  some.0,
  some.1 ++ rest,
  ap (λ z. z ++ rest) some.2 ∙ append_assoc some.0 some.1 rest,
  some.3,
)

-- Calls after others stopped the writer.
pub stopped_after : (before mid after : WriterState) (between right : ℕ) (fault : EngineFault)
    → Spends before.calls mid.calls allowed_turns between
    → WritesWithin {A = Unit {0}} between right mid after (Err fault)
    → (fault ≡ Write) ⊎ (fault ≡ TooManyTurns) → IsStopped before after fault
stopped_after before mid after between right fault spent calls (inl is) =
    inl (is, (calls.failed is).0, rose_after before.calls mid.calls after.calls spent.least (calls.failed is).1)
stopped_after before mid after between right fault spent calls (inr is) =
    inr (
      is,
      subst (λ (n : ℕ). Spends before.calls after.calls allowed_turns n) (calls.none_left is)
          (spends_more before.calls mid.calls after.calls allowed_turns between right spent calls.spent),
    )
