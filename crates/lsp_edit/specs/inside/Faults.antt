-- What only proofs and private contracts use of `Faults`.
use Rattle.std.specs.Prelude.{◌≡◌}
use Rattle.lsp_edit.specs.Prelude.{ℕ, List, Result, Ok, Err, Range, EditFault}
use Rattle.lsp_edit.specs.Batch.{Fault, ends_of}
use Rattle.lsp_edit.specs.Faults.{fault_at, places_at}

-- Some range has these ends in a text.
pub record HasRange (text : List ℕ) (start stop : ℕ) : Type 0 where
  pub units : ℕ → ℕ
  pub range : Range
  pub ends : Ok (start, stop) ≡ places_at 0 text (ends_of units text range)

-- The two ends, or the fault with the number of its change.
abbrev pub numbered : ℕ → Result (ℕ × ℕ) Fault → Result (ℕ × ℕ) EditFault
numbered number (Ok ends) = Ok ends
numbered number (Err why) = Err (fault_at number why)
