-- Words of which none depends on what happened.
use Rattle.std.specs.Prelude.{if◌then◌else◌, is_ok}
use Rattle.lsp_simulate.proofs.Prelude.{List, ℕ, Result, Ok, Err, ◌≡◌, OnOk}

pub appended : {A E : Type 0} {all : List ℕ} (more old : List ℕ) (result : Result A E)
    → all ≡ (if is_ok result then more else old) → OnOk result (all ≡ more)
appended more old (Ok done) is = is
appended more old (Err fault) is = tt
