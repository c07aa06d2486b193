-- The first of two refusals.
use Rattle.lsp_store.proofs.Prelude.{◌≡◌, Option, None, arith, common_steps, Refusal, else_refused}

pub first_none : (first later : Option Refusal) → else_refused first later ≡ None → first ≡ None
first_none first later e = grind (arith, common_steps)

pub later_none : (first later : Option Refusal) → else_refused first later ≡ None → later ≡ None
later_none first later e = grind (arith, common_steps)
