-- Limits beside other limits.
use Rattle.std.specs.Prelude.{◌≤◌}
use Rattle.lsp_store.specs.Prelude.{IsTrue, LimitsData}

-- Each of the limits is at most the other's, and they are lenient only if the others are.
pub record AreWithin (small great : LimitsData) : Type 0 where
  pub body : small.max_body ≤ great.max_body
  pub text : small.max_text ≤ great.max_text
  pub docs : small.max_docs ≤ great.max_docs
  pub changes : small.max_changes ≤ great.max_changes
  pub lenient : IsTrue small.lenient → IsTrue great.lenient
