use Rattle.lsp_store.proofs.Prelude.{◌≤◌, length, map, string_bytes, arith, length-map, rules, w32, to_z-of_z, content_change}
use Rattle.lsp_store.proofs.SquashLemmas.{few_refusal, many_refused}
use Rattle.lsp_store.proofs.squash.Batches.message.Goals as goal

pub returns-then-len-max_changes-clause-error : goal.returns-then-len-max_changes-clause-error
returns-then-len-max_changes-clause-error c =
    rw (← c.self.view_is) (many_refused (string_bytes c.self.inside.uri) c.self.inside.limits c.self.inside.encoding
    c.self.inside.joined c.self.inside.version (map content_change c.in_ok-batch.batch.items) c.in_ok-batch.ensures
    (omega (arith, length-map c.in_ok-batch.batch.items content_change)))

pub returns-clause-accepted : goal.returns-clause-accepted
returns-clause-accepted c =
    let few : length (map content_change c.in_ok-batch.batch.items) ≤ c.self.inside.limits.max_changes =
    omega (arith, length-map c.in_ok-batch.batch.items content_change) in
    rw (
      ← c.self.view_is,
      ← few_refusal (string_bytes c.self.inside.uri) c.self.inside.limits c.self.inside.encoding
          c.self.inside.joined c.self.inside.version _ c.in_ok-batch.ensures few,
    )
    (rw (c.deref.ensures, to_z-of_z w32 c.self.inside.version (search rules)) at c.change_frame.ensures.within)

pub returns-clause-error : goal.returns-clause-error
returns-clause-error c =
    let few : length (map content_change c.in_ok-batch.batch.items) ≤ c.self.inside.limits.max_changes =
    omega (arith, length-map c.in_ok-batch.batch.items content_change) in
    rw (
      ← c.self.view_is,
      ← few_refusal (string_bytes c.self.inside.uri) c.self.inside.limits c.self.inside.encoding
          c.self.inside.joined c.self.inside.version _ c.in_ok-batch.ensures few,
    )
    (rw (c.deref.ensures, to_z-of_z w32 c.self.inside.version (search rules)) at c.change_frame.ensures.error)
