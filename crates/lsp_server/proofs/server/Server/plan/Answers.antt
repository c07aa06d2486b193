use Rattle.lsp_server.proofs.Prelude.{rules, w32, to_z, of_z}
use Rattle.std.proofs.lemmas.Int.{to_z-of_z}
use Rattle.lsp_server.proofs.Changes.{planned_is, refused_is}
use Rattle.lsp_server.proofs.server.Server.plan.Goals as goal

pub returns-in-Ok-clause-planned : goal.returns-in-Ok-clause-planned
returns-in-Ok-clause-planned c =
    let number = c.args.params.now.version in
    planned_is c.args.self.now c.self.inside.store c.args.params.now _ _ _ _ c.in-Ok.plan (search rules) (search rules)
    (to_z-of_z w32 number (search rules)) (search rules) (search rules) c.requires c.in-Ok.ensures.planned

pub returns-in_ok-refused-in-Err-clause-planned : goal.returns-in_ok-refused-in-Err-clause-planned
returns-in_ok-refused-in-Err-clause-planned c =
    let number = c.args.params.now.version in
    refused_is c.args.self.now c.self.inside.store c.args.params.now c.deref.result.now (to_z w32 (of_z w32 number))
    c.unwrap_or-encoding.result c.deref-2.result.now c.in-Err.fault c.in_ok-refused-in-Err.field-0
    (search rules) (search rules) (to_z-of_z w32 number (search rules)) (search rules) (search rules) c.requires
    c.in_ok-refused-in-Err.ensures.refused c.in-Err.ensures.error
