use Rattle.lsp_message.proofs.Prelude.{sym, rules, w32, to_z-of_z}
use Rattle.lsp_message.proofs.BodyLemmas.{body_is}
use Rattle.lsp_message.proofs.ReadBack.{body_of-unique}
use Rattle.lsp_message.proofs.writer.push_change.Goals as goal

pub returns-clause-ok : goal.returns-clause-ok
returns-clause-ok c = rw (body_is, sym (to_z-of_z w32 c.args.version (search rules))) c.push.ensures.ok

pub returns-clause-unique : goal.returns-clause-unique
returns-clause-unique c = body_of-unique
