use Rattle.lsp_message.proofs.Prelude.{sym, rules, w32, to_z-of_z, content_change_view}
use Rattle.std.proofs.lemmas.Simd.{map-map}
use Rattle.lsp_message.specs.Written as values
use Rattle.lsp_message.proofs.writer.documents.DidChangeWriteValue.write.Goals as goal

pub returns-clause-tokens : goal.returns-clause-tokens
returns-clause-tokens c =
    let batch = map-map values.content_change_value content_change_view c.args.self.now.changes.now in
    rw (batch, sym (to_z-of_z w32 c.args.self.now.version (search rules))) c.write_notification.ensures.tokens
