use Rattle.lsp_client.proofs.Prelude.{Result, Ok, Err, message_view}
use Rattle.std.proofs.Common.{OnErr}
use Rattle.lsp_message.proofs.Readings.{message_utf8}
use Rattle.lsp_client.proofs.client.Client.deliver_body.Goals as goal

on_err : {T E P : Type 0} (r : Result T E) → P → OnErr r P
on_err (Ok x) p = tt
on_err (Err y) p = p

pub returns-in-Ok-clause-memory : goal.returns-in-Ok-clause-memory
returns-in-Ok-clause-memory c =
    on_err c.deliver_message.result
    (message_utf8 c.args.body.now (message_view c.in-Ok.message) c.in-Ok.ensures.ok)
