use Rattle.lsp_message.proofs.Examples.{holds_on_examples}
use Rattle.lsp_message.proofs.MessageLemmas.{refused_rows, message_rows, id_law}
use Rattle.lsp_message.proofs.RefusalLemmas.{notification_law, refusal_law, named_law}
use Rattle.lsp_message.proofs.laws.message_laws.Goals as goal

pub returns : goal.returns
returns c = record {
  refused = refused_rows;
  rows = message_rows;
  ids = id_law;
  notification = notification_law;
  refusal = refusal_law;
  named = named_law;
  examples = holds_on_examples;
}
