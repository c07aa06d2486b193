use Rattle.lsp_message.proofs.Prelude.{sym, rules, w32, to_z-of_z}
use Rattle.lsp_message.proofs.writer.OutgoingWriteValue.write.Goals as goal

pub returns-in-Initialized-clause-tokens : goal.returns-in-Initialized-clause-tokens
returns-in-Initialized-clause-tokens c = rw c.in-Initialized.is c.write_notification.ensures.tokens

pub returns-in-DidOpen-clause-tokens : goal.returns-in-DidOpen-clause-tokens
returns-in-DidOpen-clause-tokens c =
    rw (
      c.in-DidOpen.is,
      sym (to_z-of_z w32 c.in-DidOpen.params.version (search rules)),
      sym c.as_str.ensures.value,
      sym c.as_str-in-DidOpen.ensures.value,
      sym c.as_str-in-DidOpen-2.ensures.value,
    ) c.write_notification-in-DidOpen.ensures.tokens

pub returns-in-DidClose-clause-tokens : goal.returns-in-DidClose-clause-tokens
returns-in-DidClose-clause-tokens c =
    rw (c.in-DidClose.is, sym c.as_str-in-DidClose.ensures.value) c.write_notification-in-DidClose.ensures.tokens
