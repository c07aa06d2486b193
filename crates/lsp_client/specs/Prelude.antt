-- What these definitions import from below, so that each names it by one line.
pub use Rattle.std.specs.Prelude.{Bool, Err, List, None, Ok, Option, Result, Some, String, [], codes, false, if◌then◌else◌, map, pos, string_bytes, true, unwrap_or, ℕ, ℤ, ◌==◌, ◌≡◌, ◌⊎◌}
pub use Rattle.std.specs.Str.{IsUtf8, chars}
pub use Rattle.lsp_client.specs.declared.fault.ClientFault.{ClientFault}
pub use Rattle.lsp_client.specs.declared.fault.ClientFault.TheVariants.{NoMemory, Store, WrongPhase}
pub use Rattle.lsp_client.specs.declared.phase.Phase.TheVariants.{Asked, Closed, Closing, Done, Failed, New, Ready}
pub use Rattle.lsp_edit.specs.Batch.{ContentChange}
pub use Rattle.lsp_frame.specs.Limits.{LimitsData}
pub use Rattle.lsp_message.specs.Outgoing.{OutgoingData, body_of, did_close, did_open, error_reply, exit, initialize, initialized, shutdown}
pub use Rattle.lsp_message.specs.Params.{DocumentItem}
pub use Rattle.lsp_message.specs.declared.agreement.SyncKind.{SyncKind}
pub use Rattle.lsp_store.specs.Faults.{IsRefusal, fault_code, refusal_fault}
pub use Rattle.lsp_store.specs.Message.{body_refusal, canonical_batch, change_message, else_refused, whole_batch}
pub use Rattle.lsp_store.specs.Table.{Command, Refusal, close_refusal, command_refusal, open_refusal, table_after}
