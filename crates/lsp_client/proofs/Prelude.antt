-- What more than one proof of this crate imports, so that each names it by one line.
pub use Rattle.std.proofs.Common.{Err, List, None, Ok, Option, Result, Some, [], ap, inl, inr, map, of_z, refl, rules, string_bytes, sym, to_z, w32, ℕ, ℤ, ◌∙◌, ◌∷◌, ◌≡◌, ◌≢◌}
pub use Rattle.std.proofs.lemmas.Int.{to_z-of_z}
pub use Rattle.std.proofs.lemmas.Result.{err_from_is_err_and}
pub use Rattle.lsp_client.specs.Seen.{IsFaultOf, IsSent, client_fault, edit_order, open_order}
pub use Rattle.lsp_client.specs.Step.{ClientData, agreement}
pub use Rattle.lsp_client.specs.inside.Orders.{IsOrderFault, order_refusal, whole_change}
pub use Rattle.lsp_edit.specs.Batch.{ContentChange}
pub use Rattle.lsp_edit.specs.Edited.{content_change}
pub use Rattle.lsp_frame.specs.Frame.{frame}
pub use Rattle.lsp_message.specs.Outgoing.{body_of, did_close, did_open}
pub use Rattle.lsp_message.specs.Params.{DocumentItem}
pub use Rattle.lsp_message.specs.Seen.{message_view}
pub use Rattle.lsp_message.specs.declared.agreement.SyncKind.{SyncKind}
pub use Rattle.lsp_message.specs.declared.agreement.SyncKind.TheVariants.{Full, Incremental, Off}
pub use Rattle.lsp_store.specs.Faults.{IsRefusal}
pub use Rattle.lsp_store.specs.Message.{whole_text}
pub use Rattle.lsp_store.specs.Opened.{StoreData, Takes}
pub use Rattle.lsp_store.specs.Table.{Command, already_open, changes, command_refusal, entry_at, table_after}
pub use Rattle.lsp_store.specs.declared.fault.StoreFault.{StoreFault}
pub use Rattle.lsp_text.specs.Units.{units_in}
pub use Rattle.lsp_text.specs.declared.encoding.Encoding.{Encoding}
