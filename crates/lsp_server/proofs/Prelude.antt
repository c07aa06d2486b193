-- What more than one proof of this crate imports, so that each names it by one line.
pub use Rattle.std.proofs.Common.{Bool, Err, IfErr, IfOk, List, None, Ok, OnErr, OnOk, Option, Result, Some, [], ap, arith, encode_utf8_all, false, if◌then◌else◌, inl, inr, map, of_z, option_map, refl, rules, string_bytes, subst, sym, to_z, true, w32, ℕ, ℤ, ◌∙◌, ◌∷◌, ◌≡◌, ◌≢◌, ◌≤◌, ◌⊎◌}
pub use Rattle.std.specs.Str.{bytes_eq, chars}
pub use Rattle.lsp_edit.specs.Batch.{ContentChange}
pub use Rattle.lsp_edit.specs.declared.change.Change.{Change}
pub use Rattle.lsp_message.specs.Incoming.{IncomingData, did_change, did_close, did_open, exit, incoming_of, initialize, notification_of, other_notification, other_request, request_of, response, shutdown}
pub use Rattle.lsp_message.specs.Outgoing.{OutgoingData, shutdown_result}
pub use Rattle.lsp_message.specs.Params.{ChangeData, DocumentItem}
pub use Rattle.lsp_message.specs.Seen.{change_view, content_change_view, open_view}
pub use Rattle.lsp_server.specs.Answer.{AnswerData, NeverAllocates, Sent, already_ended, as_sent, changed, dropped, exits, ignored, refused, reply}
pub use Rattle.lsp_server.specs.Calls.{IsQuietStepOf, IsStepOf}
pub use Rattle.lsp_server.specs.Planned.{IsNotObeyed, IsPlanOfChange, IsPlannedAs, store_of}
pub use Rattle.lsp_server.specs.Step.{ServerData, Step, change_command, command_step, content_change_from_data, phase_step, result_step, session_encoding, step_in, step_on, unchanged_step}
pub use Rattle.lsp_server.specs.declared.answer.Answer.{Answer}
pub use Rattle.lsp_server.specs.declared.answer.Answer.TheVariants.{Changed, Dropped, Ignored, Refused, Reply}
pub use Rattle.lsp_server.specs.declared.answer.Refusal.TheVariants.{Store}
pub use Rattle.lsp_server.specs.declared.phase.Phase.TheVariants.{Down, Ended, New, Running}
pub use Rattle.lsp_server.specs.laws.Steps.{ChangesNothing, RepliesTo, way_of}
pub use Rattle.lsp_store.specs.Opened.{IsRefused, StoreData, Takes}
pub use Rattle.lsp_store.specs.Table.{Command, after_command, changes, command_refusal, opens, table_after, unless_refused}
pub use Rattle.lsp_store.specs.declared.fault.StoreFault.{StoreFault}
pub use Rattle.lsp_store.specs.declared.fault.StoreFault.TheVariants.{NoMemory}
pub use Rattle.lsp_text.specs.declared.encoding.Encoding.{Encoding}
