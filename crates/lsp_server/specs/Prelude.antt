-- What these definitions import from below, so that each names it by one line.
pub use Rattle.std.specs.Prelude.{Err, IfOk, IsOk, IsSome, List, None, Ok, OnErr, OnOk, Option, Result, Some, [], codes, if◌then◌else◌, map, option_map, true, unwrap_or, ℕ, ⊤, ◌≡◌, ◌≢◌, ◌≤◌}
pub use Rattle.lsp_message.specs.Agreement.{is_offered}
pub use Rattle.lsp_message.specs.Incoming.{IncomingData, did_change, did_close, did_open, exit, incoming_of, initialize, not_a_message, not_json, other_notification, other_request, shutdown}
pub use Rattle.lsp_message.specs.Message.{IdData, OutcomeData, Reading, message, notification, request}
pub use Rattle.lsp_message.specs.Outgoing.{OutgoingData, body_of, error_reply, initialize_result, shutdown_result}
pub use Rattle.lsp_message.specs.Params.{ChangeData, CloseData, ContentChangeData, DocumentItem}
pub use Rattle.lsp_message.specs.declared.agreement.Offers.{Offers}
pub use Rattle.lsp_message.specs.declared.outgoing.ErrorCode.{ErrorCode}
pub use Rattle.lsp_server.specs.declared.answer.Answer.{Answer}
pub use Rattle.lsp_server.specs.declared.answer.Answer.TheVariants.{Changed, Dropped, Ignored, Refused, Reply}
pub use Rattle.lsp_server.specs.declared.answer.Refusal.{Refusal}
pub use Rattle.lsp_server.specs.declared.answer.Refusal.TheVariants.{Store}
pub use Rattle.lsp_server.specs.declared.config.Config.{Config}
pub use Rattle.lsp_server.specs.declared.config.EncodingChoice.TheVariants.{Fixed, Negotiated}
pub use Rattle.lsp_server.specs.declared.phase.Phase.{Phase}
pub use Rattle.lsp_server.specs.declared.phase.Phase.TheVariants.{Down, Ended, New, Running}
pub use Rattle.lsp_store.specs.Faults.{fault_code, refusal_fault}
pub use Rattle.lsp_text.specs.declared.encoding.Encoding.{Encoding}
pub use Rattle.lsp_text.specs.declared.encoding.Encoding.TheVariants.{Utf16}
