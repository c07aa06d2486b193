-- What these definitions import from below, so that each names it by one line.
pub use Rattle.std.specs.Io.KnownBytes.{Appends, Consumes, IsAtEnd}
pub use Rattle.std.specs.Prelude.{Bool, Err, List, None, Ok, Option, Result, Some, [], codes, drop, false, flat_map, is_none, is_some, length, map, not, option_and_then, option_map, true, ℕ, ⊤}
pub use Rattle.std.specs.Str.{bytes_eq}
pub use Rattle.log_session.specs.declared.outcome.Outcome.{Outcome}
pub use Rattle.log_session.specs.declared.session.RecordBody.{RecordBody}
pub use Rattle.log_session.specs.declared.session.Taken.{Taken}
pub use Rattle.log_session.specs.declared.session.canonical.Appended.{Appended}
pub use Rattle.log_session.specs.declared.settings.Settings.{Settings}
pub use Rattle.lsp_frame.specs.Faults.{place_after}
pub use Rattle.lsp_frame.specs.Frame.{frame}
pub use Rattle.lsp_frame.specs.Limits.{default_limits}
pub use Rattle.lsp_log.specs.Log.{HasNoRecord, IsBadMark, IsCut, IsMalformed, IsReadAs, IsVersion, Log, LogRules, Record, is_line_due, version_line}
pub use Rattle.lsp_log.specs.Opening.{IsUnfinished}
pub use Rattle.lsp_log.specs.declared.record.Head.{Head}
pub use Rattle.lsp_log.specs.declared.record.Sender.{Sender}
pub use Rattle.lsp_log.specs.declared.record.Version.{Version}
pub use Rattle.lsp_log.specs.declared.record.Version.TheVariants.{Two}
pub use Rattle.lsp_message.specs.Agreement.{announced_of}
pub use Rattle.lsp_message.specs.Message.{IdData, Reading, reading}
pub use Rattle.lsp_message.specs.Params.{ChangeData, DocumentItem}
pub use Rattle.lsp_message.specs.Seen.{IsNoted, change_view}
pub use Rattle.lsp_message.specs.declared.agreement.Announced.{Announced}
pub use Rattle.lsp_message.specs.declared.outgoing.ErrorCode.{ErrorCode}
pub use Rattle.lsp_message.specs.declared.outgoing.ErrorCode.TheVariants.{MethodNotFound}
pub use Rattle.lsp_server.specs.Answer.{AnswerData, Sent, as_sent, changed, exits, refused, reply}
pub use Rattle.lsp_server.specs.Incoming.{IncomingData, did_change, did_close, did_open, incoming_of, initialize, other_notification, other_request, response, shutdown}
pub use Rattle.lsp_server.specs.Seen.{answer_view, incoming_view}
pub use Rattle.lsp_server.specs.Step.{ServerData, content_change_from_data, new_server, session_encoding, step_on, with_encoding}
pub use Rattle.lsp_server.specs.declared.config.Config.{Config}
pub use Rattle.lsp_server.specs.declared.phase.Phase.{Phase}
pub use Rattle.lsp_server.specs.declared.phase.Phase.TheVariants.{Ended, New, Running}
pub use Rattle.lsp_store.specs.Squash.{SquashData, squash_after}
pub use Rattle.lsp_store.specs.Table.{after_change, change_refusal, entry_at}
pub use Rattle.lsp_stream.specs.Ports.{Ports, Rose, one_more}
pub use Rattle.lsp_stream.specs.Turns.{StaysFlushed, StaysWell}
pub use Rattle.lsp_stream.specs.declared.fault.EngineFault.{EngineFault}
pub use Rattle.lsp_stream.specs.declared.fault.EngineFault.TheVariants.{BadLog, BodyTooLong, Frame, NoMemory, Read, TooManyTurns, Truncated, Write}
pub use Rattle.lsp_text.specs.Units.{units_in}
pub use Rattle.lsp_text.specs.declared.encoding.Encoding.TheVariants.{Utf16}
pub use Rattle.serde_json.specs.Data.{Data}
