-- What these definitions import from below, so that each names it by one line.
pub use Rattle.std.specs.Fmt.{signed_decimal}
pub use Rattle.std.specs.Prelude.{All, Bool, Err, IsUtf8, List, None, Ok, Option, Result, Some, [], codes, decimal, encode_utf8_all, false, flat_map, int_le, int_lt, is_none, is_some, length, map, nat_le, nat_lt, not, option_and_then, option_map, slice_get, slice_range, suc, sum_by, take, true, unsigned_abs, ℕ, ℤ}
pub use Rattle.std.specs.Str.{bytes_eq, chars}
pub use Rattle.std.specs.String.{string_bytes}
pub use Rattle.line_diff.specs.Comparison.{ComparisonData, Followed, comparison_words, ended_by, equality, is_followed, refused_by, taken}
pub use Rattle.line_diff.specs.Names.{ends_so}
pub use Rattle.line_diff.specs.declared.owners.Splice.{Splice}
pub use Rattle.log_report.specs.declared.commands.explain.Listing.{Listing}
pub use Rattle.log_report.specs.declared.commands.trace.Details.{Details}
pub use Rattle.log_report.specs.declared.notes.Note.{Note}
pub use Rattle.log_session.specs.declared.outcome.Outcome.{Outcome}
pub use Rattle.log_session.specs.declared.session.Taken.{Taken}
pub use Rattle.log_session.specs.declared.session.canonical.Appended.{Appended}
pub use Rattle.log_session.specs.declared.settings.Settings.{Settings}
pub use Rattle.lsp_edit.specs.Batch.{ContentChange, Fault, ends_of, meaning}
pub use Rattle.lsp_edit.specs.declared.fault.EditFault.{EditFault}
pub use Rattle.lsp_edit.specs.declared.fault.Side.{Side}
pub use Rattle.lsp_edit.specs.declared.fault.Side.TheVariants.{Start, Stop}
pub use Rattle.lsp_frame.specs.Limits.{AreInRange, LimitsData}
pub use Rattle.lsp_log.specs.Log.{Record}
pub use Rattle.lsp_log.specs.declared.record.Head.{Head}
pub use Rattle.lsp_log.specs.declared.record.Sender.{Sender}
pub use Rattle.lsp_message.specs.Lengths.{is_save, lengths_of, notification_params}
pub use Rattle.lsp_message.specs.Message.{IdData, Reading, reading, text, whole}
pub use Rattle.lsp_message.specs.Params.{ChangeData, ContentChangeData, DocumentItem}
pub use Rattle.lsp_message.specs.Seen.{change_view}
pub use Rattle.lsp_message.specs.declared.outgoing.ErrorCode.{ErrorCode}
pub use Rattle.lsp_message.specs.declared.outgoing.ErrorCode.TheVariants.{InvalidParams, InvalidRequest, MethodNotFound, ParseError, ServerNotInitialized}
pub use Rattle.lsp_server.specs.Answer.{AnswerData, Sent, already_ended, changed, dropped, exits, ignored, refused, reply}
pub use Rattle.lsp_server.specs.Codes.{server_refusal_code}
pub use Rattle.lsp_server.specs.Incoming.{IncomingData, did_change, did_close, did_open, exit, incoming_of, initialize, not_a_message, not_json, other_notification, other_request, response, shutdown}
pub use Rattle.lsp_server.specs.Step.{ServerData, content_change_from_data, session_encoding}
pub use Rattle.lsp_server.specs.declared.answer.Refusal.TheVariants.{Store}
pub use Rattle.lsp_store.specs.Table.{entry_at, greatest_batch}
pub use Rattle.lsp_store.specs.declared.fault.StoreFault.TheVariants.{AlreadyOpen, Edit, NotOpen, StaleVersion, TextTooLong, TooManyChanges, TooManyDocuments}
pub use Rattle.lsp_stream.specs.Ports.{one_more}
pub use Rattle.lsp_text.specs.Units.{units_in}
pub use Rattle.lsp_text.specs.declared.encoding.Encoding.TheVariants.{Utf16, Utf32}
pub use Rattle.lsp_text.specs.declared.position.Position.{Position}
pub use Rattle.lsp_text.specs.declared.position.Range.{Range}
pub use Rattle.serde_json.specs.Data.{Data}
