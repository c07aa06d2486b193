-- What these definitions import from below, and most of them from here, so that each names it by one
-- line.
pub use Rattle.std.specs.Option.{ok_or}
pub use Rattle.std.specs.Prelude.{Bool, Err, IsOkAnd, List, None, Ok, Option, Result, Some, [], drop, false, if◌then◌else◌, length, map, min, nat_eq, nat_le, nat_lt, not, option_map, pos, slice_get, string_bytes, string_len, sum_by, take, true, ℕ, ℤ, ◌&&◌, ◌*◌, ◌++◌, ◌+◌, ◌-◌, ◌<◌, ◌^◌, ◌||◌, ◌∷◌, ◌≡◌, ◌≢◌, ◌≤◌, ◌⊎◌}
pub use Rattle.std.specs.Str.{chars, is_utf8}
pub use Rattle.laspidru.specs.declared.answers.Answer.{Answer}
pub use Rattle.laspidru.specs.declared.codes.TheConstants.{ALREADY_OPEN, BAD_ENCODING, BAD_FRAME, BAD_LENGTH, BAD_LOG, BAD_MAX_BODY, BAD_MAX_CHANGES, BAD_MAX_DOCS, BAD_MAX_TEXT, BAD_SERVER, BODY_TOO_LONG, CHANGED, CUT, DROPPED, EMPTY, ENDED, ERROR_ANSWER, EXITED, FAILED, IGNORED, INSIDE_CHARACTER, INVALID_PARAMS, IN_USE, NOTED, NOT_AN_ANSWER, NOT_OPEN, NOT_UTF8, NO_DOCUMENT, NO_MESSAGE, NO_SYNC, OK, OTHER_KIND, OUT_OF_MEMORY, OUT_OF_RANGE, OVERLAP, REFUSED, REPLIED, REVERSED_RANGE, STALE_VERSION, TOO_LONG, TOO_MANY_CHANGES, TOO_MANY_DOCUMENTS, TOO_MANY_TURNS, WRONG_PHASE}
pub use Rattle.laspidru.specs.declared.object.Object.{Object}
pub use Rattle.laspidru.specs.declared.object.Object.TheVariants.{Batch, Document, End, Framer, Output}
pub use Rattle.laspidru.specs.declared.party.Party.{Party}
pub use Rattle.laspidru.specs.declared.party.Party.TheVariants.{Client, Server}
pub use Rattle.laspidru.specs.declared.structs.CPosition.{CPosition}
pub use Rattle.laspidru.specs.declared.stream.Stream.{Stream}
pub use Rattle.laspidru.specs.declared.structs.FaultAt.{FaultAt}
pub use Rattle.laspidru.specs.declared.taken.Taken.{Taken}
pub use Rattle.laspidru.specs.Codes.{IsAnswer, IsRefusedOr, and_then, unless}
pub use Rattle.laspidru.specs.Streams.{EndData, stream_of}
pub use Rattle.lsp_client.specs.Step.{Call, ClientData, DeliveredData, Delivery, Order, Sending, bad_server, call_result, closes, delivery_of, edits, is_listening, new_client, noted, opens, orders, sends, shuts_down, starts}
pub use Rattle.lsp_client.specs.declared.fault.ClientFault.{ClientFault}
pub use Rattle.lsp_edit.specs.Edited.{content_change}
pub use Rattle.lsp_edit.specs.declared.change.Change.{Change}
pub use Rattle.lsp_edit.specs.declared.change.TheConstants.{MAX_NEW_TEXT}
pub use Rattle.lsp_edit.specs.declared.composed.TheConstants.{MAX_OLD_TEXT}
pub use Rattle.lsp_edit.specs.declared.indexed.fault.BatchFault.TheVariants.{TooLong}
pub use Rattle.lsp_frame.specs.Frame.{IsFrameOf, frame}
pub use Rattle.lsp_frame.specs.Limits.{LimitsData, default_limits, first_out_of_range}
pub use Rattle.lsp_frame.specs.Stream.{FramerData, HoldsOne, IsFeedFault, IsFrame, released}
pub use Rattle.lsp_frame.specs.declared.fault.FrameFault.{FrameFault}
pub use Rattle.lsp_message.specs.Outgoing.{body_of, code_of}
pub use Rattle.lsp_server.specs.Answer.{AnswerData, Sent, already_ended, as_sent, changed, dropped, refused, reply}
pub use Rattle.lsp_server.specs.Step.{Step, new_server, step}
pub use Rattle.lsp_store.specs.Opened.{StoreData}
pub use Rattle.lsp_store.specs.Table.{entry_at}
pub use Rattle.lsp_store.specs.declared.fault.StoreFault.{StoreFault}
pub use Rattle.lsp_text.specs.Units.{units_in}
pub use Rattle.lsp_text.specs.declared.encoding.Encoding.{Encoding}
pub use Rattle.lsp_text.specs.declared.encoding.Encoding.TheVariants.{Utf16, Utf32, Utf8}
pub use Rattle.lsp_text.specs.declared.position.Range.{Range}
