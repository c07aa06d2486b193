-- What more than one proof of this crate imports, so that each names it by one line.
pub use Rattle.std.proofs.Common.{Bool, Err, FitsSigned, IfErr, IfOk, IsTrue, IsUtf8, List, None, Ok, OnErr, OnOk, Option, Result, Some, Vec, [], add-one, ap, arith, drop, encode_utf8_all, false, get_or, length, map, nat_le, nat_lt, not, pos, refl, rules, slice_get, subst, suc, sym, take, true, true≢false, w32, zero, ℕ, ℤ, ⊎_elim, ◌++◌, ◌+◌, ◌<◌, ◌∙◌, ◌∷◌, ◌≡◌, ◌≢◌, ◌≤◌, ◌⊎◌}
pub use Rattle.std.proofs.lemmas.Bool.{and_parts, cases_Bool, cases_lt, leb-false, leb-true, ltb-false}
pub use Rattle.std.proofs.lemmas.Grind.{common_steps}
pub use Rattle.std.proofs.lemmas.List.{append-nil, append_assoc, drop-append-le, length-append, length-drop, map-append, take-append-drop, take-append-le, take_all}
pub use Rattle.std.proofs.lemmas.Str.{IsUtf8-string_bytes, encodes-chars, scalars-chars}
pub use Rattle.std.specs.Prelude.{MatchOption, if◌then◌else◌, unwrap_or, ⊤, ◌||◌}
pub use Rattle.std.specs.declared.alloc.Global.{Global}
pub use Rattle.lsp_client.specs.Seen.{IsFaultOf, IsSent, delivered_view}
pub use Rattle.lsp_client.specs.Step.{Call, ClientData, Delivery, Sending, begin_as_announced, begin_if_agreed, begin_in, call_result, delivery_in, delivery_of, is_awaited, is_listening, sent_body}
pub use Rattle.lsp_client.specs.declared.agreed.Agreed.{Agreed}
pub use Rattle.lsp_client.specs.declared.fault.ClientFault.{ClientFault}
pub use Rattle.lsp_client.specs.declared.fault.ClientFault.TheVariants.{NoMemory, Store, WrongPhase}
pub use Rattle.lsp_client.specs.declared.phase.Phase.TheVariants.{Asked, Closed, Closing, Done}
pub use Rattle.lsp_client.specs.inside.Orders.{order_refusal, order_result}
pub use Rattle.lsp_frame.proofs.LawLemmas.{one_frame_law}
pub use Rattle.lsp_frame.proofs.WrittenLemmas.{written_is_frame}
pub use Rattle.lsp_frame.specs.Frame.{IsFrameOf, frame}
pub use Rattle.lsp_frame.specs.Limits.{AreInRange, LimitsData}
pub use Rattle.lsp_frame.specs.Stream.{FramerData, IsFrame}
pub use Rattle.lsp_message.proofs.ReadBack.{body_of-unique, is_read_back, reading-body_of}
pub use Rattle.lsp_message.specs.Message.{message, reading, whole}
pub use Rattle.lsp_message.specs.Outgoing.{OutgoingData, body_of, did_change, did_close, did_open, exit, initialize, initialize_result, initialized, shutdown, shutdown_result}
pub use Rattle.lsp_message.specs.Params.{ChangeData, CloseData, DocumentItem}
pub use Rattle.lsp_message.specs.declared.agreement.Offers.{Offers}
pub use Rattle.lsp_message.specs.declared.agreement.SyncKind.{SyncKind}
pub use Rattle.lsp_message.specs.declared.agreement.SyncKind.TheVariants.{Full, Incremental, Off}
pub use Rattle.lsp_message.specs.laws.Sent.{IsProper, IsProperChange, IsProperDocument, sent}
pub use Rattle.lsp_pair.specs.Documents.{HaveDocuments, History, IsLater, history_after, no_history}
pub use Rattle.lsp_pair.specs.Events.{EventData, Setting, calls, did_of, heard_of, messages_in, replies_in, to_client, to_server}
pub use Rattle.lsp_pair.specs.Pair.{IsCallStep, IsClientStep, IsDeliveryStep, IsFitting, IsRun, IsServerStep, IsStep, PairData, are_within, can_choose_utf16, message_frame, new_pair}
pub use Rattle.lsp_pair.specs.Seen.{event_view, frames}
pub use Rattle.lsp_pair.specs.declared.event.Did.{Did}
pub use Rattle.lsp_pair.specs.declared.event.Event.{Event}
pub use Rattle.lsp_pair.specs.declared.event.Event.TheVariants.{Close, Edit, Exit, Open, Shutdown, Start, ToClient, ToServer}
pub use Rattle.lsp_pair.specs.declared.event.Happened.{Happened}
pub use Rattle.lsp_pair.specs.declared.event.Happened.TheVariants.{Client, Nothing, Refused, Sent, Server}
pub use Rattle.lsp_pair.specs.declared.event.Heard.{Heard}
pub use Rattle.lsp_pair.specs.inside.Ends.{HoldsOfFirst, HoldsOnCall, IsCall, both_ends, did_of_sent, frames_in_answer, frames_in_delivery}
pub use Rattle.lsp_pair.specs.inside.History.{HasHistory, IsHistory, history_of, tables_from}
pub use Rattle.lsp_pair.specs.laws.At.{IsAt, frame_of, frames_from, pair_of, table_with, waiting_back, waiting_out}
pub use Rattle.lsp_pair.specs.laws.Steps.{IsStepAt}
pub use Rattle.lsp_pair.specs.laws.Usual.{HaveOneEncoding, IsUsual, IsUsualBack, IsUsualTurn, agreed_of}
pub use Rattle.lsp_pair.specs.laws.World.{AreProperEvents, ClientMessage, IsProperEdits, IsProperEvent, IsProperOrder, Turn, World, beginning, client_of, commands, commands_in, incoming_of_message, lifecycle, message_in, message_of_call, server_of, to_client_event, to_server_event, turn, turn_of_call, turn_of_delivery, turn_of_result, turn_of_step, world_from, world_of}
pub use Rattle.lsp_server.specs.Choice.{announced_kind, encoding_chosen}
pub use Rattle.lsp_server.specs.Step.{ServerData, Step, begin_step, command_step, result_step, session_encoding, step, step_in, step_on}
pub use Rattle.lsp_server.specs.declared.phase.Phase.{Phase}
pub use Rattle.lsp_server.specs.declared.phase.Phase.TheVariants.{Down, Ended, New, Running}
pub use Rattle.lsp_store.proofs.Messages.MessageLemmas.{Accepts, accepted_parts, batch_at, proper, texts_held}
pub use Rattle.lsp_store.proofs.WithinLemmas.{within_at, within_changed, within_law}
pub use Rattle.lsp_store.specs.Limits.{AreWithin}
pub use Rattle.lsp_store.specs.Opened.{StoreData}
pub use Rattle.lsp_store.specs.Table.{Command, Refusal, after_change, change_refusal, changed, changes, closes, command_refusal, opens, table_after, table_from, table_of, unless_refused}
pub use Rattle.lsp_store.specs.laws.Tables.{AllWithin, HasTexts, IsReplacedBy, IsWithin}
pub use Rattle.lsp_text.specs.declared.encoding.Encoding.{Encoding}
pub use Rattle.lsp_text.specs.declared.encoding.Encoding.TheVariants.{Utf16, Utf8}
