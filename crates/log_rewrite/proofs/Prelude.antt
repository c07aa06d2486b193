-- What more than one proof of this crate imports, so that each names it by one line.
pub use Rattle.std.proofs.Common.{Bool, IsUtf8, List, None, Option, Some, [], ap, append-nil, append_assoc, ap₂, arith, bytes_eq, codes, drop, encode_utf8_all, false, inl, inr, int_le, is_some, le-ltb, length, lt-ltb, ltb-true, map, nat_lt, not, refl, rules, string_bytes, subst, sym, true, ℕ, ℤ, ⊎_elim, ◌&&◌, ◌++◌, ◌+◌, ◌-◌, ◌<◌, ◌==◌, ◌||◌, ◌∙◌, ◌∷◌, ◌≡◌, ◌≢◌, ◌≤◌, ◌⊎◌}
pub use Rattle.std.proofs.lemmas.Bool.{cases_Bool, cond_both, leb-false, lt-leb, ltb-false, ne_eqb}
pub use Rattle.std.proofs.lemmas.Bool.Decides.{Decides-int_eq}
pub use Rattle.std.proofs.lemmas.Grind.{common_steps, flat_map-append}
pub use Rattle.std.proofs.lemmas.List.{drop_at, length-append, take_at}
pub use Rattle.std.proofs.lemmas.Result.{err_from_is_err_and}
pub use Rattle.std.proofs.lemmas.Slice.Eq.{bytes_eq-Decides}
pub use Rattle.std.proofs.lemmas.Str.{chars-encodes, scalars-chars}
pub use Rattle.std.specs.Io.KnownBytes.{Appends, Consumes}
pub use Rattle.std.specs.Prelude.{Err, IfOk, Ok, Result, flat_map, if◌then◌else◌, is_none, option_and_then, option_map, ⊤}
pub use Rattle.std.specs.Str.{chars}
pub use Rattle.log_rewrite.specs.Convert.{as_converted, converted, converting, line_before, reply_record}
pub use Rattle.log_rewrite.specs.Documents.{KeepsDocuments, documents, kept_records}
pub use Rattle.log_rewrite.specs.Normalise.{canonical_log, canonical_output, front_of, normalising, written}
pub use Rattle.log_rewrite.specs.Part.{Found, PartData, found_after, found_if, is_last, last_text, last_text_in, none_found, part_bytes, part_data, part_outcome, part_step, refreshed, replaying_part, text_found}
pub use Rattle.log_rewrite.specs.Squash.{SeriesChange, change_if, change_on, joined, normalised, normalised_if, series_after, series_written, squash_output, squashed, squashing}
pub use Rattle.log_rewrite.specs.inside.Joining.{IsBegun, IsChange, IsChangeWriting, IsFramed, IsJoined, IsLonger, IsOpenAfter, IsOpenIn, IsOther, IsWriting}
pub use Rattle.log_rewrite.specs.inside.Part.{found_now}
pub use Rattle.log_rewrite.specs.inside.Squash.{IsSquashStep, OpenSeries, Squashing, Step, begun, begun_on, change_output, end_bytes, faulty, longer, open_bytes, other_step, series_of, squash_step, squash_view, squashed_in, squashed_steps, step_at, step_if}
pub use Rattle.log_rewrite.specs.laws.Written.{AreRepliesWithin, CanonicalLogLaw, ConvertedLaw, IsCanonicalLog, IsConverted, IsReplyWithin, IsReported, IsSquashed, LeavesAlike, ReportLaw, SquashedLaw, StopsAlike, Wrote}
pub use Rattle.log_session.specs.AllRecords.{IsCause, IsObserved, RanOver}
pub use Rattle.log_session.specs.Canonical.{body_if, body_of_record, canonical_change_body, canonical_if, canonical_of_record, change_in}
pub use Rattle.log_session.specs.Engine.{PortState, all_of, last_of, state_of}
pub use Rattle.log_session.specs.Replay.{document_line, replaying, report, report_from}
pub use Rattle.log_session.specs.Run.{IsEngineRun, log_engine}
pub use Rattle.log_session.specs.RunOutput.{RunOutput, stopped, written_first}
pub use Rattle.log_session.specs.Selection.{Kept, Selection, after_kept, after_left_out, is_answer_to, is_due, kept_first, kept_in, line_if, message_stays, nothing_selected, record_stays, with_line}
pub use Rattle.log_session.specs.Session.{Judged, Session, Verdict, answered, bad, count_if, counted, encoding_for, encoding_in, expected_of, handled, is_change, is_early, is_ended, is_new, is_refused, is_running, judge, judge_client, judge_from, judge_server, judged, opened, opened_if, opened_in, recorded, result_for, same_id, session_outcome, uri_opened}
pub use Rattle.log_session.specs.Settings.{as_log, log_config}
pub use Rattle.log_session.specs.View.{RecordOutput, View, ends, followed_by, output_in, unless_bad, writes}
pub use Rattle.log_session.specs.declared.outcome.Outcome.{Outcome}
pub use Rattle.log_session.specs.declared.session.Taken.{Taken}
pub use Rattle.log_session.specs.declared.session.canonical.Appended.TheVariants.{Body, TooLong}
pub use Rattle.log_session.specs.declared.session.canonical.Canonical.{Canonical}
pub use Rattle.log_session.specs.declared.settings.Settings.{Settings}
pub use Rattle.log_session.specs.inside.Bodies.{BodyData, body_read, body_view, from_client, from_server, judge_at, judge_read, on_client}
pub use Rattle.log_session.specs.inside.Kept.{closed_by, kept_after, text_at, text_closed}
pub use Rattle.log_session.specs.inside.Piped.{piped}
pub use Rattle.log_session.specs.inside.Printer.{run_output_in}
pub use Rattle.log_session.specs.inside.RunOutput.{IsRecordFault, after}
pub use Rattle.log_session.specs.inside.Taken.{IsShown, IsTaken, accepted_if, accepted_of, joined_by, refusal_of, server_after}
pub use Rattle.log_session.specs.inside.Verdicts.{IsAppended, verdict_view}
pub use Rattle.lsp_edit.proofs.Composing.EditedLemmas.{plain_text}
pub use Rattle.lsp_edit.specs.Batch.{ContentChange, meaning}
pub use Rattle.lsp_edit.specs.Canonical.{canonical}
pub use Rattle.lsp_edit.specs.Compose.{then_items}
pub use Rattle.lsp_edit.specs.Indexed.{bytes_left}
pub use Rattle.lsp_edit.specs.Items.{text_of}
pub use Rattle.lsp_frame.proofs.WrittenLemmas.{written_is_frame}
pub use Rattle.lsp_frame.specs.Faults.{place_after}
pub use Rattle.lsp_frame.specs.Frame.{IsFrameOf, frame}
pub use Rattle.lsp_frame.specs.Limits.{AreInRange, LimitsData}
pub use Rattle.lsp_log.proofs.LogLemmas.{due_after}
pub use Rattle.lsp_log.specs.Log.{AreRecords, IsReadAs, IsRecord, Log, LogRules, Record, is_line_due, line_of, mark_of, record_bytes, together, version_line}
pub use Rattle.lsp_log.specs.Splitting.{record_of}
pub use Rattle.lsp_log.specs.declared.record.Head.{Head}
pub use Rattle.lsp_log.specs.declared.record.Sender.{Sender}
pub use Rattle.lsp_log.specs.declared.record.Sender.TheVariants.{Client, Server}
pub use Rattle.lsp_log.specs.declared.record.Version.{Version}
pub use Rattle.lsp_log.specs.declared.record.Version.TheVariants.{One, Two}
pub use Rattle.lsp_log.specs.laws.Logs.{AllRecords}
pub use Rattle.lsp_message.proofs.ReadBack.{is_read_back, reading-body_of}
pub use Rattle.lsp_message.specs.Message.{IdData, Reading, reading, text, whole}
pub use Rattle.lsp_message.specs.Outgoing.{OutgoingData, body_of, initialize_result}
pub use Rattle.lsp_message.specs.Params.{ChangeData, CloseData, DocumentItem}
pub use Rattle.lsp_message.specs.Seen.{change_view}
pub use Rattle.lsp_message.specs.Written.{initialize_value}
pub use Rattle.lsp_message.specs.laws.Sent.{IsProperId}
pub use Rattle.lsp_server.specs.Answer.{AnswerData, Sent, as_sent, changed, reply, sent_reply}
pub use Rattle.lsp_server.specs.Incoming.{IncomingData, did_change, did_close, did_open, incoming_of, initialize, not_json, other_notification, other_request, response}
pub use Rattle.lsp_server.specs.Planned.{IsPlanOfChange, store_of}
pub use Rattle.lsp_server.specs.Step.{ServerData, begin_step, content_change_from_data, result_step, session_encoding, step_in, step_on, with_encoding}
pub use Rattle.lsp_server.specs.declared.phase.Phase.{Phase}
pub use Rattle.lsp_server.specs.declared.phase.Phase.TheVariants.{Down, Ended, New, Running}
pub use Rattle.lsp_store.proofs.GreaterLemmas.{MayChange, change_parts}
pub use Rattle.lsp_store.proofs.Messages.MessageLemmas.{Accepts, accepted_parts}
pub use Rattle.lsp_store.proofs.Messages.ScalarLemmas.{scalar-meaning, scalar-text}
pub use Rattle.lsp_store.proofs.SquashLemmas.{after_is}
pub use Rattle.lsp_store.proofs.WithinLemmas.{within_at}
pub use Rattle.lsp_store.specs.Faults.{IsRefusal}
pub use Rattle.lsp_store.specs.Message.{AreTexts, body_refusal, change_body, else_refused}
pub use Rattle.lsp_store.specs.Plan.{IsMessageFault, IsMessageOfPlan, IsPlanOf, IsPlanOn}
pub use Rattle.lsp_store.specs.Squash.{HasReached, IsSquashAfter, IsSquashOfPlan, SquashData, squash_batch, squash_body, squash_frame, squash_of, squash_refusal, squash_under}
pub use Rattle.lsp_store.specs.Table.{Refusal, entry_at, meant_text}
pub use Rattle.lsp_store.specs.declared.fault.StoreFault.{StoreFault}
pub use Rattle.lsp_store.specs.laws.Tables.{IsWithin}
pub use Rattle.lsp_stream.specs.Ports.{one_more, ports}
pub use Rattle.lsp_stream.specs.declared.fault.EngineFault.{EngineFault}
pub use Rattle.lsp_stream.specs.declared.fault.EngineFault.TheVariants.{BadLog, BodyTooLong, NoMemory}
pub use Rattle.lsp_text.specs.Units.{units_in}
pub use Rattle.lsp_text.specs.declared.encoding.Encoding.{Encoding}
pub use Rattle.serde_json.specs.Data.{Data}
