-- What more than one proof of this crate imports, so that each names it by one line.
pub use Rattle.std.proofs.Common.{Bool, Equal, FitsSigned, Greater, IsUtf8, Less, List, None, Option, Ordering, Some, [], ap, append-nil, append_assoc, ap₂, arith, bytes_eq, codes, cond, drop, false, get_or, inl, inr, le-leb, le-ltb, length, lt-ltb, ltb-true, map, nat_lt, negsuc, not, of_z, refl, rules, subst, suc, sym, take, to_z, true, w32, zero, ℕ, ℤ, ⊎_elim, ◌&&◌, ◌++◌, ◌+◌, ◌-◌, ◌<◌, ◌==◌, ◌^◌, ◌||◌, ◌∙◌, ◌∷◌, ◌≡◌, ◌≢◌, ◌≤◌, ◌⊎◌}
pub use Rattle.std.proofs.KnownBytes.{Appends-nil, Appends-trans, Consumes-kept, Consumes-trans}
pub use Rattle.std.proofs.Math.IntN.{neg_ℤ}
pub use Rattle.std.proofs.lemmas.Bool.{and_from, and_parts, cases_Bool, cases_eq, cases_lt, cond_both, eqb-true, leb-true, ltb-false, ne_eqb, or_cases}
pub use Rattle.std.proofs.lemmas.Bool.Decides.{Decides-eqb, nat_tests}
pub use Rattle.std.proofs.lemmas.Grind.{common_steps}
pub use Rattle.std.proofs.lemmas.List.{drop-drop, drop-take, drop_all, drop_at, drop_more, length-append, length-drop, length-take, take-append-drop, take_at}
pub use Rattle.std.proofs.lemmas.List.Folds.{list_all-append}
pub use Rattle.std.proofs.lemmas.Result.{err_from_is_err_and}
pub use Rattle.std.proofs.lemmas.Slice.Eq.{starts_is}
pub use Rattle.std.proofs.lemmas.Str.{IsCharBoundary-after_ascii, IsCharBoundary-before_ascii, IsUtf8-append, IsUtf8-drop, IsUtf8-encode, IsUtf8-from_is_utf8, IsUtf8-take, scalars-chars}
pub use Rattle.std.specs.Char.{digit_value, encode_utf8, is_ascii_digit, is_digit}
pub use Rattle.std.specs.Int.{w64}
pub use Rattle.std.specs.Io.KnownBytes.{Appends, Consumes, IsAtEnd, Keeps}
pub use Rattle.std.specs.List.{AllByRecursion, list_all, prefix_len, slice_get, starts_with}
pub use Rattle.std.specs.Option.{option_map_or}
pub use Rattle.std.specs.Ordering.{match_ordering}
pub use Rattle.std.specs.Prelude.{Err, Float, IfErr, IfOk, MatchOption, Ok, OnOk, Result, fold, if◌then◌else◌, int_lt, is_none, min, nat_eq, nat_le, option_and_then, option_map, pos, ⊤, ◌↔◌}
pub use Rattle.std.specs.Str.{chars, is_utf8}
pub use Rattle.json.proofs.Printed.Utf8.{IsUtf8-are_ascii}
pub use Rattle.json.specs.Print.{IsPrintable, token_text}
pub use Rattle.json.specs.Token.{Token}
pub use Rattle.json.specs.Tree.{HasNumbers, depth, items_tokens, json_tokens, members_tokens}
pub use Rattle.json.specs.Word.{is_operator, is_space}
pub use Rattle.log_session.specs.AllRecords.{IsCause, IsObserved, RanOver, is_cut_off, last_if}
pub use Rattle.log_session.specs.Canonical.{body_if, body_of_record, canonical_change_body, canonical_if, canonical_of_record, change_in}
pub use Rattle.log_session.specs.Engine.{PortState, WroteRecords, all_of, last_of, state_of}
pub use Rattle.log_session.specs.OneLine.{one_line}
pub use Rattle.log_session.specs.Replay.{document_line, replaying, report_from}
pub use Rattle.log_session.specs.Run.{IsEngineRun}
pub use Rattle.log_session.specs.RunOutput.{RunOutput, stopped, written_first}
pub use Rattle.log_session.specs.Selection.{Kept, Selection, after_kept, after_left_out, kept_first, kept_in, line_if, output_of_kept, record_stays, with_due, with_line}
pub use Rattle.log_session.specs.Serve.{serving}
pub use Rattle.log_session.specs.Session.{Judged, Session, Verdict, answered, bad, counted, encoding_for, expected_of, handled, is_early, is_ended, is_running, judge, judge_client, judge_from, judge_server, judged, opened, opened_if, opened_in, recorded, session_outcome, uri_opened}
pub use Rattle.log_session.specs.Settings.{as_log, log_config}
pub use Rattle.log_session.specs.View.{RecordOutput, View, followed_by, output_in, unless_bad, writes}
pub use Rattle.log_session.specs.declared.outcome.Outcome.{Outcome}
pub use Rattle.log_session.specs.declared.session.Taken.{Taken}
pub use Rattle.log_session.specs.declared.session.canonical.Appended.{Appended}
pub use Rattle.log_session.specs.declared.session.canonical.Appended.TheVariants.{Body}
pub use Rattle.log_session.specs.declared.session.canonical.Canonical.{Canonical}
pub use Rattle.log_session.specs.declared.settings.Settings.{Settings}
pub use Rattle.log_session.specs.inside.Bodies.{body_read, judge_at, on_client}
pub use Rattle.log_session.specs.inside.Engine.{BothSpend, CallsSoFar, HasWritten, IsAnswer, IsEndCause, IsEndWritten, IsLoopRun, IsProgress, Ran, RefusesInput, RunStart, Runs, reading_by, start_at}
pub use Rattle.log_session.specs.inside.Piped.{IsAdmitted, pipe_output, pipe_quiet, piped}
pub use Rattle.log_session.specs.inside.Printer.{run_output_in}
pub use Rattle.log_session.specs.inside.RunOutput.{IsFaultAt, IsQuiet, IsRecordFault, after, output_of}
pub use Rattle.log_session.specs.inside.Taken.{IsChangeWitnessed, IsHeard, IsShown, IsTakenAs, accepted_if, accepted_of, joined_by, ranged_read, received_of, refusal_of, server_after}
pub use Rattle.log_session.specs.inside.Verdicts.{IsAppended, verdict_view}
pub use Rattle.lsp_edit.proofs.Batches.LawLemmas.{canonical_law, units_some}
pub use Rattle.lsp_edit.specs.Batch.{ContentChange, meaning}
pub use Rattle.lsp_edit.specs.Canonical.{canonical}
pub use Rattle.lsp_edit.specs.Compose.{then_items}
pub use Rattle.lsp_edit.specs.Indexed.{bytes_left}
pub use Rattle.lsp_edit.specs.Items.{Item, text_of}
pub use Rattle.lsp_edit.specs.laws.Batches.{IsCanonical}
pub use Rattle.lsp_frame.proofs.WrittenLemmas.{written_is_frame}
pub use Rattle.lsp_frame.specs.Faults.{place_after}
pub use Rattle.lsp_frame.specs.Frame.{IsFrameOf}
pub use Rattle.lsp_frame.specs.Limits.{AreInRange, LimitsData}
pub use Rattle.lsp_frame.specs.declared.fault.FrameFault.{FrameFault}
pub use Rattle.lsp_log.proofs.LogLemmas.{due_after}
pub use Rattle.lsp_log.proofs.RestLemmas.{buffered_law, rest_law}
pub use Rattle.lsp_log.proofs.UniqueLemmas.{first_byte, first_of, same_version}
pub use Rattle.lsp_log.specs.Log.{AreRecords, HasNoRecord, IsBadMark, IsMalformed, IsReadAs, IsUndecided, IsVersion, Log, LogRules, Record, is_line_due, line_of, mark_of, record_bytes, together, version_line}
pub use Rattle.lsp_log.specs.Opening.{IsBelowLine, IsLineFront, IsUnfinished}
pub use Rattle.lsp_log.specs.Splitting.{IsAfter, IsFed, IsOpen, IsReady, IsSplitFault, buffered_of, log_at, record_at, record_of}
pub use Rattle.lsp_log.specs.declared.record.Head.{Head}
pub use Rattle.lsp_log.specs.declared.record.Sender.{Sender}
pub use Rattle.lsp_log.specs.declared.record.Sender.TheVariants.{Client, Server}
pub use Rattle.lsp_log.specs.declared.record.Version.{Version}
pub use Rattle.lsp_log.specs.declared.record.Version.TheVariants.{One, Two}
pub use Rattle.lsp_log.specs.declared.splitter.Splitter.{Splitter}
pub use Rattle.lsp_log.specs.laws.Logs.{IsFirstOf}
pub use Rattle.lsp_message.proofs.ReadBack.{body_of-unique, is_read_back, reading-body_of}
pub use Rattle.lsp_message.specs.Message.{IdData, MessageData, OutcomeData, Reading, id_in, json_of, message_of, reading, whole}
pub use Rattle.lsp_message.specs.Outgoing.{OutgoingData, document_text}
pub use Rattle.lsp_message.specs.Params.{ChangeData, CloseData, ContentChangeData, DocumentItem, change_by, change_of, close_by, close_of, content_change_in, document_and_changes, document_in, open_by, open_of, version_from, version_in}
pub use Rattle.lsp_message.specs.Seen.{change_view}
pub use Rattle.lsp_message.specs.Values.{array_in, each_of, member_at, text_in, whole_in}
pub use Rattle.lsp_message.specs.laws.Sent.{IsProperId}
pub use Rattle.lsp_server.proofs.EditLemmas.{edits_back}
pub use Rattle.lsp_server.specs.Answer.{AnswerData, Sent, as_sent, changed, refused}
pub use Rattle.lsp_server.specs.Incoming.{IncomingData, did_change, did_close, did_open, incoming_by, incoming_of, initialize, not_a_message, not_json, other_notification, other_request, response, shutdown}
pub use Rattle.lsp_server.specs.Planned.{IsPlanOfChange, IsPlannedAs, after_commit, store_of}
pub use Rattle.lsp_server.specs.Step.{ServerData, change_command, content_change_from_data, result_step, session_encoding, step_in, step_on}
pub use Rattle.lsp_server.specs.declared.answer.Refusal.TheVariants.{Store}
pub use Rattle.lsp_server.specs.declared.phase.Phase.{Phase}
pub use Rattle.lsp_server.specs.declared.phase.Phase.TheVariants.{Down, Ended, New, Running}
pub use Rattle.lsp_store.proofs.GreaterLemmas.{MayChange, change_parts}
pub use Rattle.lsp_store.proofs.Messages.MessageLemmas.{Accepts, accepted_parts, is_read}
pub use Rattle.lsp_store.proofs.Messages.ScalarLemmas.{canonical_texts}
pub use Rattle.lsp_store.proofs.SquashLemmas.{squash_accepted}
pub use Rattle.lsp_store.proofs.WithinLemmas.{within_at, within_change, within_close, within_end}
pub use Rattle.lsp_store.specs.Faults.{refusal_fault}
pub use Rattle.lsp_store.specs.Message.{AreTexts, IsReadAgain, canonical_batch, canonical_body, change_body, written_content_change}
pub use Rattle.lsp_store.specs.Plan.{IsPlanOf}
pub use Rattle.lsp_store.specs.Squash.{SquashData}
pub use Rattle.lsp_store.specs.Table.{Refusal, after_change, after_close, after_open, change_refusal, close_refusal, command_refusal, entry_at, entry_refusal, is_stale, meant_text, open_refusal, table_after, unless_refused}
pub use Rattle.lsp_store.specs.declared.fault.StoreFault.{StoreFault}
pub use Rattle.lsp_store.specs.laws.Tables.{AllWithin, IsWithin}
pub use Rattle.lsp_stream.specs.Ports.{FewReads, FewWrites, Ports, ReaderState, Rose, WriterState, one_more, ports}
pub use Rattle.lsp_stream.specs.Turns.{AppendsFront, AppendsShort, ReadsWithin, Spends, StaysFlushed, StaysWell, WritesFew, WritesWithin}
pub use Rattle.lsp_stream.specs.declared.fault.EngineFault.{EngineFault}
pub use Rattle.lsp_stream.specs.declared.fault.EngineFault.TheVariants.{BadLog, BodyTooLong, Frame, NoMemory, Read, TooManyTurns, Truncated, Write}
pub use Rattle.lsp_stream.specs.inside.Turns.{LeavesFlushed}
pub use Rattle.lsp_text.specs.Units.{units_in}
pub use Rattle.lsp_text.specs.declared.encoding.Encoding.{Encoding}
pub use Rattle.serde_json.specs.Data.{Data}
pub use Rattle.serde_json.specs.Find.{as_array, as_i64, as_object, as_str, get, get_member}
pub use Rattle.serde_json.specs.Read.{max_depth, of_json, read}
