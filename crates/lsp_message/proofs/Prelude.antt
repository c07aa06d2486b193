-- What more than one proof of this crate imports, so that each names it by one line.
pub use Rattle.std.proofs.Common.{All, Bool, Err, FitsSigned, IfErr, IfOk, IfSome, IsErrAnd, IsUtf8, List, MatchResult, None, OnErr, Option, Some, [], ap, append-nil, append_assoc, ap₂, arith, bytes_eq, codes, drop, drop-cons, false, get_or, get_or-take, if◌then◌else◌, inl, inr, length, length-take-le, lt-ltb, map, max, ne_eqb, negsuc, of_z, option_and_then, option_map, pos, refl, rules, slice_index, subst, suc, sym, take, take-append-drop, to_z, true, true≢false, vec_capacity, vec_len, w32, zero, ℕ, ℤ, ◌&&◌, ◌*◌, ◌++◌, ◌+◌, ◌-◌, ◌<◌, ◌==◌, ◌^◌, ◌||◌, ◌∙◌, ◌∷◌, ◌≡◌, ◌≢◌, ◌≤◌, ◌⊎◌}
pub use Rattle.std.proofs.lemmas.Bool.{eqb-true, false_from_ne_true, false≢true, or_cases}
pub use Rattle.std.proofs.lemmas.Grind.{common_steps}
pub use Rattle.std.proofs.lemmas.Int.{to_z-of_z}
pub use Rattle.std.proofs.lemmas.List.{map-append, take_all}
pub use Rattle.std.proofs.lemmas.Option.{IfSome_then, none-some, same_Some}
pub use Rattle.std.proofs.lemmas.Result.{IfOk-weaker, err_from_is_err_and, on_err_weaker, on_ok_weaker}
pub use Rattle.std.proofs.lemmas.Slice.Eq.{bytes_eq-Decides}
pub use Rattle.std.proofs.lemmas.Str.{IsUtf8-append, IsUtf8-from_ascii, IsUtf8-from_is_utf8, IsUtf8-nil, is_utf8-from_IsUtf8}
pub use Rattle.std.specs.Fmt.{digits, signed_decimal}
pub use Rattle.std.specs.Int.{w64}
pub use Rattle.std.specs.List.{flat_map, join_by, list_all}
pub use Rattle.std.specs.Option.{option_map_or}
pub use Rattle.std.specs.Prelude.{Float, IsSome, IsSomeAnd, Ok, OnOk, Result, decimal, is_some, not, ⊤}
pub use Rattle.std.specs.Str.{chars, is_utf8}
pub use Rattle.std.specs.Str.Parse.{AllDigits, digits_value}
pub use Rattle.fast_float.specs.Text.{IsWellFormed, Parts, scan}
pub use Rattle.json.proofs.Grammar.{items_end, items_more, members_end, members_more, members_no_key, read_key-shorter, value-begin_array, value-begin_object, value_is}
pub use Rattle.json.proofs.Printed.Utf8.{IsUtf8-are_ascii, IsUtf8-boolean, IsUtf8-quoted, are_ascii}
pub use Rattle.json.specs.Json.{Json, after_end_array, if_last, items, members, parse_map, read_key, value}
pub use Rattle.json.specs.Lex.{Lexeme, between, comma, fresh, token, tokens}
unfoldable pub use Rattle.json.specs.Lex.{lex, punctuate}
pub use Rattle.json.specs.Print.{IsNumber, escape, escape_byte, print, quoted}
pub use Rattle.json.specs.Reads.{token_of}
pub use Rattle.json.specs.Run.{is_stop}
unfoldable pub use Rattle.json.specs.Text.{content}
pub use Rattle.json.specs.Token.{Token, begin_object, end_object}
pub use Rattle.json.specs.Tree.{HasNumbers, ItemsHaveNumbers, MembersHaveNumbers, items_tokens, json_tokens, members_tokens}
pub use Rattle.json.specs.Word.{after_number, ends_word, word}
pub use Rattle.lsp_message.specs.Agreement.{announced_of, offers_named, offers_of}
pub use Rattle.lsp_message.specs.Incoming.{did_change, incoming_of}
pub use Rattle.lsp_message.specs.Lengths.{lengths_in, lengths_of}
pub use Rattle.lsp_message.specs.Message.{IdData, MessageData, OutcomeData, Reading, failed, given, id_found, id_in, is_version_two, message, message_by, message_in, message_of, not_a_message, not_json, notification, outcome_in, reading, request, response, text, whole}
pub use Rattle.lsp_message.specs.Outgoing.{OutgoingData, body_of, content_change_text, did_close, did_open, document_text, error_reply, error_text, exit, id_text, initialize, initialize_result, initialized, notification_text, position_text, range_text, result_text, shutdown, shutdown_result}
pub use Rattle.lsp_message.specs.Written.{opened_document, range_before, value_of}
pub use Rattle.lsp_message.specs.Params.{ChangeData, CloseData, ContentChangeData, DocumentItem, HasChanges, change_of, close_of, content_change_in, coordinate_in, open_of, position_in, range_in, range_of, version_from, version_in}
pub use Rattle.lsp_message.specs.Seen.{IsFaultOfError, IsReadFault, content_change_view, did_change_of, incoming_view, message_view, outgoing_view}
pub use Rattle.lsp_message.specs.Values.{each_of, is_missing, is_null, member_at, natural_in, text_in}
pub use Rattle.lsp_message.specs.declared.agreement.Offers.{Offers}
pub use Rattle.lsp_message.specs.declared.agreement.SyncKind.{SyncKind}
pub use Rattle.lsp_message.specs.declared.agreement.SyncKind.TheVariants.{Full, Incremental, Off}
pub use Rattle.lsp_message.specs.declared.outgoing.ErrorCode.{ErrorCode}
pub use Rattle.lsp_message.specs.declared.outgoing.ErrorCode.TheVariants.{InvalidParams, InvalidRequest, MethodNotFound, ParseError, ServerNotInitialized}
pub use Rattle.lsp_message.specs.inside.Lexemes.{IsLengthAt, IsTaken, IsValueAt, document_data, one_change}
pub use Rattle.lsp_message.specs.inside.Message.{answer_of, call_of, outcome_of, reading_by, reading_of_members, reading_with}
pub use Rattle.lsp_message.specs.inside.Params.{content_changes_in}
pub use Rattle.lsp_message.specs.inside.Reading.{array_at, items_at, items_then, members_at, object_at, value_at}
pub use Rattle.lsp_message.specs.inside.Scalars.{kept, kept_number, number_data}
pub use Rattle.lsp_message.specs.inside.Tokens.{Appends, joined, member_tokens, tokens_of}
pub use Rattle.lsp_message.specs.laws.Messages.{IdLaw, IsIdOf, IsTwo, MessageRows, NamedLaw, NamesRequest, NotificationLaw, RefusalLaw, RefusedRows, error_of, id_of, method_of, params_of, result_of, version_of}
pub use Rattle.lsp_message.specs.laws.Sent.{IsProper, IsProperChange, IsProperDocument, IsProperEdit, IsProperId, IsProperPosition, IsProperRange, IsReadBack, sent}
pub use Rattle.lsp_text.specs.declared.encoding.Encoding.{Encoding}
pub use Rattle.lsp_text.specs.declared.encoding.Encoding.TheVariants.{Utf16, Utf32, Utf8}
pub use Rattle.lsp_text.specs.declared.position.Position.{Position}
pub use Rattle.lsp_text.specs.declared.position.Range.{Range}
pub use Rattle.serde_json.proofs.Texts.{print-outline}
pub use Rattle.serde_json.proofs.Views.{get_member-put, get_member-put_other, view-Object, view-lookup, view_of_ref}
pub use Rattle.serde_json.specs.Data.{Data, Items, Members, Num, array, boolean, depth, float, item, items_depth, member, members_depth, negative, no_items, no_members, null, number, object, put, string, unsigned}
pub use Rattle.serde_json.specs.Find.{as_array, as_i64, as_object, as_str, get, get_member, of_integer}
pub use Rattle.serde_json.specs.Read.{converted, max_depth, number_from, number_of, of_items, of_json, of_members, read}
pub use Rattle.serde_json.specs.View.{items_of, items_view, members_view, view}
pub use Rattle.serde_json.specs.Written.{comma_if, compact_text, items_outline, items_text, members_outline, members_text, number_text, outline}
pub use Rattle.serde_json.specs.declared.value.Value.{Value}
