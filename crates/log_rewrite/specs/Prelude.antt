-- What these definitions import from below, so that each names it by one line.
pub use Rattle.std.specs.Io.KnownBytes.{Appends, Consumes}
pub use Rattle.std.specs.Prelude.{Bool, Err, IfOk, List, None, Ok, Option, Result, Some, [], codes, false, flat_map, is_none, is_some, length, map, nat_lt, not, option_map, true, ℕ, ⊤}
pub use Rattle.std.specs.Str.{bytes_eq}
pub use Rattle.std.specs.String.{string_bytes}
pub use Rattle.line_diff.specs.Names.{ends_so, is_exactly}
pub use Rattle.log_session.specs.declared.outcome.Outcome.{Outcome}
pub use Rattle.log_session.specs.declared.settings.Settings.{Settings}
pub use Rattle.lsp_frame.specs.Frame.{frame}
pub use Rattle.lsp_frame.specs.Limits.{AreInRange}
pub use Rattle.lsp_log.specs.Log.{IsReadAs, Log, LogRules, Record, mark_of, version_line}
pub use Rattle.lsp_log.specs.declared.record.Head.{Head}
pub use Rattle.lsp_message.specs.Message.{reading}
pub use Rattle.lsp_message.specs.Params.{ChangeData, DocumentItem}
pub use Rattle.lsp_server.specs.Answer.{changed, reply}
pub use Rattle.lsp_server.specs.Incoming.{incoming_of}
pub use Rattle.lsp_server.specs.Step.{ServerData, content_change_from_data, session_encoding}
pub use Rattle.lsp_store.specs.Squash.{HasReached, SquashData, squash_after, squash_frame, squash_of, squash_refusal}
pub use Rattle.lsp_store.specs.Table.{entry_at}
pub use Rattle.lsp_stream.specs.Ports.{Ports}
pub use Rattle.lsp_stream.specs.declared.fault.EngineFault.{EngineFault}
pub use Rattle.lsp_stream.specs.declared.fault.EngineFault.TheVariants.{BadLog, BodyTooLong}
