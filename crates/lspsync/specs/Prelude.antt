-- What these definitions import from below, so that each names it by one line.
pub use Rattle.std.specs.Io.KnownBytes.{Keeps}
pub use Rattle.std.specs.Prelude.{All, Bool, Err, IfSome, List, None, Ok, Option, Result, Some, String, Vec, [], codes, decimal, false, if◌then◌else◌, is_some, length, map, max, nat_lt, not, option_and_then, option_map, take, true, unwrap_or, ℕ, ◌&&◌, ◌++◌, ◌||◌, ◌∷◌, ◌≡◌, ◌⊎◌}
pub use Rattle.std.specs.String.{string_bytes}
pub use Rattle.std.specs.declared.alloc.Global.{Global}
pub use Rattle.clap.specs.Simple.{new_shape, subcommand_of, subcommand_rows_of}
pub use Rattle.clap.specs.Values.{kind_of}
pub use Rattle.clap.specs.Words.{Rule, Shape, Text, app_of, with_subcommand}
pub use Rattle.clap.specs.declared.error.Error.{Error}
pub use Rattle.line_diff.specs.Comparison.{new_comparison}
pub use Rattle.lsp_program.specs.Arguments.{Choices, IsProgramOf, encoding_rule, file_rule, flag_rule, form_rule, limit_rules, log_rule, logs_rule, number_rule, rule_by, text_rule}
pub use Rattle.lsp_program.specs.Output.{IsFlushed, IsPrinted, IsTextPrinted, Streams, allowed_turns}
pub use Rattle.log_report.specs.Compare.{compare_engine}
pub use Rattle.log_rewrite.specs.Part.{part_engine}
pub use Rattle.log_session.specs.Run.{Engine, IsEngineRun, live}
pub use Rattle.log_report.specs.Check.{check_engine}
pub use Rattle.log_rewrite.specs.Convert.{convert_engine}
pub use Rattle.log_rewrite.specs.Squash.{normalise_engine}
pub use Rattle.log_session.specs.Replay.{replay_engine}
pub use Rattle.log_session.specs.Serve.{serve_engine}
pub use Rattle.log_session.specs.declared.settings.Settings.{Settings}
pub use Rattle.log_session.specs.declared.outcome.Missing.{Missing}
pub use Rattle.log_session.specs.declared.outcome.Outcome.{Outcome}
pub use Rattle.lsp_stream.specs.Ports.{Ports, ReaderState, WriterState, ports, uncounted}
pub use Rattle.lsp_stream.specs.declared.fault.EngineFault.{EngineFault}
pub use Rattle.lsp_text.specs.declared.encoding.Encoding.{Encoding}
pub use Rattle.lspsync.specs.declared.command_line.Call.{Call}
pub use Rattle.lspsync.specs.declared.command_line.Task.{Task}
pub use Rattle.lspsync.specs.declared.wanted.Wanted.{Wanted}
