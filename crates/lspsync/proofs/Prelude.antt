-- What more than one proof of this crate imports, so that each names it by one line.
pub use Rattle.std.proofs.Common.{Bool, Bor, Global, List, Option, Result, String, Vec, [], ap, arith, codes, false, get_or, inl, inr, is_some, length, map, not, option_map, refl, rules, string_bytes, subst, sym, take, true, ℕ, ◌&&◌, ◌++◌, ◌+◌, ◌<◌, ◌≤◌, ◌∙◌, ◌≡◌}
pub use Rattle.std.proofs.lemmas.List.{append-nil, append_assoc, map_push, nil_from_length}
pub use Rattle.std.specs.Prelude.{Err, IfOk, IfSome, None, Ok, Some, nat_lt, ◌∷◌}
pub use Rattle.std.specs.Vec.Iter.{into_iter_items}
pub use Rattle.clap.specs.Words.{App, HasKind, Rule, app_of, fault_of, is_simple, is_simple_and_free, new_app, subcommand_of, subcommand_rows_of, with_subcommand}
pub use Rattle.clap.specs.declared.parser.matches.ArgMatches.{ArgMatches}
pub use Rattle.lsp_program.specs.Arguments.{Choices}
pub use Rattle.lsp_program.specs.Output.{IsPrinted, Streams, streams}
pub use Rattle.lsp_stream.specs.declared.fault.EngineFault.{EngineFault}
pub use Rattle.lspsync.specs.Call.{AreSettings, AreWordsReadAs, HasNumberOrNone, IsCallNamed, IsFound, IsLogPart, IsTaskNamed, file_named, file_of, is_whole, whole}
pub use Rattle.lspsync.specs.CommandLine.{IsProgram, common_rules, program_app}
pub use Rattle.lspsync.specs.FaultText.{fault_cause, fault_text}
pub use Rattle.lspsync.specs.Run.{AreDone, IsBlamed, IsFileEnding, IsTaskDone, KnownFiles, blame_lines, both_ends, error_line, nothing_yet}
pub use Rattle.lspsync.specs.declared.command_line.Call.{Call}
pub use Rattle.lspsync.specs.declared.command_line.Task.{Task}
pub use Rattle.lspsync.specs.declared.ends.Ending.{Ending}
