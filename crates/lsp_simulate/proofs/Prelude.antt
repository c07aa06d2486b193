-- What more than one proof of this crate imports, so that each names it by one line.
pub use Rattle.std.proofs.Common.{Bool, Err, Global, List, Ok, OnOk, Option, Result, Vec, ap, append-nil, append_assoc, arith, codes, decimal, drop, false, get_or, inl, inr, is_some, length, of_z, refl, rules, subst, suc, sym, take, to_z, true, w32, zero, ℕ, ℤ, ◌++◌, ◌-◌, ◌<◌, ◌↔◌, ◌∙◌, ◌≡◌, ◌⊎◌}
pub use Rattle.std.proofs.KnownBytes.{Appends-nil, Appends-trans}
pub use Rattle.std.proofs.lemmas.List.{drop-drop, drop-take, length-append, length-take, take-append-drop, take_all}
pub use Rattle.std.proofs.lemmas.Result.{err_from_is_err_and}
pub use Rattle.std.specs.Fmt.{signed_decimal}
pub use Rattle.std.specs.Io.KnownBytes.{Appends, IsAtEnd, prepend_known}
pub use Rattle.std.specs.Prelude.{IfOk, IfSome, IsErrAnd, IsSome, None, Some, [], map, unwrap_or, ◌+◌, ◌∷◌, ◌≤◌}
pub use Rattle.std.specs.Str.Parse.{digits_value, without_leading_plus}
pub use Rattle.clap.specs.Words.{App, Rule, app_of, fault_of, found_of, is_simple, is_simple_and_free, matches_of, rows_of}
pub use Rattle.clap.specs.declared.parser.matches.ArgMatches.{ArgMatches}
pub use Rattle.lsp_message.specs.Params.{DocumentItem}
pub use Rattle.lsp_pair.specs.Pair.{IsFitting, IsStep, PairData, are_within, can_choose_utf16, new_pair}
pub use Rattle.lsp_program.proofs.CallLemmas.{front_after, front_before, rose_after, spends_more, stopped_after}
pub use Rattle.lsp_program.specs.Found.{HasNumber, IsFlag}
pub use Rattle.lsp_program.specs.Output.{IsPrinted, allowed_turns}
pub use Rattle.lsp_simulate.specs.CommandLine.{IsProgram, program_rules}
pub use Rattle.lsp_simulate.specs.Run.{IsReported, run_fault, run_fault_text}
pub use Rattle.lsp_simulate.specs.Session.{AppendsLines, AreSteps, AreWholeLines, IsSettingRefused, PairStep, RanSteps, ReadLines, WroteSession, WroteSteps, document_lines, end_document, end_lines, line_count, lines_from, next_line_number, pair_setting, step_line, step_lines, waiting_line}
pub use Rattle.lsp_simulate.specs.Setting.{AreServerLimits, AreWordsReadAs, HasEither, IsFound, IsSetting}
pub use Rattle.lsp_simulate.specs.declared.command_line.Setting.{Setting}
pub use Rattle.lsp_simulate.specs.declared.run.RunFault.{RunFault}
pub use Rattle.lsp_simulate.specs.declared.run.RunFault.TheVariants.{BadEvent, NoMemory, Read, Write}
pub use Rattle.lsp_simulate.specs.inside.Lines.{Passed, is_begun, lines_in, rest, size, unused}
pub use Rattle.lsp_simulate.specs.inside.Session.{IsStepLine, IsUnderWay, read_fault}
pub use Rattle.lsp_stream.specs.Ports.{ReaderState, Rose, WriterState, ports}
pub use Rattle.lsp_stream.specs.Turns.{AppendsFront, Spends, StaysWell, WritesWithin}
pub use Rattle.lsp_stream.specs.declared.fault.EngineFault.{EngineFault}
