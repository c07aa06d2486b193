-- What these definitions import from below, so that each names it by one line.
pub use Rattle.std.specs.Io.KnownBytes.{Appends, Keeps, prepend_known}
pub use Rattle.std.specs.Prelude.{Bool, Err, IfSome, List, None, Ok, Option, Result, Some, Vec, [], codes, decimal, drop, false, if◌then◌else◌, is_some, length, min, option_and_then, option_map, take, true, ℕ, ⊤, ◌*◌, ◌++◌, ◌+◌, ◌-◌, ◌<◌, ◌==◌, ◌^◌, ◌∷◌, ◌≡◌, ◌≤◌, ◌⊎◌}
pub use Rattle.clap.specs.Simple.{matches_of, new_shape}
pub use Rattle.clap.specs.Values.{kind_of}
pub use Rattle.clap.specs.Words.{Rule}
pub use Rattle.clap.specs.declared.error.Error.{Error}
pub use Rattle.lsp_message.specs.Outgoing.{code_of, document_text}
pub use Rattle.lsp_message.specs.Params.{DocumentItem}
pub use Rattle.lsp_pair.specs.Events.{EventData}
pub use Rattle.lsp_pair.specs.Pair.{IsFitting, IsStep, PairData, are_within, can_choose_utf16, new_pair}
pub use Rattle.lsp_pair.specs.declared.event.Happened.{Happened}
pub use Rattle.lsp_pair.specs.declared.setting.PairFault.{PairFault}
pub use Rattle.lsp_pair.specs.declared.setting.PairFault.TheVariants.{LimitsTooSmall, NotUtf16}
pub use Rattle.lsp_program.specs.Output.{IsFlushed, IsPrinted, IsStopped, IsTextPrinted, Streams, allowed_turns}
pub use Rattle.lsp_simulate.specs.declared.command_line.Setting.{Setting}
pub use Rattle.lsp_simulate.specs.declared.run.RunFault.{RunFault}
pub use Rattle.lsp_simulate.specs.declared.run.RunFault.TheVariants.{BadEvent, Pair, Read}
pub use Rattle.lsp_stream.specs.Ports.{Ports, ReaderState, Rose, WriterState, ports}
pub use Rattle.lsp_stream.specs.Turns.{AppendsFront, Spends}
pub use Rattle.lsp_stream.specs.declared.fault.EngineFault.{EngineFault}
