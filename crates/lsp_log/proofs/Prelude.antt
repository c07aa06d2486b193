-- What more than one proof of this crate imports, so that each names it by one line.
pub use Rattle.std.proofs.Common.{Bool, List, None, Option, Some, [], ap, append-nil, append_assoc, arith, drop, inl, inr, length, refl, subst, suc, sym, true, zero, ℕ, ◌++◌, ◌-◌, ◌^◌, ◌∙◌, ◌∷◌, ◌≢◌, ◌⊎◌}
pub use Rattle.std.proofs.lemmas.Bool.{cases_Bool, cases_eq, cases_lt, false_from_ne_true}
pub use Rattle.std.proofs.lemmas.Grind.{common_steps}
pub use Rattle.std.proofs.lemmas.List.{append_cancel_left, length-append, length-drop, length-take, take-append-drop, take-append-le, take-take, take_at}
pub use Rattle.std.specs.Io.KnownBytes.{Consumes}
pub use Rattle.std.specs.List.{starts_with}
pub use Rattle.std.specs.Prelude.{false, is_some, min, nat_eq, not, slice_get, take, ◌+◌, ◌<◌, ◌≡◌, ◌≤◌}
pub use Rattle.lsp_frame.specs.Faults.{IsDecided, place_after}
pub use Rattle.lsp_frame.specs.Frame.{HasNoFrame, IsFrameOf}
pub use Rattle.lsp_frame.specs.Stream.{FramerData, HoldsOne, IsFeedFault, IsFrame, IsPart, IsStreamFault, released}
pub use Rattle.lsp_frame.specs.laws.Frames.{DecisionLaw, FrontLaw, SameFrame}
pub use Rattle.lsp_log.specs.Log.{AreRecords, HasNoRecord, IsMalformed, IsReadAs, IsRecord, IsVersion, Log, LogRules, Record, is_line_due, line_of, mark_of, record_bytes, together, version_line}
pub use Rattle.lsp_log.specs.Opening.{IsLineFront}
pub use Rattle.lsp_log.specs.Splitting.{IsAfter, IsFed, IsOpen, IsReady, IsSide, IsSplitFault, buffered_of, log_at, mark_part, record_at, side_of}
pub use Rattle.lsp_log.specs.declared.record.Sender.{Sender}
pub use Rattle.lsp_log.specs.declared.record.Sender.TheVariants.{Client, Server}
pub use Rattle.lsp_log.specs.declared.record.Version.{Version}
pub use Rattle.lsp_log.specs.declared.record.Version.TheVariants.{One, Two}
pub use Rattle.lsp_log.specs.declared.splitter.Splitter.{Splitter}
pub use Rattle.lsp_log.specs.laws.Logs.{AllRecords, AllRecordsLaw, BufferedLaw, FirstLaw, RestLaw, UniqueLaw, VersionLaw}
