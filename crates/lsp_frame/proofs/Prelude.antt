-- What more than one proof of this crate imports, so that each names it by one line.
pub use Rattle.std.proofs.Common.{Bool, Global, List, None, Vec, [], ap, append-nil, append_assoc, arith, codes, drop, false, get_or, inl, inr, length, lit<, map, not, refl, reverse, rules, subst, suc, sym, take, take-append-drop, true, vec_capacity, zero, ℕ, ◌&&◌, ◌*◌, ◌++◌, ◌+◌, ◌-◌, ◌<◌, ◌^◌, ◌||◌, ◌∙◌, ◌∷◌, ◌≡◌, ◌≢◌, ◌≤◌}
pub use Rattle.std.proofs.Math.Seq.{drop-append_seam, get_or-append_seam, take-add, take-append-add, take-append_seam}
pub use Rattle.std.proofs.lemmas.Bool.{cases_eq, cases_lt, cases_order, eqb-false, eqb-true, false≢true, le-leb, le-ltb, leb-true, lt-ltb, ltb-false, ne_eqb}
pub use Rattle.std.proofs.lemmas.Grind.{common_steps}
pub use Rattle.std.proofs.lemmas.List.{at_drop_more, drop_at, get_or-reverse, get_or-take, get_or_append_left, get_or_at, get_or_default, length-append, length-drop, length-replicate, length-reverse, length-take, length-take-le, map_push, nil_from_length, reverse-reverse, take-append-le, take-take, take_all, take_at, take_more, take_rest}
pub use Rattle.std.proofs.lemmas.List.Folds.{length-flat_map-take, list_all_at}
pub use Rattle.std.specs.List.{AllByRecursion, flat_map, list_all, list_any, position_or_len, slice_split}
pub use Rattle.std.specs.Prelude.{Err, IfNone, IfOk, Ok, OnErr, Option, Result, Some, decimal, fold, if◌then◌else◌, nat_le, nat_lt, replicate, unwrap_or, ◌==◌, ◌⊎◌}
pub use Rattle.lsp_frame.specs.Charset.{has_good_charset, is_blank, is_equals, is_good_parameter, is_good_trimmed, is_semicolon, is_text, is_utf8_name, trimmed, trimmed_end, trimmed_start, unquoted}
pub use Rattle.lsp_frame.specs.Faults.{IsBadHeaderAt, IsDecided, IsDecidedAt, IsHeaderTooLongAt, IsJudgedAt, header_fault_at, place_after}
pub use Rattle.lsp_frame.specs.Frame.{HasNoFrame, IsFrameOf, IsHopeless, frame}
pub use Rattle.lsp_frame.specs.Header.{AreLines, BeginsHeader, IsLine, IsNameByte, IsValueByte, Line, header_of, line_bytes, lines_bytes}
pub use Rattle.lsp_frame.specs.Limits.{LimitsData}
pub use Rattle.lsp_frame.specs.Stream.{AreFrames, FramerData, HoldsOne, IsFeedFault, IsFrame, IsPart, IsRead, IsSound, IsStreamFault, has_failed, released}
pub use Rattle.lsp_frame.specs.Verdict.{is_digit, judge_header, judge_single, judge_values, number, values_of}
pub use Rattle.lsp_frame.specs.declared.fault.FrameFault.{FrameFault}
pub use Rattle.lsp_frame.specs.declared.fault.FrameFault.TheVariants.{Failed}
pub use Rattle.lsp_frame.specs.declared.fault.HeaderFault.{HeaderFault}
pub use Rattle.lsp_frame.specs.declared.framer.header.Stop.{Stop}
pub use Rattle.lsp_frame.specs.declared.framer.notes.Notes.{Notes}
pub use Rattle.lsp_frame.specs.declared.framer.shape.Shape.{Shape}
pub use Rattle.lsp_frame.specs.declared.framer.stage.Stage.{Stage}
pub use Rattle.lsp_frame.specs.inside.Progress.{IsBadByte, IsHeaderStop, IsLineStop, StopsHeader, both_judged, judge_notes, length_judged, stage_after, stopped_at}
pub use Rattle.lsp_frame.specs.inside.Stage.{BeginsWritten, CanContinue, IsAtStage, IsInBody, IsInHeader, IsPartOfLine, IsSoFar, IsWhole, charset_noted, charset_of, is_over, length_noted, length_of, length_said, noted, notes_of}
pub use Rattle.lsp_frame.specs.inside.Stream.{HasTaken, IsFaulty, IsHolding}
pub use Rattle.lsp_frame.specs.laws.Frames.{AllFrames, AllFramesLaw, BeginsFrame, BoundLaw, DecisionLaw, FaultLaw, FramesLaw, InjectiveLaw, OneFrameLaw, SameFrame}
pub use Rattle.memchr.specs.Find.{IsFirstByte, is_byte}
