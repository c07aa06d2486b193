-- What more than one proof of this crate imports, so that each names it by one line.
pub use Rattle.std.proofs.Common.{Bool, Err, IsOkAnd, IsUtf8, List, MatchOption, Ok, Result, [], ap, arith, false, inl, inr, length, lit<, map, refl, string_len, subst, sum_by, sym, take, true, ℕ, ◌++◌, ◌+◌, ◌<◌, ◌^◌, ◌∙◌, ◌∷◌, ◌≡◌, ◌⊎◌}
pub use Rattle.std.proofs.lemmas.Option.{none-some}
pub use Rattle.std.proofs.raw_atomic.Walks.{leaves, proved_at}
pub use Rattle.std.specs.Option.{is_some}
pub use Rattle.std.specs.Prelude.{IsSome, None, Option, Some, if◌then◌else◌, ◌≢◌}
pub use Rattle.std.specs.contracts.impls.GlobalAllocator.TheImpl.{ghosts}
pub use Rattle.std.specs.declared.alloc.Global.{Global}
pub use Rattle.core.proofs.alloc.Calls.{Al, Goes-blank, handle_tells}
pub use Rattle.core.proofs.atomic.Steps.{fm}
pub use Rattle.core.proofs.cell.Inside.{Good}
pub use Rattle.laspidru.specs.Edits.{edits_of, len_of, refused_edit}
pub use Rattle.laspidru.specs.Clients.{IsCalled, IsRefusedCall, IsStoreReport, IsWritten, delivered_out, sent_frame}
pub use Rattle.laspidru.specs.Framers.{HasNoBody, IsBodyAnswer, IsBodyOf, IsFedTo, IsNext, IsPieceFed, IsReleased, nothing_taken}
pub use Rattle.laspidru.specs.Streams.{EndData}
pub use Rattle.laspidru.specs.declared.stream.Stream.{Stream}
pub use Rattle.laspidru.specs.declared.codes.TheConstants.{BAD_FRAME, OK, OUT_OF_MEMORY, WRONG_PHASE}
pub use Rattle.laspidru.specs.declared.object.Object.{Object}
pub use Rattle.laspidru.specs.declared.object.Object.TheVariants.{End}
pub use Rattle.laspidru.specs.declared.party.Party.TheVariants.{Client}
pub use Rattle.laspidru.specs.declared.structs.FaultAt.{FaultAt}
pub use Rattle.laspidru.specs.declared.taken.Taken.{Taken}
pub use Rattle.laspidru.specs.inside.Clients.{IsCallReport, call_code}
pub use Rattle.laspidru.specs.inside.Stored.{object_at, object_if}
pub use Rattle.lsp_client.specs.Seen.{IsDelivered, IsFaultOf, IsSent}
pub use Rattle.lsp_client.specs.Step.{ClientData, DeliveredData, Delivery, Sending, delivery_of, delivery_result, is_listening}
pub use Rattle.lsp_client.specs.declared.fault.ClientFault.{ClientFault}
pub use Rattle.lsp_edit.specs.Edited.{content_change}
pub use Rattle.std_alloc.proofs.BoxSteps.Steps.{box_in, box_out}
pub use Rattle.std_alloc.proofs.ResultValues.{and_tt}
pub use Rattle.std_alloc.specs.Box.Ownership.{box_owns}
pub use base.Fml.{Fml, flft, fsep, ftrue}
pub use base.Logic.{SProp, emp, ent, fst∗, id⊢, never, never_e}
pub use contract.Monad.{fact, fact_i}
pub use contract.Running.{tables}
pub use denote.Builtin.{RawPtr, bool}
pub use denote.Exit.{no}
pub use denote.Memory.{lone}
pub use denote.Param.{bounded, layout, param}
pub use denote.Param.Laws.{Laws, param_laws}
pub use denote.RattleType.{RattleType, Valss, owns}
pub use denote.RawPtr.{Ptr, block_ptr, in_a_block, null_ptr, ptr_val}
pub use denote.Signature.{plain, types_at}
pub use denote.Steps.{heard, nothing, only}
pub use denote.Struct.Owning.{fields, shape, to}
pub use denote.Struct.Struct.{exits_of, within}
pub use denote.Struct.Tuple.{Tuple}
pub use denote.Triple.Call.{calls_at, calls_at_last}
pub use denote.Triple.Entry.{alive}
pub use denote.Triple.Spec.{triple_of}
pub use denote.Triple.Walked.{Stays, stay_dropped, walk_of}
pub use lib.Dec.{T}
pub use mathlib.Core.Bool.{false≢true, ◌&&◌}
pub use mir.MapTy.{inst_fn}
pub use mir.Syntax.{a_type, dcons, dnil, impl, tnil, ty_ptr}
pub use mir.Val.{Val, WT, has_ty, of_list, vbool, vcons, vnil, vptr, vstruct}
pub use prog.Wp.{WpFn}
pub use seplogic.Ra.Ura.{Ura}
pub use types.ByLocal.{alloc_all, env, free_all, get, get_in, lands_as, lands_last, look_at, pass_all, sets}
pub use types.Kit.{ !, Goal, Item, Seq, Step, at_ret, await, by, drop, feq_i, feq_l, fjoin, fjoin3, fpack, fpick, fsplit, given, join, keep, later, learn, move, pick, qed, raw, rewrite, some, split, split3, step, suffices, use0, use1, ‵, ◌$◌, ◌∵◌, ◌⊛◌}
pub use types.Logic.{Logic, sem}
pub use types.Part.{agg, sub, whole}
pub use types.Run.{and_then, blocks, enter, exec, false_lit, first, fld, lit, no_more, of_opd, returns, stop, true_lit}
