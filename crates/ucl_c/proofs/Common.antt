-- The words and lemmas from elsewhere that the proofs of this crate share.
pub use Rattle.std.proofs.Common.{List, [], ap, false, lit<, refl, subst, sym, true, ℕ, ◌∙◌, ◌∷◌, ◌≡◌}
pub use Rattle.std.proofs.alloc.Calls.{Goes-blank, handle_tells, token}
pub use Rattle.std.proofs.raw_atomic.Walks.{proved, proved_at}
pub use Rattle.std.specs.Box.Ownership.{box_owns}
pub use Rattle.std_alloc.proofs.BoxSteps.Form.{B, Bx, D, P, R, args, box_ty, box_typed, word, τ}
pub use Rattle.std_alloc.proofs.BoxSteps.Steps.{box_in, box_out}
pub use Rattle.std_heap.specs.contracts.GlobalAllocator.TheImpl.{ghosts}
pub use Rattle.ucl_c.specs.Handles.{is_null, pass_at}
pub use Rattle.ucl_c.specs.OwnedAt.{freed, heap, owned_at}
pub use base.Fml.{Fml, flft, fsep, ftrue}
pub use base.Fraction.{full_share}
pub use base.Logic.{ent, fst∗, guard, guard_i, id⊢, never, snd∗, via}
pub use contract.BorrowLft.{◌⊑◌}
pub use contract.Monad.{fact, fact_mono, fact_use}
pub use contract.Running.{tables}
pub use denote.Exit.{no, yes}
pub use denote.Laws.{shows}
pub use denote.Memory.{cell_at, lone}
pub use denote.RattleType.{RattleType, Valss}
pub use denote.RawPtr.{Ptr, RawPtr, Testable, block_ptr, count_of, in_a_block, lies_at, null_ptr, ptr_val, rawptr_Lawful, tests_null}
pub use denote.Ref.{MutRef, mut_Tells, mut_vals}
pub use denote.Signature.{plain}
pub use denote.Steps.{closes, heard, nothing, only, opens, peeks}
pub use denote.Struct.Owning.{fields, shape, to}
pub use denote.Struct.Struct.{exits_of, within}
pub use denote.Triple.Call.{calls_at, calls_at_last}
pub use denote.Triple.Spec.{triple_of}
pub use denote.Triple.Table.{framed}
pub use denote.Triple.Walked.{Goes-dropped, Goes-ref, Stays, ends_at, says, stay_dropped, stay_ref, walk_of}
pub use lib.Dec.{T}
pub use mathlib.Core.List.{◌++◌}
pub use mir.MapTy.{inst_fn}
pub use mir.Syntax.{Body, a_type, assign, copy, dcons, dnil, named, place, return, rv_opd, seq}
pub use mir.Val.{Val, WT, has_ty, of_list, vbool, vcons, vnil, vnull, vptr, vstruct, vunit}
pub use prog.Wp.{WpFn}
pub use seplogic.Ra.Ura.{Ura}
pub use types.ByLocal.{alloc_all, env, free_all, get, get_in, lands_as, lands_last, look_at, pass_all, sets, through}
pub use types.Kit.{ !, Goal, Item, Seq, at_ret, await, by, done, drop, feq_i, feq_l, fjoin, fpack, fpick, frame, fsplit, fsplit3, given, group, join, keep, later}
pub use types.Kit.{learn, move, pick, qed, raw, rewrite, some, split, split3, suffices, use1, ‵, ◌$◌, ◌∵◌, ◌⊛◌}
pub use types.Logic.{Logic, sem}
pub use types.Part.{agg, look_in, store_in, sub, whole}
pub use types.Run.{and_then, assigns, bin, blocks, enter, exec, first, fld, lit, load, no_more, of_opd, returns, stop, unit_lit}
