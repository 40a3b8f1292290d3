-- The steps that the proofs by hand of this crate take, in one place.
pub use base.Fml.{Lft, GName, Share, Fml, ftrue, fsep, flft, fhide}
pub use base.Fraction.{full_share}
pub use base.Logic.{SProp, ent, sep, emp, id⊢, via, fst∗, never}
pub use contract.BorrowLft.{◌⊑◌}
pub use contract.Monad.{Fun, fact}
pub use contract.Running.{tables}
pub use denote.Exit.{yes, no}
pub use denote.RattleType.{RattleType, RowLaws, owns}
pub use denote.RawPtr.{Ptr, RawPtr, block_ptr, null_ptr, ptr_val, in_a_block}
pub use denote.Signature.{plain, type_at}
pub use denote.Steps.{nothing, heard, only}
pub use denote.Triple.Entry.{on_entry}
pub use denote.Triple.Spec.{Meets, triple_of}
pub use denote.Triple.Table.{entered}
pub use denote.Triple.Walked.{says, Stays, walk_of, walked, ends_at, walk_Meets, stay_dropped, Goes-dropped}
pub use lib.Dec.{T}
pub use mathlib.Core.List.{List, [], ◌∷◌, ◌++◌}
pub use mathlib.Core.Path.{◌≡◌, refl, sym, subst, ap, ◌∙◌}
pub use mir.Syntax.{Fn}
pub use mir.Val.{Val, vptr, has_ty, WT}
pub use Prim.Native.Nat.{ℕ, ◌+◌}
pub use prog.Memory.{Memory}
pub use prog.Routine.{Routine}
pub use prog.Wp.{Calls, Loops, WpFn, Tables}
pub use seplogic.Ra.Ura.{Ura}
pub use sound.WpLaws.{WpFn-mono, fm_of}
pub use types.ByLocal.{alloc_all, pass_all, free_all, look_at, get, get_in, through, sets, sets_last, lands_as, lands_last, env}
pub use types.Kit.{Item, ⋆, at_ret, ‵, raw, ◌⊛◌, some, later, ◌$◌, ◌∵◌, !, qed, by, move, keep, drop, use1, join, split, split3, pick, rewrite, fsplit, fsplit3, fjoin, feq_i, feq_l, fpick, fpack, group, suffices, await, frame, done}
pub use types.Logic.{Logic, sem}
pub use types.Part.{whole, sub, look_in, agg}
pub use types.Run.{stop, fld, hop, look, addr, of_opd, no_more, and_then, returns, enter, first, blocks, exec}
