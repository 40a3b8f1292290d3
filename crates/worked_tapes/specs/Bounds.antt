-- The tapes that runs need at the bounds of what is seen and known.
use Rattle.std.specs.Prelude.{List, [], ◌∷◌, Some, None}
use Rattle.wasm_syntax.specs.declared.values.ValType.TheVariants.{F32}
use Rattle.host_script.specs.declared.scripts.Address.TheVariants.{Fixed}
use Rattle.host_script.specs.declared.scripts.Action.TheVariants.{Write, SetTable, SetGlobal, Grow as GrowBy, GrowTable}
use Rattle.base.specs.declared.outcomes.Outcome.TheVariants.{Ended, Trapped}
use Rattle.trace_model.specs.declared.tapes.Origin.TheVariants.{Begin, Import, Back}
use Rattle.trace_model.specs.declared.tapes.Next.TheVariants.{Call, Return, End}
use Rattle.trace_model.specs.declared.tapes.Effect.{Effect}
use Rattle.trace_model.specs.declared.tapes.Effect.TheVariants.{Grow, Table, Bytes, Entry, Global}
use Rattle.trace_model.specs.declared.tapes.Segment.{Segment}
use Rattle.worked_histories.specs.Build.{value}
use Rattle.worked_histories.specs.Scripts.{does, does_all}
use Rattle.worked_tapes.specs.TapeBuild.{segment, changes, changes_then_traps, Needs}
use Rattle.worked_tapes.specs.Modules.{does_then}
use Rattle.worked_tapes.specs.Modules as modules

-- changes in each of two calls of the import
abbrev pub changes_twice : (first second : List Effect) → List Segment
changes_twice first second =
    segment Begin [] (Call 1 []) ∷ segment (Import 0) first (Return None) ∷ segment (Import 0) second (Return None)
    ∷ segment Back [] End ∷ []

-- all tapes at the bounds
pub record WorkedBounds : Type 0 where
  -- ---- sizes
  -- an access that ends where the known memory does does not see a growth
  pub last_byte : Needs modules.last_byte (does (GrowBy 1)) (changes []) 3 Ended
  -- an access that ends where the known memory ends does not make the growth known
  pub last_then_next
      : Needs modules.last_then_next (does_then (GrowBy 1 ∷ []) []) (changes_twice [] (Grow 2 ∷ [])) 5 Ended
  -- a byte in the page that the host added
  pub reads_next : Needs modules.reads_next (does_all (GrowBy 1 ∷ Write (Fixed 65536) (5 ∷ []) ∷ []))
      (changes (Grow 2 ∷ Bytes 65536 (5 ∷ []) ∷ [])) 5 Ended
  -- the size to which the module itself grew the memory is known
  pub grows_itself : Needs modules.grows_itself (does_then [] (GrowBy 1 ∷ [])) (changes_twice [] []) 4 Ended
  -- a growth by the module sees the host's growth before it
  pub grows_after_host
      : Needs modules.grows_itself (does_then (GrowBy 1 ∷ []) []) (changes_twice (Grow 2 ∷ []) []) 5 Ended
  -- a size that is seen once is known, until the host changes it again
  pub sizes_once
      : Needs modules.sizes_twice (does_then (GrowBy 1 ∷ []) []) (changes_twice (Grow 2 ∷ []) []) 5 Ended
  pub sizes_twice : Needs modules.sizes_twice (does_then (GrowBy 1 ∷ []) (GrowBy 2 ∷ []))
      (changes_twice (Grow 2 ∷ []) (Grow 4 ∷ [])) 6 Ended
  -- an index directly after the known table sees its growth, the last one within it does not
  pub first_past_table
      : Needs (modules.calls_entry 2) (does (GrowTable 1)) (changes_then_traps (Table 3 ∷ [])) 3 Trapped
  pub last_in_table : Needs (modules.calls_entry 1) (does (GrowTable 1)) (changes_then_traps []) 2 Trapped
  pub last_then_next_entry : Needs modules.calls_last_then_next
      (does_then (GrowTable 1 ∷ SetTable 1 (Some 2) ∷ SetTable 2 (Some 2) ∷ []) [])
      (changes_twice (Entry 1 (Some 2) ∷ []) (Table 3 ∷ Entry 2 (Some 2) ∷ [])) 7 Ended
  -- ---- bytes and globals
  -- a byte that was read is known: the same byte again is not needed
  pub same_again
      : Needs modules.reads_twice (does_then (Write (Fixed 0) (5 ∷ []) ∷ []) (Write (Fixed 0) (5 ∷ []) ∷ []))
      (changes_twice (Bytes 0 (5 ∷ []) ∷ []) []) 5 Ended
  -- without a change the byte is not needed again
  pub nothing_again : Needs modules.reads_twice (does_then (Write (Fixed 0) (5 ∷ []) ∷ []) [])
      (changes_twice (Bytes 0 (5 ∷ []) ∷ []) []) 5 Ended
  -- a byte that is again as it was when the run began is needed
  pub back_to_first
      : Needs modules.reads_twice (does_then (Write (Fixed 0) (5 ∷ []) ∷ []) (Write (Fixed 0) (0 ∷ []) ∷ []))
      (changes_twice (Bytes 0 (5 ∷ []) ∷ []) (Bytes 0 (0 ∷ []) ∷ [])) 6 Ended
  -- a byte that the module stored is known, and the byte before it is not needed
  pub stored_by_module
      : Needs modules.stores_between (does_then (Write (Fixed 0) (7 ∷ []) ∷ []) (Write (Fixed 0) (9 ∷ []) ∷ []))
      (changes_twice [] []) 4 Ended
  pub stored_by_both
      : Needs modules.stores_between (does_then (Write (Fixed 0) (7 ∷ []) ∷ []) (Write (Fixed 0) (7 ∷ []) ∷ []))
      (changes_twice [] (Bytes 0 (7 ∷ []) ∷ [])) 5 Ended
  -- bytes that two loads read, side by side, are one run
  pub one_run : Needs modules.reads_words (does (Write (Fixed 8) (1 ∷ 2 ∷ 3 ∷ 4 ∷ 5 ∷ 6 ∷ 7 ∷ 8 ∷ [])))
      (changes (Bytes 8 (1 ∷ 2 ∷ 3 ∷ 4 ∷ 5 ∷ 6 ∷ 7 ∷ 8 ∷ []) ∷ [])) 11 Ended
  -- an unchanged byte among them separates two runs
  pub two_runs : Needs modules.reads_words (does (Write (Fixed 8) (1 ∷ 2 ∷ 3 ∷ 0 ∷ 5 ∷ 6 ∷ 7 ∷ 8 ∷ [])))
      (changes (Bytes 8 (1 ∷ 2 ∷ 3 ∷ []) ∷ Bytes 12 (5 ∷ 6 ∷ 7 ∷ 8 ∷ []) ∷ [])) 10 Ended
  -- a global that the module set is known
  pub set_by_module
      : Needs modules.sets_between (does_then (SetGlobal 0 (value F32 7) ∷ []) (SetGlobal 0 (value F32 1) ∷ []))
      (changes_twice [] []) 4 Ended
  pub set_by_both : Needs modules.sets_between (does_then [] (SetGlobal 0 (value F32 0) ∷ []))
      (changes_twice [] (Global 0 (value F32 0) ∷ [])) 5 Ended
