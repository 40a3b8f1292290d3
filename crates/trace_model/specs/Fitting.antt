-- Which tapes fit a module: a replay of them can be built.
use Rattle.std.specs.Prelude.{◌≡◌, ℕ, suc, ◌+◌, ◌*◌, List, [], ◌∷◌, length, map, Option, Some, None, Bool, true, false, cond, not, ◌&&◌, nat_eq, nat_lt, nat_le, slice_get, option_and_then, Result, Ok, Err}
use Rattle.std.specs.Option.{option_map_or, option_to_list}
use Rattle.std.specs.List.{list_all}
use Rattle.wasm_syntax.specs.declared.limits.TheConstants.{MAX_PAGES, MAX_ENTRIES, PAGE_SIZE}
use Rattle.wasm_syntax.specs.declared.values.ValType.{ValType}
use Rattle.wasm_syntax.specs.declared.values.Val.{Val}
use Rattle.wasm_syntax.specs.declared.signatures.FuncType.{FuncType}
use Rattle.wasm_syntax.specs.declared.signatures.Limits.{Limits}
use Rattle.wasm_syntax.specs.declared.signatures.GlobalType.{GlobalType}
use Rattle.wasm_syntax.specs.declared.modules.ImportKind.{ImportKind}
use Rattle.wasm_syntax.specs.declared.modules.Module.{Module}
use Rattle.wasm_syntax.specs.Alike.{same_type, same_types}
use Rattle.wasm_syntax.specs.Index.{imported_funcs, func_indices, func_type, all_tables, all_memories, all_globals, memory_import, table_import}
use Rattle.trace_model.specs.declared.tapes.Effect.{Effect}
use Rattle.trace_model.specs.declared.tapes.Effect.TheVariants.{Grow, Table, Bytes, Entry, Global}
use Rattle.trace_model.specs.declared.tapes.Origin.{Origin}
use Rattle.trace_model.specs.declared.tapes.Origin.TheVariants.{Begin, Import, Back}
use Rattle.trace_model.specs.declared.tapes.Next.{Next}
use Rattle.trace_model.specs.declared.tapes.Next.TheVariants.{Call, Return, End, Trap}
use Rattle.trace_model.specs.declared.tapes.Segment.{Segment}
use Rattle.trace_model.specs.declared.tapes.Tape.{Tape}
use Rattle.trace_model.specs.declared.fitting.TapeFault.{TapeFault}
use Rattle.trace_model.specs.declared.fitting.TapeFault.TheVariants as faults
use Rattle.trace_model.specs.Effects.{are_ordered}

-- ---- effects

-- a size is within the limit and within the maximum, if there is one
abbrev pub is_within : ℕ → ℕ → Option ℕ → Bool
is_within limit size None = nat_le size limit
is_within limit size (Some most) = nat_le size limit && nat_le size most

-- the memory or table exists, and a size is within the limit and its maximum
abbrev pub grows_within : ℕ → ℕ → Option Limits → Bool
grows_within limit size None = false
grows_within limit size (Some limits) = is_within limit size limits.max

-- the function exists, if one is named
abbrev pub names_function : Module → Option ℕ → Bool
names_function m None = true
names_function m (Some func) = nat_lt func (length (func_indices m))

-- the global exists, is mutable, and has the value's type
abbrev pub takes_value : ValType → Option GlobalType → Bool
takes_value ty None = false
takes_value ty (Some g) = g.mutable && same_type ty g.ty

-- the limits of an import that is a table; of one that is a memory
abbrev pub limits_import : (of_table : Bool) → ImportKind → Option Limits
limits_import true = table_import
limits_import false = memory_import

-- what an effect changes exists and can take the change: a size within the limits, bytes within the address
-- space, a function that exists, a value of the global's type
abbrev pub effect_fits : Module → Effect → Bool
effect_fits m (Grow pages) = grows_within MAX_PAGES pages (slice_get (all_memories m) 0)
effect_fits m (Table size) = grows_within MAX_ENTRIES size (slice_get (all_tables m) 0)
effect_fits m (Bytes addr bytes) =
    nat_lt 0 (length (all_memories m)) && nat_le (addr + length bytes) (MAX_PAGES * PAGE_SIZE)
effect_fits m (Entry index func) = nat_lt 0 (length (all_tables m)) && names_function m func
effect_fits m (Global global value) = takes_value value.ty (slice_get (all_globals m) global)

-- the effects of a segment are in the order of a tape, and each fits
abbrev pub effects_fit : Module → List Effect → Bool
effects_fit m effects = are_ordered effects && list_all (effect_fits m) effects

-- ---- segments

-- the imports whose calls are open, the innermost first, after control reached the host; segment 0, and no
-- other, begins the run
abbrev pub came : Module → (at : ℕ) → List ℕ → Origin → Option (List ℕ)
came m at opened Begin = cond (nat_eq at 0) (Some opened) None
came m at opened (Import import) =
    cond (not (nat_eq at 0) && nat_lt import (imported_funcs m)) (Some (import ∷ opened)) None
came m at opened Back = cond (nat_eq at 0) None (Some opened)

-- the types of values; they are those of a function's parameters; they are those of its results
abbrev pub types_of : List Val → List ValType
types_of values = map (λ value. value.ty) values

abbrev pub takes_values : List ValType → Option FuncType → Bool
takes_values types None = false
takes_values types (Some ty) = same_types types ty.params

abbrev pub gives_values : List ValType → Option FuncType → Bool
gives_values types None = false
gives_values types (Some ty) = same_types types ty.results

-- the imports whose calls are open after control leaves the host: by a call of a defined function with its
-- arguments; by the return of the innermost import with its result; in the last segment, by the end of the work
-- if no import is open, or by a trap if one is
abbrev pub left : Module → (is_last : Bool) → List ℕ → Next → Option (List ℕ)
left m is_last opened (Call func args) =
    cond (nat_le (imported_funcs m) func && takes_values (types_of args) (func_type m func)) (Some opened) None
left m is_last [] (Return result) = None
left m is_last (import ∷ opened) (Return result) =
    cond (gives_values (types_of (option_to_list result)) (func_type m import)) (Some opened) None
left m is_last [] End = cond is_last (Some []) None
left m is_last (import ∷ opened) End = None
left m is_last [] Trap = None
left m is_last (import ∷ opened) Trap = cond is_last (Some (import ∷ opened)) None

-- the imports whose calls are open after a segment, if the segment fits
abbrev pub fitting_step : Module → (at : ℕ) → (is_last : Bool) → List ℕ → Segment → Option (List ℕ)
fitting_step m at is_last opened segment =
    option_and_then (λ inside. cond (effects_fit m segment.effects) (left m is_last inside segment.next) None)
    (came m at opened segment.origin)

-- the number of the first segment that does not fit, if the first of the list has number `at` of `count` in all
abbrev pub unfit_from : Module → (count at : ℕ) → List ℕ → List Segment → Option ℕ
unfit_from m count at opened [] = None
unfit_from m count at opened (segment ∷ segments) =
    option_map_or (λ next. unfit_from m count (suc at) next segments)
    (fitting_step m at (nat_eq (suc at) count) opened segment) (Some at)

-- the number of the first segment that does not fit, 0 for a tape without segments
abbrev pub first_unfit : Module → Tape → Option ℕ
first_unfit m tape =
    cond (nat_eq (length tape.segments) 0) (Some 0) (unfit_from m (length tape.segments) 0 [] tape.segments)

-- a tape fits a module: it has a segment, and each of its segments fits
abbrev pub IsFitting : Module → Tape → Type 0
IsFitting m tape = first_unfit m tape ≡ None

-- what `fits` returns; out of memory has no cause in the tape
abbrev pub IsFit : Option ℕ → Result (Unit {0}) TapeFault → Type 0
IsFit first (Ok it) = first ≡ None
IsFit first (Err (faults.Unfit segment)) = first ≡ Some segment
IsFit first (Err faults.Memory) = Unit {0}
