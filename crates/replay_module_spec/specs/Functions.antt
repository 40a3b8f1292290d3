-- The generated functions: one in the place of each import, which counts its calls in a global of its own; one
-- for each group of an import's calls, which takes the number of a call; and one for the host's own work.
use Rattle.std.specs.Prelude.{ℕ, ◌+◌, ◌-◌, ◌*◌, ◌/◌, List, [], ◌∷◌, ◌++◌, length, map, take, drop}
use Rattle.std.specs.List.{range_with_len, slice_index_or}
use Rattle.base.specs.declared.opcodes.TheConstants.{I32_ADD, I32_DIV_U, I32_REM_U}
use Rattle.wasm_syntax.specs.declared.values.ValType.{ValType}
use Rattle.wasm_syntax.specs.declared.values.ValType.TheVariants.{I32, I64, F32, F64}
use Rattle.wasm_syntax.specs.declared.signatures.FuncType.{FuncType}
use Rattle.wasm_syntax.specs.declared.instructions.Instr.{Instr}
use Rattle.wasm_syntax.specs.declared.instructions.Instr.TheVariants.{Return, Call, LocalGet, LocalTee, GlobalGet, GlobalSet, Numeric}
use Rattle.wasm_syntax.specs.declared.modules.Module.{Module}
use Rattle.wasm_syntax.specs.declared.modules.Func.{Func}
use Rattle.wasm_syntax.specs.declared.modules.Run.{Run}
use Rattle.wasm_syntax.specs.Nest.{Nest, Empty}
use Rattle.trace_model.specs.declared.tapes.Segment.{Segment}
use Rattle.replay_module_spec.specs.declared.groups.TheConstants.{GROUP_CALLS}
use Rattle.replay_module_spec.specs.Effects.{i32_const}
use Rattle.replay_module_spec.specs.Segments.{segments_code}
use Rattle.replay_module_spec.specs.Dispatch.{sequence, dispatch, body_of}

-- ---- types

-- the type of the function for the host's own work
abbrev pub start_type : FuncType
start_type = record { params = []; results = [] }

-- the type of a function that takes the number of a call
abbrev pub group_type : List ValType → FuncType
group_type results = record { params = I32 ∷ []; results = results }

-- the types that are appended to the original's
abbrev pub appended_types : List FuncType
appended_types =
    start_type ∷ group_type [] ∷ group_type (I32 ∷ []) ∷ group_type (I64 ∷ []) ∷ group_type (F32 ∷ [])
    ∷ group_type (F64 ∷ []) ∷ []

-- the index among the appended types of the type with these results
abbrev pub group_type_place : List ValType → ℕ
group_type_place (I32 ∷ more) = 2
group_type_place (I64 ∷ more) = 3
group_type_place (F32 ∷ more) = 4
group_type_place (F64 ∷ more) = 5
group_type_place results = 1

-- the type at a type index of the original
abbrev pub original_type : Module → ℕ → FuncType
original_type m ty = slice_index_or m.types ty start_type

-- ---- groups of calls

-- the number of groups that a number of calls makes
abbrev pub group_count : ℕ → ℕ
group_count count = (count + (GROUP_CALLS - 1)) / GROUP_CALLS

-- the calls in groups, by their numbers
abbrev pub groups : List (List Segment) → List (List (List Segment))
groups calls =
    map (λ number. take GROUP_CALLS (drop (GROUP_CALLS * number) calls))
    (range_with_len 0 (group_count (length calls)))

-- an arm for each call of a group, selected by the number of the call within its group
abbrev pub group_nest : Module → List (List Segment) → Nest
group_nest m calls =
    dispatch (LocalGet 0 ∷ i32_const GROUP_CALLS ∷ Numeric I32_REM_U ∷ []) (map (segments_code m) calls)

-- the function for a group of calls of an import with this type index
abbrev pub group_func : Module → (ty : ℕ) → List (List Segment) → Func
group_func m ty calls =
    record {
      ty = length m.types + group_type_place (original_type m ty).results;
      locals = [];
      body = body_of (group_nest m calls);
    }

-- ---- the function in an import's place

-- the number of this call is kept in the local, and the counter is incremented, before anything else is done
abbrev pub count_code : (counter local : ℕ) → List Instr
count_code counter local =
    GlobalGet counter ∷ LocalTee local ∷ i32_const 1 ∷ Numeric I32_ADD ∷ GlobalSet counter ∷ []

-- a group's function is called with the number of the call, and its result is returned
abbrev pub group_call : (local func : ℕ) → List Instr
group_call local func = LocalGet local ∷ Call func ∷ Return ∷ []

-- calls the function of the group that has the call; the functions of the import's groups have the indices from
-- `first` on
abbrev pub import_nest : (counter local first count : ℕ) → Nest
import_nest counter local first count =
    sequence (count_code counter local)
    (dispatch (LocalGet local ∷ i32_const GROUP_CALLS ∷ Numeric I32_DIV_U ∷ [])
    (map (group_call local) (range_with_len first count)))

abbrev pub one_i32 : Run
one_i32 = record { count = 1; ty = I32 }

-- the function in the place of an import with this type index; its local comes after its parameters
abbrev pub import_func : Module → (ty counter first count : ℕ) → Func
import_func m ty counter first count =
    record {
      ty = ty;
      locals = one_i32 ∷ [];
      body = body_of (import_nest counter (length (original_type m ty).params) first count);
    }

-- ---- all functions

-- the functions in the places of imports with these type indices, by their calls
abbrev pub import_funcs : Module → (counter first : ℕ) → (types : List ℕ) → List (List (List Segment)) → List Func
import_funcs m counter first (ty ∷ types) (calls ∷ more) =
    import_func m ty counter first (group_count (length calls))
    ∷ import_funcs m (counter + 1) (first + group_count (length calls)) types more
import_funcs m counter first types calls = []

-- the functions of all groups
abbrev pub group_funcs : Module → (types : List ℕ) → List (List (List Segment)) → List Func
group_funcs m (ty ∷ types) (calls ∷ more) = map (group_func m ty) (groups calls) ++ group_funcs m types more
group_funcs m types calls = []

-- the function for the host's own work
abbrev pub start_func : Module → List Segment → Func
start_func m segments =
    record { ty = length m.types; locals = []; body = body_of (sequence (segments_code m segments) Empty) }
