-- The generated part of a replay module.
use Rattle.std.specs.Prelude.{ℕ, ◌+◌, List, [], ◌∷◌, ◌++◌, length, flat_map, filter, filter_map, replicate, nat_eq, true, Option, Some, None}
use Rattle.std.specs.List.{list_any, range_with_len}
use Rattle.wasm_syntax.specs.declared.values.ValType.TheVariants.{I32}
use Rattle.wasm_syntax.specs.declared.instructions.Instr.{Instr}
use Rattle.wasm_syntax.specs.declared.instructions.Instr.TheVariants.{End, RefFunc}
use Rattle.wasm_syntax.specs.declared.modules.Module.{Module}
use Rattle.wasm_syntax.specs.declared.modules.Func.{Func}
use Rattle.wasm_syntax.specs.declared.modules.Global.{Global}
use Rattle.wasm_syntax.specs.Index.{of_kind, func_import, func_indices, imported_funcs, all_globals}
use Rattle.replay_module_spec.specs.declared.plans.Plan.{Plan}
use Rattle.replay_module_spec.specs.declared.fragments.Fragment.{Fragment}
use Rattle.replay_module_spec.specs.Effects.{i32_const}
use Rattle.replay_module_spec.specs.Functions.{appended_types, import_funcs, group_funcs, start_func}

-- ---- references

-- the function that an instruction refers to, if it is `ref.func`
abbrev pub referred_func : Instr → Option ℕ
referred_func (RefFunc func) = Some func
referred_func i = None

-- the functions that the bodies of functions refer to
abbrev pub referred_funcs : List Func → List ℕ
referred_funcs funcs = flat_map (λ (func : Func). filter_map referred_func func.body) funcs

-- the functions below a number that the bodies of functions refer to, each once, by ascending index
abbrev pub referred_once : (below : ℕ) → List Func → List ℕ
referred_once below funcs =
    filter (λ func. list_any (nat_eq func) (referred_funcs funcs)) (range_with_len 0 below)

-- ---- the fragment

-- the type indices of the imported functions
abbrev pub import_types : Module → List ℕ
import_types m = of_kind func_import m.imports

-- a counter, which begins at 0
abbrev pub counter : Global
counter = record { ty = record { ty = I32; mutable = true }; init = i32_const 0 ∷ End ∷ [] }

-- the index of the function for the host's own work: it comes after the original's functions
abbrev pub start_index : Module → ℕ
start_index m = length (func_indices m)

abbrev pub import_bodies : Module → Plan → List Func
import_bodies m plan =
    import_funcs m (length (all_globals m)) (start_index m + 1) (import_types m) plan.imports

abbrev pub helper_funcs : Module → Plan → List Func
helper_funcs m plan = start_func m plan.begin ∷ group_funcs m (import_types m) plan.imports

-- the generated part of a plan for a module; a counter for each import comes after the original's globals
abbrev pub fragment_of : Module → Plan → Fragment
fragment_of m plan =
    record {
      bodies = import_bodies m plan;
      helpers = helper_funcs m plan;
      entry = start_index m;
      types = appended_types;
      globals = replicate (imported_funcs m) counter;
      declared = referred_once (start_index m) (import_bodies m plan ++ (m.funcs ++ helper_funcs m plan));
    }
