-- When a generated part has indices of 32 bits, and the part in terms of its functions.
use Rattle.std.specs.Prelude.{ℕ, ◌+◌, ◌^◌, ◌<◌, List, ◌++◌, length, replicate}
use Rattle.wasm_syntax.specs.declared.modules.Module.{Module}
use Rattle.wasm_syntax.specs.declared.modules.Func.{Func}
use Rattle.wasm_syntax.specs.Index.{func_indices, all_globals, imported_funcs}
use Rattle.replay_module_spec.specs.declared.plans.Plan.{Plan}
use Rattle.replay_module_spec.specs.declared.fragments.Fragment.{Fragment}
use Rattle.replay_module_spec.specs.Functions.{appended_types, original_type}
use Rattle.replay_module_spec.specs.Fragments.{counter, import_types, referred_once, start_index}
use Rattle.replay_gen.specs.Pieces.{group_total}

-- all types, locals, globals and functions, with the generated ones, have indices of 32 bits
pub record FitsIndices (m : Module) (plan : Plan) : Type 0 where
  pub types : length m.types + 5 < 2 ^ 32
  pub params : (ty : ℕ) → length (original_type m ty).params < 2 ^ 32
  pub globals : length (all_globals m) + imported_funcs m < 2 ^ 32
  pub funcs : length (func_indices m) + 1 + group_total (import_types m) plan.imports < 2 ^ 32

-- the generated part, by the functions in the places of imports and the other functions
abbrev pub fragment_of_funcs : Module → (bodies helpers : List Func) → Fragment
fragment_of_funcs m bodies helpers =
    record {
      bodies = bodies;
      helpers = helpers;
      entry = start_index m;
      types = appended_types;
      globals = replicate (imported_funcs m) counter;
      declared = referred_once (start_index m) (bodies ++ (m.funcs ++ helpers));
    }
