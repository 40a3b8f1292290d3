-- Functions that can be instrumented.
use Rattle.std.specs.Prelude.{◌≡◌, ℕ, ◌+◌, ◌^◌, ◌<◌, ◌≤◌, List, sum_by, All}
use Rattle.wasm_syntax.specs.declared.limits.TheConstants.{MAX_LOCALS_HOOKED}
use Rattle.wasm_syntax.specs.declared.modules.Run.{Run}
use Rattle.wasm_syntax.specs.declared.modules.Func.{Func}
use Rattle.wasm_syntax.specs.declared.modules.Module.{Module}
use Rattle.wasm_syntax.specs.Index.{type_at}
use Rattle.wasm_syntax.specs.Nest.{nest_of}
use Rattle.wasm_syntax.specs.Validity.{IsTypedFunc}
use Rattle.wasm_syntax.specs.declared.signatures.FuncType.{FuncType}
use Rattle.record_replay_spec.specs.Instrumented.{instrumented_func, site_of, weights_of_func, with_added_locals}
use Rattle.hook_insert.specs.Rounds.{AreCallsWithin, code_weights, instrumented_code}
use Rattle.wasm_flat.specs.Sizes.{list_limit}

-- locals that leave room for the added ones
pub record AreRoomyRuns (runs : List Run) : Type 0 where
  pub few : sum_by (λ (run : Run). run.count) runs ≤ MAX_LOCALS_HOOKED
  pub each : All (λ (run : Run). run.count + 2 < 2 ^ 32) runs

-- a function that is well typed, has few locals, and calls only functions of low indices
pub record IsInsertable (m : Module) (f : Func) : Type 0 where
  pub typed : IsTypedFunc m f
  pub runs : AreRoomyRuns f.locals
  pub calls : AreCallsWithin list_limit f.body

-- a function of this index and type, instrumented by passes over its flat body
abbrev pub func_of_rounds : Module → (index : ℕ) → FuncType → Func → Func
func_of_rounds m index ty f =
    record f {
      locals = with_added_locals f.locals;
      body = instrumented_code (site_of m index ty f) ty f.body;
    }

-- the weights of a function's instrumented body
abbrev pub weights_of_rounds : Module → (index : ℕ) → FuncType → Func → List ℕ
weights_of_rounds m index ty f = code_weights (site_of m index ty f) ty f.body

-- the function of this index, instrumented, and its weights
pub record IsInstrumented (m : Module) (index : ℕ) (f : Func) (made : Func × List ℕ) : Type 0 where
  pub func : made.0 ≡ instrumented_func m index f (type_at m f.ty) (nest_of f.body)
  pub weights : made.1 ≡ weights_of_func m index f (type_at m f.ty) (nest_of f.body)
