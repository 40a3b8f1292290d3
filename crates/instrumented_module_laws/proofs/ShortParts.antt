-- Parts of modules: the number of functions of an instrumented one, and the refusals that an accepted one lacks.
use Rattle.std.proofs.Common.{◌≡◌, ℕ, ◌+◌, List, [], ◌++◌, length, Bool, arith}
use Rattle.base.proofs.Lists.{nil_parts}
use Rattle.wasm_syntax.specs.declared.modules.Module.{Module}
use Rattle.wasm_syntax.specs.Index.{func_indices}
use Rattle.wasm_syntax.specs.Profile.{quantities_past, refusals, refused_instructions, reserved_imports}
use Rattle.wasm_syntax.proofs.FuncTypes.{func_count_is}
use Rattle.record_replay_spec.specs.Instrumented.{instrumented_module}
use Rattle.record_replay_spec.specs.HookLaws.{InstrumentedKeepIndices}

-- an instrumented module has the original's functions and the hooks
pub more_funcs : InstrumentedKeepIndices → (m : Module) (digest : List ℕ)
    → length (func_indices (instrumented_module m digest)) ≡ length (func_indices m) + 15
more_funcs keep m digest =
    let own = func_count_is m in
    let all = func_count_is (instrumented_module m digest) in
    let imported = (keep m digest).imports in
    let defined = (keep m digest).defined in omega (arith, own, all, imported, defined)

-- if nothing is refused, no quantity is past its limit, and no import is reserved
pub none_past : (hooked : Bool) (m : Module) → refusals hooked m ≡ []
    → (quantities_past hooked m ≡ []) × (reserved_imports hooked m ≡ [])
none_past hooked m none =
    let all : (refused_instructions m ++ quantities_past hooked m) ++ reserved_imports hooked m ≡ [] = none in
    let parts = nil_parts (refused_instructions m ++ quantities_past hooked m) (reserved_imports hooked m) all in
    ((nil_parts (refused_instructions m) (quantities_past hooked m) parts.0).1, parts.1)
