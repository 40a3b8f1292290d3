-- The functions of a module with hooks, numbered with the hooks among them.
use Rattle.std.proofs.Common.{◌≡◌, ℕ, ◌+◌, ◌<◌, ◌^◌, length, map, arith, length-append}
use Rattle.std.proofs.lemmas.List.{length-map}
use Rattle.wasm_syntax.specs.declared.modules.Func.{Func}
use Rattle.wasm_syntax.specs.declared.modules.Module.{Module}
use Rattle.wasm_syntax.specs.Index.{func_import, func_indices, imported_funcs, of_kind}
use Rattle.host_script.specs.declared.scripts.Script.{Script}
use Rattle.record_replay_spec.specs.Hooks.{hook_count}
use Rattle.host_play.specs.HookedResults.{HasHooksAfter}
use Rattle.host_play.proofs.HookShapes.{has_hooks}

pub funcs_fit : (m : Module) (n : ℕ) (script : Script) → HasHooksAfter m n → length (func_indices m) < 2 ^ 32
    → n + length m.funcs + hook_count < 2 ^ 32
funcs_fit m n script has few =
    let all = length-append (of_kind func_import m.imports) (map (λ (f : Func). f.ty) m.funcs) in
    let own = length-map m.funcs (λ (f : Func). f.ty) in
    let imported : imported_funcs m ≡ n + hook_count = (has_hooks m n has script).imported in
    omega (arith, all, own, imported, few)
