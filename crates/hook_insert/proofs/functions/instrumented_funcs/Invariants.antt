use Rattle.std.proofs.Common.{◌≡◌, ◌+◌, ◌++◌, drop}
use Rattle.wasm_syntax.specs.Index.{imported_funcs}
use Rattle.record_replay_spec.specs.Instrumented.{each_func, instrumented_func, instrumented_weights, weights_of_func}
use Rattle.hook_insert.proofs.functions.instrumented_funcs.Given as goal

-- the functions made and those still to make are all
abbrev pub invariant-funcs : goal.invariant-funcs
invariant-funcs l = record {
  funcs : l.funcs.items ++ each_func l.scope (instrumented_func l.scope) (l.imports + l.place) (drop l.place l.scope.funcs)
      ≡ each_func l.scope (instrumented_func l.scope) (imported_funcs l.scope) l.scope.funcs;
  weights : l.weights.items ++ each_func l.scope (weights_of_func l.scope) (l.imports + l.place) (drop l.place l.scope.funcs)
      ≡ instrumented_weights l.scope;
}
