use Rattle.std.proofs.Common.{◌≡◌, ℕ, ◌<◌, get_or, not, false}
use Rattle.wasm_syntax.specs.declared.modules.Func.{Func}
use Rattle.wasm_syntax.specs.ValidityTests.{is_typed_func}
use Rattle.wasm_validate.proofs.funcs.first_untyped.Given as goal

abbrev pub invariant-funcs : goal.invariant-funcs
invariant-funcs l = (k : ℕ) (d : Func) → k < l.place → not (is_typed_func l.scope (get_or l.func-items k d)) ≡ false
