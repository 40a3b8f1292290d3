-- Indices in instrumented modules.
use Rattle.std.proofs.Common.{◌≡◌, ℕ, ◌+◌, ◌<◌, List, length, map, Some, Bool, true, false, cond, nat_lt, ◌∙◌, arith, length-append}
use Rattle.std.proofs.lemmas.List.{append_cancel_right, length-map}
use Rattle.std.proofs.lemmas.Option.{slice_get_within}
use Rattle.base.proofs.Lists.{get_front}
use Rattle.wasm_syntax.specs.declared.signatures.FuncType.{FuncType}
use Rattle.wasm_syntax.specs.declared.modules.Module.{Module}
use Rattle.wasm_syntax.specs.declared.modules.Func.{Func}
use Rattle.wasm_syntax.specs.declared.modules.Global.{Global}
use Rattle.wasm_syntax.specs.Index.{of_kind, func_import, func_indices, imported_funcs, type_at, imported_globals}
use Rattle.record_replay_spec.specs.Hooks.{renumber}
use Rattle.record_replay_spec.specs.Instrumented.{hook_types, instrumented_module}
use Rattle.record_replay_spec.specs.HookLaws.{InstrumentedKeepsIndices, InstrumentedKeepIndices}

module _ (instrumented_keep_indices : InstrumentedKeepIndices) (m : Module) (digest : List ℕ) where
  abbrev hooked : Module
  hooked = instrumented_module m digest

  keeps : InstrumentedKeepsIndices m digest
  keeps = instrumented_keep_indices m digest

  pub more_funcs : length (func_indices hooked) ≡ length (func_indices m) + 15
  more_funcs =
      let a = length-append (of_kind func_import hooked.imports) (map (λ (f : Func). f.ty) hooked.funcs) in
      let b = length-append (of_kind func_import m.imports) (map (λ (f : Func). f.ty) m.funcs) in
      let c = length-map hooked.funcs (λ (f : Func). f.ty) in
      let d = length-map m.funcs (λ (f : Func). f.ty) in
      let e = keeps.imports in
      let f = keeps.defined in omega (arith, a, b, c, d, e, f)

  pub type_kept : (t : ℕ) (ty : FuncType) → type_at m t ≡ Some ty → type_at hooked t ≡ Some ty
  type_kept t ty h = get_front m.types hook_types t (slice_get_within m.types t ty h) ∙ h

  pub globals_kept : imported_globals hooked ≡ imported_globals m
  globals_kept =
      append_cancel_right (imported_globals hooked) (imported_globals m) (map (λ (g : Global). g.ty) m.globals)
      keeps.globals

  pub renumbered_there : (x : ℕ) → x < length (func_indices m)
      → renumber (imported_funcs m) x < length (func_indices hooked)
  renumbered_there x h = go (nat_lt x (imported_funcs m))
    where
      go : (b : Bool) → cond b x (x + 15) < length (func_indices hooked)
      go true = let more = more_funcs in omega (arith, h, more)
      go false = let more = more_funcs in omega (arith, h, more)
