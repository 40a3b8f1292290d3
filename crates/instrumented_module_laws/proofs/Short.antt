-- The lists of instrumented modules are short.
use Rattle.std.proofs.Common.{◌≡◌, ℕ, ◌+◌, ◌≤◌, ◌<◌, List, [], ◌∷◌, ◌++◌, length, Option, Some, None, true, All, refl, ap, arith, length-append}
use Rattle.std.specs.List.{AllByRecursion}
use Rattle.std.proofs.lemmas.List.Elements.{recursion_from_All, All-from_recursion, All-append, All-weaker}
use Rattle.base.proofs.Lists.{all_at}
use Rattle.wasm_syntax.specs.declared.limits.TheConstants.{MAX_ORIGINAL_BYTES}
use Rattle.wasm_syntax.specs.declared.signatures.FuncType.{FuncType}
use Rattle.wasm_syntax.specs.declared.instructions.Instr.TheVariants.{End}
use Rattle.wasm_syntax.specs.declared.modules.Func.{Func}
use Rattle.wasm_syntax.specs.declared.modules.Module.{Module}
use Rattle.wasm_syntax.specs.Index.{imported_funcs, type_at}
use Rattle.wasm_syntax.specs.Nest.{Nest, flat, nest_of}
use Rattle.wasm_syntax.proofs.Nests.{body_of_nest}
use Rattle.wasm_syntax.specs.ListsWithin.{HasListsWithin}
use Rattle.wasm_flat.specs.Sizes.{list_limit}
use Rattle.record_replay_spec.specs.Instrumented.{instrumented_func, each_func, hook_types, site_of, instrumented_module}
use Rattle.record_replay_spec.specs.HookLaws.{InstrumentedKeepIndices}
use Rattle.instrumented_module_laws.specs.Laws.{InstrumentedAreAccepted}
use Rattle.instrumented_module_laws.specs.SizeLaws.{InstrumentedAreShort}
use Rattle.instrumented_module_laws.proofs.ShortParts.{more_funcs, none_past}
use Rattle.instrumented_module_laws.proofs.Lengths.{body_length}

-- the types of hooks have few parameters
hook_params_short : All (λ (ty : FuncType). length ty.params < list_limit) hook_types
hook_params_short =
    All-from_recursion (λ (ty : FuncType). length ty.params < list_limit) hook_types
    (omega arith, (omega arith, (omega arith, (omega arith, (omega arith, tt)))))

-- a body that is nested is longer than its nest
nest_within : (func : Func) (nest : Nest) → nest_of func.body ≡ Some nest → length (flat nest) ≤ length func.body
nest_within func nest read =
    let same = ap length (body_of_nest nest func.body read).written in
    let long = length-append (flat nest) (End ∷ []) in omega (arith, same, long)

module _ (m : Module) (most : ℕ) (few : most ≤ MAX_ORIGINAL_BYTES) (within : HasListsWithin most m) where
  func_short : (index : ℕ) (func : Func) (ty : Option FuncType) (nest : Option Nest) → type_at m func.ty ≡ ty
      → nest_of func.body ≡ nest → length func.body ≤ most
      → length (instrumented_func m index func ty nest).body < list_limit
  func_short index func None nest typed read own = omega (arith, own, few)
  func_short index func (Some ty) None typed read own = omega (arith, own, few)
  func_short index func (Some ty) (Some nest) typed read own =
      let params = all_at (λ (found : FuncType). length found.params ≤ most) m.types func.ty ty within.params typed in
      let inner = nest_within func nest read in
      let all = body_length (site_of m index ty func) ty nest in omega (arith, own, few, params, inner, all)

  funcs_short : (index : ℕ) (funcs : List Func) → AllByRecursion (λ (func : Func). length func.body ≤ most) funcs
      → AllByRecursion (λ (func : Func). length func.body < list_limit)
      (each_func m (instrumented_func m) index funcs)
  funcs_short index [] own = tt
  funcs_short index (func ∷ funcs) own = (
    func_short index func (type_at m func.ty) (nest_of func.body) refl refl own.0,
    funcs_short (index + 1) funcs own.1,
  )

  bodies_short : All (λ (func : Func). length func.body < list_limit)
      (each_func m (instrumented_func m) (imported_funcs m) m.funcs)
  bodies_short =
      All-from_recursion (λ (func : Func). length func.body < list_limit)
      (each_func m (instrumented_func m) (imported_funcs m) m.funcs)
      (funcs_short (imported_funcs m) m.funcs
      (recursion_from_All (λ (func : Func). length func.body ≤ most) m.funcs within.bodies))

  params_short : All (λ (ty : FuncType). length ty.params < list_limit) (m.types ++ hook_types)
  params_short =
      All-append (λ (ty : FuncType). length ty.params < list_limit) m.types hook_types
      (All-weaker (λ (ty : FuncType). length ty.params ≤ most) (λ (ty : FuncType). length ty.params < list_limit)
      (λ ty h. omega (arith, h, few)) m.types within.params)
      hook_params_short

  types_short : length (m.types ++ hook_types) < list_limit
  types_short =
      let parts = within.parts in
      let long = length-append m.types hook_types in
      let more : length hook_types ≡ 5 = refl in omega (arith, parts, long, more, few)

pub instrumented_are_short : InstrumentedKeepIndices → InstrumentedAreAccepted → InstrumentedAreShort
instrumented_are_short keep accept m digest most accepted core words within few =
    let hooked = instrumented_module m digest in
    let count = more_funcs keep m digest in
    let own = within.funcs in
    record {
      types = types_short m most few within;
      funcs = omega (arith, count, own, few);
      params = params_short m most few within;
      bodies = bodies_short m most few within;
      quantities = (none_past true hooked (accept m digest accepted core words).none_refused).0;
    }
