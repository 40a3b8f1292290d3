-- The lists of widened modules.
use Rattle.std.proofs.Common.{◌≡◌, ℕ, ◌+◌, ◌*◌, ◌≤◌, ◌<◌, List, [], ◌∷◌, ◌++◌, map, length, All, true, sym, ap, subst, arith, length-append}
use Rattle.std.proofs.lemmas.List.{length-map}
use Rattle.std.proofs.lemmas.List.Elements.{All-append, All-map, All-weaker}
use Rattle.wasm_syntax.specs.declared.limits.TheConstants.{MAX_PARAMETERS}
use Rattle.wasm_syntax.specs.declared.signatures.FuncType.{FuncType}
use Rattle.wasm_syntax.specs.declared.modules.Module.{Module}
use Rattle.wasm_syntax.specs.declared.modules.Func.{Func}
use Rattle.wasm_syntax.specs.Index.{func_import, func_indices, of_kind}
use Rattle.wasm_flat.specs.Sizes.{list_limit}
use Rattle.instance_spec.specs.declared.decls.Decl.{Decl}
use Rattle.instance_spec.specs.Instances.{Instance, resolved_instr}
use Rattle.instance_spec.specs.ForeignRuns.{count_from, numbers}
use Rattle.instance_spec.specs.Widened.{foreign_imports, renamed_func, widened}
use Rattle.instance_spec.specs.WidenedLaws.{WidenedHaveListsWithin}
use Rattle.instance_laws.specs.SizeLaws.{WidenedAreShort}
use Rattle.instance_laws.proofs.WidenedAccepted.{quantities}
use Rattle.instance_laws.proofs.WidenedParts.{counted, indices_are}

foreign_count : (at : ℕ) (decls : List Decl) → length (foreign_imports at decls) ≡ length decls
foreign_count at [] = omega arith
foreign_count at (d ∷ decls) = let rest = foreign_count (at + 1) decls in omega (arith, rest)

module _ (m : Module) (decls : List Decl) where
  abbrev wide : Module
  wide = widened m decls

  abbrev i : Instance
  i = numbers m (length decls)

  types_count : length wide.types ≡ length m.types + length decls
  types_count =
      let all = length-append m.types (map (λ (d : Decl). d.ty) decls) in
      let more = length-map decls (λ (d : Decl). d.ty) in omega (arith, all, more)

  imports_count : length wide.imports ≡ length m.imports + length decls
  imports_count =
      let all = length-append m.imports (foreign_imports (length m.types) decls) in
      let more = foreign_count (length m.types) decls in omega (arith, all, more)

  indices_count : length (func_indices wide) ≡ length (func_indices m) + length decls
  indices_count =
      let imports = of_kind func_import m.imports in
      let middle = count_from (length m.types) (length decls) in
      let own = map (λ (f : Func). f.ty) m.funcs in
      let same = ap length (indices_are m decls) in
      let all = length-append imports (middle ++ own) in
      let rest = length-append middle own in
      let counts = counted (length m.types) (length decls) in
      let before = length-append imports own in omega (arith, same, all, rest, counts, before)

  -- a property of the number of parameters, of all types
  params_all : (P : ℕ → Type 0) → All (λ (ty : FuncType). P (length ty.params)) m.types
      → All (λ (d : Decl). P (length d.ty.params)) decls → All (λ (ty : FuncType). P (length ty.params)) wide.types
  params_all P own more =
      All-append (λ (ty : FuncType). P (length ty.params)) m.types (map (λ (d : Decl). d.ty) decls) own
      (All-map (λ (ty : FuncType). P (length ty.params)) (λ (d : Decl). d.ty) decls more)

  -- a property of the number of instructions, of all functions
  bodies_all : (P : ℕ → Type 0) → All (λ (f : Func). P (length f.body)) m.funcs
      → All (λ (f : Func). P (length f.body)) wide.funcs
  bodies_all P own =
      All-map (λ (f : Func). P (length f.body)) (renamed_func i) m.funcs
      (All-weaker (λ (f : Func). P (length f.body)) (λ (f : Func). P (length (map (resolved_instr i) f.body)))
      (λ f h. subst P (sym (length-map f.body (resolved_instr i))) h) m.funcs own)

pub widened_have_lists_within : WidenedHaveListsWithin
widened_have_lists_within m decls most within few =
    let wide = widened m decls in
    let q = length decls in
    let larger = most + 2 * q + MAX_PARAMETERS in
    let parts = within.parts in
    let funcs = within.funcs in
    let types = types_count m decls in
    let imports = imports_count m decls in
    let indices = indices_count m decls in
    let defined = length-map m.funcs (renamed_func (numbers m q)) in
    record {
      parts = omega (arith, parts, types, imports, defined);
      funcs = omega (arith, funcs, indices);
      params =
          params_all m decls (λ k. k ≤ larger)
          (All-weaker (λ (ty : FuncType). length ty.params ≤ most) (λ (ty : FuncType). length ty.params ≤ larger)
          (λ ty h. omega (arith, h)) m.types within.params)
          (All-weaker (λ (d : Decl). length d.ty.params ≤ MAX_PARAMETERS) (λ (d : Decl). length d.ty.params ≤ larger)
          (λ d h. omega (arith, h)) decls few);
      locals =
          All-map (λ (f : Func). length f.locals ≤ larger) (renamed_func (numbers m q)) m.funcs
          (All-weaker (λ (f : Func). length f.locals ≤ most) (λ (f : Func). length f.locals ≤ larger)
          (λ f h. omega (arith, h)) m.funcs within.locals);
      bodies =
          bodies_all m decls (λ k. k ≤ larger)
          (All-weaker (λ (f : Func). length f.body ≤ most) (λ (f : Func). length f.body ≤ larger)
          (λ f h. omega (arith, h)) m.funcs within.bodies);
    }

pub widened_are_short : WidenedAreShort
widened_are_short m decls short few few_types few_funcs =
    let types = types_count m decls in
    let indices = indices_count m decls in
    record {
      types = omega (arith, types, few_types);
      funcs = omega (arith, indices, few_funcs);
      params =
          params_all m decls (λ k. k < list_limit) short.params
          (All-weaker (λ (d : Decl). length d.ty.params ≤ MAX_PARAMETERS) (λ (d : Decl). length d.ty.params < list_limit)
          (λ d h. omega (arith, h)) decls few);
      bodies = bodies_all m decls (λ k. k < list_limit) short.bodies;
      quantities = quantities m decls true few short.quantities;
    }
