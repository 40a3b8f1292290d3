use Rattle.std.proofs.Common.{◌≡◌, [], map, is_some, unwrap_or, Option, Some, None, option_map, Vec, Bor, Global, refl, ap, subst, ◌∙◌}
use Rattle.std.specs.Prelude.{option_copied}
use Rattle.wasm_syntax.specs.declared.signatures.FuncType.{FuncType}
use Rattle.wasm_syntax.specs.declared.modules.Module.{Module}
use Rattle.wasm_syntax.specs.Index.{func_import}
use Rattle.module_names.specs.Names.{func_types_named, imports_named, imports_with}
use Rattle.module_names.proofs.ImportLoops.{types_are_there, types_or_none}
use Rattle.module_names.proofs.funcs.ImportedFuncs.types.Goals as goal

copied : (found : Option (Bor (Vec (Bor FuncType) Global)))
    → option_map (λ (types : Bor (Vec (Bor FuncType) Global)). map (λ ty. ty.now) types.now.items) found
    ≡ option_map (λ (types : Vec (Bor FuncType) Global). map (λ ty. ty.now) types.items) (option_copied found)
copied None = refl
copied (Some types) = refl

there_if_mapped : {A B : Type 0} (f : A → B) (found : Option A) → is_some found ≡ is_some (option_map f found)
there_if_mapped f None = refl
there_if_mapped f (Some a) = refl

pub returns-clause-types : goal.returns-clause-types
returns-clause-types c =
    let from = c.args.from.now in
    let name = c.args.name.now in
    let m = c.self.inside.source.now in
    subst (λ (n : Module). unwrap_or (option_map (λ types. map (λ ty. ty.now) types.now.items) c.get.result) [] ≡ func_types_named n from name) c.self.view_is
    (ap (λ o. unwrap_or o []) (copied c.get.result
    ∙ ap (option_map (λ (types : Vec (Bor FuncType) Global). map (λ ty. ty.now) types.items)) c.get.ensures.value) ∙ ap
    (λ o. unwrap_or o []) (c.self.invariant.2.holds from name) ∙ types_or_none m from name (imports_with func_import m))

pub returns-clause-there : goal.returns-clause-there
returns-clause-there c =
    let from = c.args.from.now in
    let name = c.args.name.now in
    let m = c.self.inside.source.now in
    subst (λ (n : Module). is_some c.get.result ≡ imports_named func_import n from name) c.self.view_is
    (there_if_mapped (λ types. map (λ ty. ty.now) types.now.items) c.get.result
    ∙ ap is_some (copied c.get.result
    ∙ ap (option_map (λ (types : Vec (Bor FuncType) Global). map (λ ty. ty.now) types.items)) c.get.ensures.value)
    ∙ ap is_some (c.self.invariant.2.holds from name) ∙ types_are_there m from name (imports_with func_import m))
