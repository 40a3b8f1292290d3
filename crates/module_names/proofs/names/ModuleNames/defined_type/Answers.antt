use Rattle.std.proofs.Common.{◌≡◌, ◌≤◌, map, option_map, option_and_then, sym, ap, refl, subst, ◌∙◌}
use Rattle.base.proofs.Lists.{get_after}
use Rattle.wasm_syntax.specs.declared.modules.Module.{Module}
use Rattle.wasm_syntax.specs.Index.{of_kind, func_import, func_type, imported_funcs, type_at}
use Rattle.module_names.proofs.names.ModuleNames.defined_type.Goals as goal

pub returns : goal.returns
returns c =
    let m = c.self.inside.source.now in
    let le : imported_funcs m ≤ c.args.func = subst (λ (n : Module). imported_funcs n ≤ c.args.func) (sym c.self.view_is) c.requires in
    subst (λ (n : Module). option_map (λ ty. ty.now) c.type_of_defined.result ≡ func_type n c.args.func) c.self.view_is
    (c.type_of_defined.ensures ∙ rw (c.count.ensures, c.self.invariant.1) refl ∙ ap (option_and_then (type_at m))
    (sym (get_after (of_kind func_import m.imports) (map (λ func. func.ty) m.funcs) c.args.func le)))
