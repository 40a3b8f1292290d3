use Rattle.std.proofs.Common.{◌≡◌, ◌∙◌, ◌^◌, ◌<◌, ap, sym, subst, arith}
use Rattle.std.proofs.lemmas.List.Elements.{All-from_get_or}
use Rattle.wasm_syntax.specs.declared.modules.Module.{Module}
use Rattle.wasm_syntax.specs.Validity.{IsValid}
use Rattle.replay_form.specs.Sides.{as_layout}
use Rattle.guarded_module_spec.specs.GuardedModules.{guarded_module}
use Rattle.guard_maker.proofs.Assembly.{guard_is_valid}
use Rattle.guard_maker.proofs.modules.guard_of.Goals as goal

pub new-requires : goal.new-requires
new-requires c =
    let small =
    All-from_get_or (λ word. word < 2 ^ 64) c.args.words.now 0 (λ i within. omega (arith, c.type_inv.words i)) in
    subst IsValid (sym c.in_ok-guarded.ensures)
    (guard_is_valid c.guarded_modules_are_valid.ensures.valid c.args.replay c.into_module.result
    (as_layout c.args.layout) c.args.entry c.args.words.now c.into_module.ensures.same c.into_module.ensures.valid
    c.requires.guardable (record { few = c.requires.fits.few_words; small = small }))

pub returns : goal.returns
returns c =
    c.new.ensures ∙ c.in_ok-guarded.ensures
    ∙ ap (λ (m : Module). guarded_module m (as_layout c.args.layout) c.args.entry c.args.words.now) c.into_module.ensures.same
