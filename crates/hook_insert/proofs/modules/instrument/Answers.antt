use Rattle.std.proofs.Common.{◌≡◌, ap, sym, ◌∙◌, subst}
use Rattle.wasm_syntax.specs.declared.modules.Module.{Module}
use Rattle.wasm_syntax.specs.Encoding.Forms.{IsCoreModule}
use Rattle.wasm_syntax.specs.Validity.{IsValid}
use Rattle.record_replay_spec.specs.Instrumented.{instrumented_module}
use Rattle.instrumented_module_laws.specs.Laws.{HasWords}
use Rattle.hook_insert.proofs.modules.instrument.Goals as goal

pub new-requires : goal.new-requires
new-requires c =
    let same : c.«module-original».result.now ≡ c.args.checked.now = c.«module-original».ensures.same in
    subst IsValid (sym c.in_ok-module.ensures.«module»)
    (c.instrumented_are_valid.ensures c.«module-original».result.now c.args.digest.now c.«module-original».ensures.valid
    (subst IsCoreModule (sym same) c.requires.core) (subst HasWords (sym same) c.requires.words))

pub returns-clause-module : goal.returns-clause-module
returns-clause-module c =
    c.new.ensures ∙ c.in_ok-module.ensures.«module»
    ∙ ap (λ (m : Module). instrumented_module m c.args.digest.now) c.«module-original».ensures.same
