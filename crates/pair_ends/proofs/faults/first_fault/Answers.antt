use Rattle.std.proofs.Common.{◌≡◌, sym, ap₂, ◌∙◌, subst}
use Rattle.wasm_syntax.specs.declared.modules.Module.{Module}
use Rattle.pair_spec.specs.Pairs.{ModulePair}
use Rattle.pair_ends.specs.Ends.{AreAllEnds}
use Rattle.pair_ends.proofs.FirstFaults.{fault_of_import, no_fault_of_imports}
use Rattle.pair_ends.proofs.faults.first_fault.Goals as goal

pub fault_of_imports-requires-clause-ends : goal.fault_of_imports-requires-clause-ends
fault_of_imports-requires-clause-ends c =
    let both : Module → Module → ModulePair = λ l r. record { left = l; right = r } in
    let same : c.in_ok-types.types ≡ c.args.pair.now = c.in_ok-types.ensures ∙ ap₂ both c.«module».ensures c.module-2.ensures in
    subst (λ p. AreAllEnds p c.args.ends.now) (sym same) c.requires.ends

pub returns-in-Some : goal.returns-in-Some
returns-in-Some c =
    let both : Module → Module → ModulePair = λ l r. record { left = l; right = r } in
    let same : c.in_ok-types.types ≡ c.args.pair.now = c.in_ok-types.ensures ∙ ap₂ both c.«module».ensures c.module-2.ensures in
    fault_of_import c.args.pair.now c.in_ok-types.types same c.fault_of_imports.result c.fault_of_imports.ensures c.in-Some.fault c.in-Some.is

pub returns : goal.returns
returns c =
    let both : Module → Module → ModulePair = λ l r. record { left = l; right = r } in
    let same : c.in_ok-types.types ≡ c.args.pair.now = c.in_ok-types.ensures ∙ ap₂ both c.«module».ensures c.module-2.ensures in
    no_fault_of_imports c.args.pair.now c.in_ok-types.types same c.fault_of_imports.result
    c.fault_of_imports.ensures c.in-None.is c.joint_fault.result c.joint_fault.ensures
