use Rattle.std.proofs.Common.{◌≡◌, sym, subst}
use Rattle.wasm_syntax.specs.declared.modules.Module.{Module}
use Rattle.wasm_syntax.specs.Validity.{IsValid}
use Rattle.host_script.specs.declared.scripts.Supply.{Supply}
use Rattle.type_safety.specs.Supplies.{IsSupply}
use Rattle.replay_module_spec.specs.declared.fragments.Fragment.{Fragment}
use Rattle.replay_module_spec.specs.Fits.{FitsModule}
use Rattle.replay_module_spec.specs.Merge.{replay_module}
use Rattle.replay_module_laws.specs.Laws.{ReplayModulesOfFragmentsAreValid, StatesMaximum}
use Rattle.module_merge.proofs.modules.merge.Goals as goal

merged_is_valid : (law : ReplayModulesOfFragmentsAreValid) (m n : Module) (supply : Supply) (fragment : Fragment)
    → n ≡ m → IsValid n → IsSupply m supply → StatesMaximum supply.table → FitsModule m fragment
    → IsValid (replay_module n supply fragment)
merged_is_valid law m n supply fragment same valid supplied stated fits =
    subst (λ n. IsValid (replay_module n supply fragment)) (sym same)
    (law m supply fragment (subst IsValid same valid) supplied stated fits)

pub merged_module-requires-clause-valid : goal.merged_module-requires-clause-valid
merged_module-requires-clause-valid c =
    merged_is_valid c.replay_modules_of_fragments_are_valid.ensures.valid c.args.«module» c.into_module.result
    c.args.supply.now c.args.fragment c.into_module.ensures.same c.into_module.ensures.valid c.requires.supplied
    c.know_maximum.ensures c.requires.fits

pub new-requires : goal.new-requires
new-requires c =
    subst IsValid (sym c.in_ok-merged.ensures)
    (merged_is_valid c.replay_modules_of_fragments_are_valid.ensures.valid c.args.«module» c.into_module.result
    c.args.supply.now c.args.fragment c.into_module.ensures.same c.into_module.ensures.valid c.requires.supplied
    c.know_maximum.ensures c.requires.fits)
