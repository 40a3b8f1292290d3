use Rattle.std.proofs.Common.{◌≡◌, length, drop}
use Rattle.std.specs.Prelude.{filter_map}
use Rattle.wasm_syntax.specs.Profile.{past}
use Rattle.wasm_syntax.specs.declared.limits.TheConstants.{MAX_PARAMETERS}
use Rattle.wasm_syntax.specs.declared.profile.Which.TheVariants.{Parameters}
use Rattle.wasm_profile.proofs.quantities.refuse_parameters.Given as goal

abbrev pub invariant-types : goal.invariant-types
invariant-types l =
    filter_map (λ ty. past MAX_PARAMETERS Parameters (length ty.params)) l.types
    ≡ filter_map (λ ty. past MAX_PARAMETERS Parameters (length ty.params)) (drop l.ty-index l.types)
