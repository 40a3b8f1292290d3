-- The functions of both modules have their types in the run of a pair, under their numbers.
use Rattle.std.proofs.Common.{ℕ, List, slice_get, option_and_then, sym, ap, ◌∙◌, arith}
use Rattle.pair_spec.specs.Numbers.{side_instance}
use Rattle.pair_spec.specs.PairRuns.{pair_code}
use Rattle.pair_laws.specs.Laws.{FunctionsKeepTheirTypes}
use Rattle.pair_laws.proofs.LinkedCode.{indices_are}
use Rattle.pair_laws.proofs.LinkedSpaces.{func_linked}

pub functions_keep_their_types : FunctionsKeepTheirTypes
functions_keep_their_types pair side func ty none few h =
    let number = (side_instance pair side).funcs func in
    ap (λ (indices : List ℕ). option_and_then (λ t. slice_get (pair_code pair).types t) (slice_get indices number))
    (sym (indices_are pair))
    ∙ func_linked pair none (omega (arith, few)) side func ty h
