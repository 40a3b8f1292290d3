use Rattle.std.proofs.Common.{◌≡◌, drop}
use Rattle.std.specs.Prelude.{filter_map}
use Rattle.wasm_syntax.specs.Profile.{count_of_locals, past}
use Rattle.wasm_syntax.specs.declared.profile.Which.TheVariants.{Locals}
use Rattle.wasm_profile.proofs.quantities.refuse_locals.Given as goal

abbrev pub invariant-funcs : goal.invariant-funcs
invariant-funcs l =
    filter_map (λ func. past l.most Locals (count_of_locals func)) l.funcs
    ≡ filter_map (λ func. past l.most Locals (count_of_locals func)) (drop l.func-index l.funcs)
