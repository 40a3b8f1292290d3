use Rattle.std.proofs.Common.{◌≡◌, Ok, sym, subst}
use Rattle.history_spec.specs.Instantiation.{instantiate}
use Rattle.shadow_memory.proofs.shadow.ShadowMemory.of_opening.Goals as goal

pub returns-clause-opens : goal.returns-clause-opens
returns-clause-opens c store is =
    let opened =
    c.in_ok-bytes.ensures.opens store
    (subst (λ m. instantiate m c.args.supply.now ≡ Ok store) (sym c.module.ensures.same) is) in
    record { bytes = opened.0; known = opened.1; noticed = opened.1 }
