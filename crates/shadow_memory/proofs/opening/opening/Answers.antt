use Rattle.std.proofs.Common.{ap, ◌∙◌}
use Rattle.wasm_store.specs.Parts.{minimum_of}
use Rattle.shadow_memory.proofs.Datas.{opening_pages}
use Rattle.shadow_memory.proofs.opening.opening.Goals as goal

pub returns-clause-opens : goal.returns-clause-opens
returns-clause-opens c store is =
    let m = c.args.module.now in
    let supply = c.args.supply.now in (
      c.in_ok-bytes.ensures.opens store is,
      c.page_count-pages.ensures
          ∙ (ap minimum_of c.memory_limits.ensures
          ∙ opening_pages m supply store (c.instantiated_parts.ensures m supply store is)),
    )
