use Rattle.std.proofs.Common.{◌≡◌, ◌*◌, ◌-◌, ◌^◌, ◌<◌, ap, sym, ◌∙◌, slice_index, subst, arith}
use Rattle.wasm_syntax.specs.declared.limits.TheConstants.{PAGE_SIZE}
use Rattle.history_spec.specs.Instantiation.{memory_limits}
use Rattle.wasm_store.specs.Parts.{minimum_of}
use Rattle.shadow_memory.specs.Opening.{EndWithin, HoldDatas}
use Rattle.shadow_memory.proofs.Datas.{links_within, new_bytes, new_same, new_within, opening_is}
use Rattle.shadow_memory.proofs.opening.opening_bytes.Goals as goal

pub take_datas-requires : goal.take_datas-requires
take_datas-requires c =
    let m = c.args.module.now in
    let supply = c.args.supply.now in
    let length_is : c.byte_count-length.result ≡ minimum_of (memory_limits m supply) * PAGE_SIZE =
    c.byte_count-length.ensures ∙ ap (λ limits. minimum_of limits * PAGE_SIZE) c.memory_limits.ensures in
    let small : c.byte_count-length.result < 2 ^ 64 = c.byte_count-length.type_inv in
    let within =
    links_within m supply (2 ^ 64 - 1) c.instantiated_parts.ensures c.requires (omega (arith, length_is, small)) in
    subst (λ imported. EndWithin imported (2 ^ 64 - 1) c.as_slice-2.result.now) (sym c.as_slice.ensures)
    (subst (λ datas. EndWithin supply.globals (2 ^ 64 - 1) datas) (sym c.as_slice-2.ensures) within)

pub returns-clause-opens : goal.returns-clause-opens
returns-clause-opens c store is =
    let m = c.args.module.now in
    let supply = c.args.supply.now in
    let parts = c.instantiated_parts.ensures m supply store is in
    let before = c.new-kept.result.bytes in
    let after = c.take_datas.new.kept.bytes in
    let held : HoldDatas supply.globals m.datas before after =
    subst (λ imported. HoldDatas imported m.datas before after) c.as_slice.ensures
    (subst (λ datas. HoldDatas c.as_slice.result.now datas before after) c.as_slice-2.ensures
    c.in_ok-take_datas.ensures.taken) in
    opening_is m supply store parts after
    (held (new_bytes supply.globals (memory_limits m supply))
    (new_same supply.globals (memory_limits m supply) before c.new-kept.ensures.known) (new_within m supply store parts))

pub returns-clause-frozen : goal.returns-clause-frozen
returns-clause-frozen c at =
    subst (λ frozen. slice_index frozen at ≡ 0) (sym c.take_datas.ensures.frozen) (c.new-kept.ensures.frozen at)
