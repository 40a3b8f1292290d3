use Rattle.std.proofs.Common.{◌≡◌, sym, subst, ◌∙◌}
use Rattle.std.proofs.lemmas.Result.{IfOk-weaker}
use Rattle.replay_module_spec.specs.Merge.{declaration, replay_module}
use Rattle.module_merge.specs.Offsets.{HaveDataOffsets, HaveElemOffsets, HaveOffsets}
use Rattle.module_merge.specs.Parts.{module_of_parts}
use Rattle.module_merge.proofs.Merged.{merged, same_length}
use Rattle.module_merge.proofs.Offsets.{data_offsets, elem_offsets}
use Rattle.module_merge.proofs.modules.merged_module.Goals as goal

pub outline_of-requires-clause-supplied : goal.outline_of-requires-clause-supplied
outline_of-requires-clause-supplied c = same_length c.args.«module» c.args.supply.now c.requires.supplied

pub with_fragment-requires : goal.with_fragment-requires
with_fragment-requires c =
    let m = c.args.«module» in
    let imported = c.args.supply.now.globals in
    let made = replay_module m c.args.supply.now c.args.fragment in
    let elems : HaveElemOffsets imported c.kept_parts-code.result.1.elems =
    subst (HaveElemOffsets imported) (sym c.kept_parts-code.ensures.elems)
    (elem_offsets made imported m.elems (declaration c.args.fragment.declared) c.requires.valid.outside.elems) in
    let datas : HaveDataOffsets imported c.kept_parts-code.result.1.datas =
    subst (HaveDataOffsets imported) (sym c.kept_parts-code.ensures.datas)
    (data_offsets made imported m.datas c.requires.valid.outside.datas) in
    record { offsets = subst (λ imported. HaveOffsets imported c.kept_parts-code.result.1) (sym c.as_slice.ensures) (elems, datas) }

pub returns : goal.returns
returns c =
    let outline = c.in_ok-outline.outline in
    let code = c.kept_parts-code.result.0 in
    let segments = c.kept_parts-code.result.1 in
    let imported = c.as_slice.result.now in
    let m = c.args.«module» in
    let supply = c.args.supply.now in
    IfOk-weaker c.with_fragment.result
    (λ made. made ≡ module_of_parts outline code segments imported c.args.fragment)
    (λ made. made ≡ replay_module m supply c.args.fragment)
    (λ made is. is
    ∙ merged m supply c.args.fragment outline code segments imported
    c.in_ok-outline.ensures.tables c.in_ok-outline.ensures.memories c.in_ok-outline.ensures.globals
    c.in_ok-outline.ensures.customs c.kept_parts-code.ensures.types c.kept_parts-code.ensures.funcs
    c.kept_parts-code.ensures.elems c.kept_parts-code.ensures.datas c.as_slice.ensures)
    c.with_fragment.ensures
