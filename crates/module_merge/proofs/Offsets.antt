-- The offsets of segments are numbers of 32 bits, if the module that has their values as constants is valid.
use Rattle.std.proofs.Common.{◌≡◌, List, [], ◌∷◌, ◌++◌, Some, None, Bool, true, false, cond, map}
use Rattle.std.specs.Prelude.{All}
use Rattle.std.proofs.lemmas.List.Elements.{All-cons, All-head, All-nil, All-tail}
use Rattle.wasm_syntax.specs.declared.values.Val.{Val}
use Rattle.wasm_syntax.specs.declared.values.ValType.TheVariants.{I32}
use Rattle.wasm_syntax.specs.declared.modules.Module.{Module}
use Rattle.wasm_syntax.specs.declared.modules.ElemSeg.{ElemSeg}
use Rattle.wasm_syntax.specs.declared.modules.ElemSeg.TheVariants.{Active, Declared}
use Rattle.wasm_syntax.specs.declared.modules.DataSeg.{DataSeg}
use Rattle.wasm_syntax.specs.Typing.{is_constant}
use Rattle.wasm_syntax.specs.Validity.{IsConstant, IsData, IsElem}
use Rattle.replay_module_spec.specs.Merge.{constant_body, constant_data, constant_elem}
use Rattle.module_merge.specs.Offsets.{HasElemOffset, HaveDataOffsets, HaveElemOffsets, IsOffset}

module _ (r : Module) where
  number : (value : Val) → IsConstant r I32 (constant_body value) → value.ty ≡ I32
  number value h = by (is_constant value) h
    where
      by : (b : Bool) → cond b (Some value.ty) None ≡ Some I32 → value.ty ≡ I32
      by true e = cc
      by false e = cc

  module _ (imported : List Val) where
    elem_offset : (segment : ElemSeg) → IsElem r (constant_elem imported segment) → HasElemOffset imported segment
    elem_offset (Active table offset funcs) is = number _ is.1
    elem_offset (Declared funcs) is = tt

    pub elem_offsets : (elems more : List ElemSeg) → All (IsElem r) (map (constant_elem imported) elems ++ more)
        → HaveElemOffsets imported elems
    elem_offsets [] more all = All-nil (HasElemOffset imported)
    elem_offsets (segment ∷ elems) more all =
        let made = constant_elem imported segment in
        let rest = map (constant_elem imported) elems ++ more in
        All-cons (HasElemOffset imported) segment elems (elem_offset segment (All-head (IsElem r) made rest all))
        (elem_offsets elems more (All-tail (IsElem r) made rest all))

    pub data_offsets : (datas : List DataSeg) → All (IsData r) (map (constant_data imported) datas)
        → HaveDataOffsets imported datas
    data_offsets [] all = All-nil (λ (segment : DataSeg). IsOffset imported segment.offset)
    data_offsets (segment ∷ datas) all =
        let made = constant_data imported segment in
        let rest = map (constant_data imported) datas in
        All-cons (λ (d : DataSeg). IsOffset imported d.offset) segment datas
        (number _ (All-head (IsData r) made rest all).offset)
        (data_offsets datas (All-tail (IsData r) made rest all))
