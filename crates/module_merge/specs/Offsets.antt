-- Offsets of segments that are numbers of 32 bits, as in a valid module (Core 1.0, 3.4.5 and 3.4.6).
use Rattle.std.specs.Prelude.{◌≡◌, List, All}
use Rattle.wasm_syntax.specs.declared.values.Val.{Val}
use Rattle.wasm_syntax.specs.declared.values.ValType.TheVariants.{I32}
use Rattle.wasm_syntax.specs.declared.instructions.Instr.{Instr}
use Rattle.wasm_syntax.specs.declared.modules.ElemSeg.{ElemSeg}
use Rattle.wasm_syntax.specs.declared.modules.ElemSeg.TheVariants.{Active, Declared}
use Rattle.wasm_syntax.specs.declared.modules.DataSeg.{DataSeg}
use Rattle.history_spec.specs.Code.{zero_of}
use Rattle.module_merge.specs.declared.modules.Segments.{Segments}
use Rattle.history_spec.specs.Instantiation.{constant}

-- the value of an offset
abbrev pub offset_constant : List Val → List Instr → Val
offset_constant imported offset = constant imported (zero_of I32) offset

-- the value of an offset is a number of 32 bits
abbrev pub IsOffset : List Val → List Instr → Type 0
IsOffset imported offset = (offset_constant imported offset).ty ≡ I32

-- an element segment has an offset of 32 bits, unless it is only declared
abbrev pub HasElemOffset : List Val → ElemSeg → Type 0
HasElemOffset imported (Active table offset funcs) = IsOffset imported offset
HasElemOffset imported (Declared funcs) = Unit {0}

-- each element segment has an offset of 32 bits, unless it is only declared; each data segment has one
abbrev pub HaveElemOffsets : List Val → List ElemSeg → Type 0
HaveElemOffsets imported elems = All (HasElemOffset imported) elems

abbrev pub HaveDataOffsets : List Val → List DataSeg → Type 0
HaveDataOffsets imported datas = All (λ (segment : DataSeg). IsOffset imported segment.offset) datas

-- the segments of both kinds have offsets of 32 bits
abbrev pub HaveOffsets : List Val → Segments → Type 0
HaveOffsets imported segments = HaveElemOffsets imported segments.elems × HaveDataOffsets imported segments.datas
