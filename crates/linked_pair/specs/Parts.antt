-- The items of a linked module by lists of numbers and constants, and the module of all parts.
use Rattle.std.specs.Prelude.{List, [], ◌++◌, map, option_map}
use Rattle.std.specs.Option.{option_or}
use Rattle.wasm_syntax.specs.declared.modules.Module.{Module}
use Rattle.wasm_syntax.specs.declared.modules.Global.{Global}
use Rattle.wasm_syntax.specs.declared.modules.Import.{Import}
use Rattle.wasm_syntax.specs.declared.modules.Export.{Export}
use Rattle.wasm_syntax.specs.declared.modules.ElemSeg.{ElemSeg}
use Rattle.wasm_syntax.specs.declared.modules.ElemSeg.TheVariants.{Active, Declared}
use Rattle.wasm_syntax.specs.declared.modules.DataSeg.{DataSeg}
use Rattle.wasm_syntax.specs.declared.modules.Custom.{Custom}
use Rattle.instance_spec.specs.declared.sides.Side.{Side}
use Rattle.instance_spec.specs.declared.sides.Side.TheVariants.{Left, Right}
use Rattle.instance_spec.specs.Instances.{Instance}
use Rattle.pair_spec.specs.Pairs.{ModulePair, host_imports}
use Rattle.pair_spec.specs.Linked.{linked_export_kind, linked_func, linked_import, side_prefix}
use Rattle.linked_pair.specs.declared.numbers.SideNumbers.{SideNumbers}
use Rattle.linked_pair.specs.declared.linked.LinkedSide.{LinkedSide}
use Rattle.linked_pair.specs.declared.linked.CodeParts.{CodeParts}
use Rattle.linked_pair.specs.declared.linked.KeptParts.{KeptParts}
use Rattle.linked_pair.specs.declared.linked.ConstantParts.{ConstantParts}
use Rattle.linked_pair.specs.SideNumbers.{instance_by, constant_from}

-- the imports of the host, among those of a side
abbrev pub imports_by : SideNumbers → Side → List Import → List Import
imports_by numbers side imports = map (linked_import (instance_by numbers)) (host_imports side imports)

-- an export of a side
abbrev pub export_by : Instance → Side → Export → Export
export_by i side e = record { name = side_prefix side ++ e.name; kind = linked_export_kind i e.kind }

-- a global
abbrev pub global_by : SideNumbers → Global → Global
global_by numbers g = record g { init = constant_from numbers.constants g.init }

-- an element segment
abbrev pub elem_by : SideNumbers → ElemSeg → ElemSeg
elem_by numbers (Active table offset funcs) =
    Active table (constant_from numbers.constants offset) (map ((instance_by numbers).funcs) funcs)
elem_by numbers (Declared funcs) = Declared (map ((instance_by numbers).funcs) funcs)

-- a data segment
abbrev pub data_by : SideNumbers → DataSeg → DataSeg
data_by numbers d = record d { offset = constant_from numbers.constants d.offset }

-- the pair of two sides
abbrev pub pair_of : (l r : LinkedSide) → ModulePair
pair_of l r = record { left = l.«module».now; right = r.«module».now }

-- the linked module by what the indices of both modules are in it
abbrev pub module_by : ModulePair → (l r : SideNumbers) → Module
module_by pair l r =
    record {
      types = pair.left.types ++ pair.right.types;
      imports = imports_by l Left pair.left.imports ++ imports_by r Right pair.right.imports;
      funcs = map (linked_func (instance_by l)) pair.left.funcs ++ map (linked_func (instance_by r)) pair.right.funcs;
      tables = pair.left.tables ++ pair.right.tables;
      memories = pair.left.memories ++ pair.right.memories;
      globals = map (global_by l) pair.left.globals ++ map (global_by r) pair.right.globals;
      exports = map (export_by (instance_by l) Left) pair.left.exports
          ++ map (export_by (instance_by r) Right) pair.right.exports;
      start = option_or (option_map ((instance_by l).funcs) pair.left.start)
          (option_map ((instance_by r).funcs) pair.right.start);
      elems = map (elem_by l) pair.left.elems ++ map (elem_by r) pair.right.elems;
      datas = map (data_by l) pair.left.datas ++ map (data_by r) pair.right.datas;
      customs = [];
    }

-- the module of these parts
abbrev pub module_of_parts : CodeParts → ConstantParts → KeptParts → List Custom → Module
module_of_parts code constants kept customs =
    record {
      types = kept.types;
      imports = code.imports;
      funcs = code.funcs;
      tables = kept.tables;
      memories = kept.memories;
      globals = constants.globals;
      exports = code.exports;
      start = code.start;
      elems = constants.elems;
      datas = constants.datas;
      customs = customs;
    }
