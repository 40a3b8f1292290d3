-- Modules of the form Core: they have nothing that the form of replay binaries alone has.
use Rattle.std.specs.Prelude.{◌≡◌, List}
use Rattle.std.specs.List.{AllByRecursion}
use Rattle.wasm_syntax.specs.declared.instructions.Instr.{Instr}
use Rattle.wasm_syntax.specs.declared.instructions.Instr.TheVariants.{RefNull, RefFunc, TableSet, TableGrow, TableSize}
use Rattle.wasm_syntax.specs.declared.modules.ElemSeg.{ElemSeg}
use Rattle.wasm_syntax.specs.declared.modules.ElemSeg.TheVariants.{Active, Declared}
use Rattle.wasm_syntax.specs.declared.modules.Module.{Module}

-- an instruction of Core 1.0 (2.4), or one of those of Core 2.0 that a module of the form Core may have (2.4.1, 2.4.7)
abbrev pub IsCoreInstr : Instr → Type 0
IsCoreInstr (TableSet table) = ⊥
IsCoreInstr RefNull = ⊥
IsCoreInstr (RefFunc func) = ⊥
IsCoreInstr (TableGrow table) = ⊥
IsCoreInstr (TableSize table) = ⊥
IsCoreInstr other = Unit {0}

abbrev pub AreCoreInstrs : List Instr → Type 0
AreCoreInstrs = AllByRecursion IsCoreInstr

-- an element segment of Core 1.0 (2.5.7)
abbrev pub IsCoreSeg : ElemSeg → Type 0
IsCoreSeg (Active table offset funcs) = AreCoreInstrs offset
IsCoreSeg (Declared funcs) = ⊥

-- a module of the form Core: its bodies and constant expressions have only instructions of that form, and it has no
-- declared element segment
pub record IsCoreModule (m : Module) : Type 0 where
  pub funcs : AllByRecursion (λ func. AreCoreInstrs func.body) m.funcs
  pub globals : AllByRecursion (λ g. AreCoreInstrs g.init) m.globals
  pub elems : AllByRecursion IsCoreSeg m.elems
  pub datas : AllByRecursion (λ d. AreCoreInstrs d.offset) m.datas

-- an active segment is of table 0, as validity demands (Core 1.0, 3.4.5)
abbrev pub IsOfTableZero : ElemSeg → Type 0
IsOfTableZero (Active table offset funcs) = table ≡ 0
IsOfTableZero (Declared funcs) = Unit {0}
