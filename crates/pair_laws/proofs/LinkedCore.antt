-- The linked module of two of the form Core is one.
use Rattle.std.proofs.Common.{ℕ, zero, suc, ◌-◌, List, [], ◌∷◌, map, length, Option, Some, None, slice_get}
use Rattle.std.specs.List.{AllByRecursion}
use Rattle.std.specs.Option.{option_map_or}
use Rattle.base.proofs.Lists.{joined_all}
use Rattle.wasm_syntax.specs.declared.instructions.Instr.{Instr}
use Rattle.wasm_syntax.specs.declared.instructions.Instr.TheVariants.{End, GlobalGet}
use Rattle.wasm_syntax.specs.declared.modules.Func.{Func}
use Rattle.wasm_syntax.specs.declared.modules.Global.{Global}
use Rattle.wasm_syntax.specs.declared.modules.ElemSeg.{ElemSeg}
use Rattle.wasm_syntax.specs.declared.modules.ElemSeg.TheVariants.{Active, Declared}
use Rattle.wasm_syntax.specs.declared.modules.DataSeg.{DataSeg}
use Rattle.wasm_syntax.specs.Encoding.Forms.{AreCoreInstrs, IsCoreInstr, IsCoreModule, IsCoreSeg}
use Rattle.instance_spec.specs.declared.sides.Side.{Side}
use Rattle.instance_spec.specs.declared.sides.Side.TheVariants.{Left, Right}
use Rattle.instance_spec.specs.Instances.{resolved_instr}
use Rattle.pair_spec.specs.Pairs.{ModulePair, module_of, Globals, imports_in}
use Rattle.pair_spec.specs.Chains.{ChainEnd, Defined, HostImport, end_of}
use Rattle.pair_spec.specs.Numbers.{side_instance}
use Rattle.pair_spec.specs.Linked.{constant_by, linked_constant, linked_data, linked_elem, linked_func, linked_global}
use Rattle.pair_laws.specs.LinkedLaws.{LinkedAreCore}
use Rattle.instance_laws.proofs.WidenedEncodable.{core_kept, mapped_all}

init_core : (globals : List Global) (k : ℕ) → AllByRecursion (λ (g : Global). AreCoreInstrs g.init) globals
    → AreCoreInstrs (option_map_or (λ (g : Global). g.init) (slice_get globals k) [])
init_core [] k core = tt
init_core (g ∷ globals) zero core = core.0
init_core (g ∷ globals) (suc k) core = init_core globals k core.1

module _ (pair : ModulePair) (left : IsCoreModule pair.left) (right : IsCoreModule pair.right) where
  core : (side : Side) → IsCoreModule (module_of pair side)
  core Left = left
  core Right = right

  end_core : (body : List Instr) (o : Option ChainEnd) → AreCoreInstrs body → AreCoreInstrs (constant_by pair body o)
  end_core body None is = is
  end_core body (Some (HostImport side y)) is = (tt, (tt, tt))
  end_core body (Some (Defined side y)) is =
      init_core (module_of pair side).globals (y - length (imports_in Globals (module_of pair side))) (core side).globals

  module _ (side : Side) where
    constant_core : (body : List Instr) → AreCoreInstrs body → AreCoreInstrs (linked_constant pair side body)
    constant_core (GlobalGet x ∷ End ∷ []) is = end_core (GlobalGet x ∷ End ∷ []) (end_of pair Globals side x) is
    constant_core body is = is

    elem_core : (e : ElemSeg) → IsCoreSeg e → IsCoreSeg (linked_elem pair side e)
    elem_core (Active table offset funcs) is = constant_core offset is
    elem_core (Declared funcs) is = is

    func_core : (f : Func) → AreCoreInstrs f.body → AreCoreInstrs (linked_func (side_instance pair side) f).body
    func_core f is =
        let i = side_instance pair side in
        mapped_all IsCoreInstr IsCoreInstr (resolved_instr i) (core_kept i) f.body is

    abbrev CoreFunc : Func → Type 0
    CoreFunc f = AreCoreInstrs f.body

    abbrev CoreGlobal : Global → Type 0
    CoreGlobal g = AreCoreInstrs g.init

    abbrev CoreData : DataSeg → Type 0
    CoreData d = AreCoreInstrs d.offset

    pub record ArePartsCore : Type 0 where
      pub funcs : AllByRecursion CoreFunc (map (linked_func (side_instance pair side)) (module_of pair side).funcs)
      pub globals : AllByRecursion CoreGlobal (map (linked_global pair side) (module_of pair side).globals)
      pub elems : AllByRecursion IsCoreSeg (map (linked_elem pair side) (module_of pair side).elems)
      pub datas : AllByRecursion CoreData (map (linked_data pair side) (module_of pair side).datas)

    parts : ArePartsCore
    parts =
        let m = module_of pair side in
        record {
          funcs = mapped_all CoreFunc CoreFunc (linked_func (side_instance pair side)) func_core m.funcs (core side).funcs;
          globals = mapped_all CoreGlobal CoreGlobal (linked_global pair side) (λ g is. constant_core g.init is) m.globals (core side).globals;
          elems = mapped_all IsCoreSeg IsCoreSeg (linked_elem pair side) elem_core m.elems (core side).elems;
          datas = mapped_all CoreData CoreData (linked_data pair side) (λ d is. constant_core d.offset is) m.datas (core side).datas;
        }

pub linked_are_core : LinkedAreCore
linked_are_core pair left right =
    let l = parts pair left right Left in
    let r = parts pair left right Right in
    record {
      funcs = joined_all (λ (f : Func). AreCoreInstrs f.body) _ _ l.funcs r.funcs;
      globals = joined_all (λ (g : Global). AreCoreInstrs g.init) _ _ l.globals r.globals;
      elems = joined_all IsCoreSeg _ _ l.elems r.elems;
      datas = joined_all (λ (d : DataSeg). AreCoreInstrs d.offset) _ _ l.datas r.datas;
    }
