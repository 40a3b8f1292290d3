-- What is encodable in the one form and in the other.
use Rattle.std.proofs.Common.{◌<◌, ◌^◌, List, [], ◌∷◌, sym, subst, arith}
use Rattle.std.specs.List.{AllByRecursion}
use Rattle.wasm_syntax.specs.declared.forms.Form.TheVariants.{Core, Replay}
use Rattle.wasm_syntax.specs.declared.instructions.Instr.{Instr}
use Rattle.wasm_syntax.specs.declared.instructions.Instr.TheVariants.{RefNull, RefFunc, TableSet, TableGrow, TableSize}
use Rattle.wasm_syntax.specs.declared.modules.Func.{Func}
use Rattle.wasm_syntax.specs.declared.modules.Global.{Global}
use Rattle.wasm_syntax.specs.declared.modules.ElemSeg.{ElemSeg}
use Rattle.wasm_syntax.specs.declared.modules.ElemSeg.TheVariants.{Active, Declared}
use Rattle.wasm_syntax.specs.declared.modules.DataSeg.{DataSeg}
use Rattle.wasm_syntax.specs.declared.modules.Module.{Module}
use Rattle.wasm_syntax.specs.Encoding.Encodable.{FitsInstr, FitsBody, FitsFunc, FitsGlobal, FitsElemSeg, FitsDataSeg, IsEncodable}
use Rattle.wasm_syntax.specs.Encoding.Forms.{IsCoreInstr, AreCoreInstrs, IsCoreSeg, IsCoreModule, IsOfTableZero}

all_map : {A : Type 0} (P Q : A → Type 0) → ((x : A) → P x → Q x) → (xs : List A) → AllByRecursion P xs
    → AllByRecursion Q xs
all_map P Q f [] all = tt
all_map P Q f (x ∷ xs) all = (f x all.0, all_map P Q f xs all.1)

all_both : {A : Type 0} (P Q R : A → Type 0) → ((x : A) → P x → Q x → R x) → (xs : List A) → AllByRecursion P xs
    → AllByRecursion Q xs → AllByRecursion R xs
all_both P Q R f [] ps qs = tt
all_both P Q R f (x ∷ xs) ps qs = (f x ps.0 qs.0, all_both P Q R f xs ps.1 qs.1)

-- ---- what is encodable in the form Core is of that form

instr_core : (i : Instr) → FitsInstr Core i → IsCoreInstr i
instr_core (TableSet table) h = h.0
instr_core RefNull h = h
instr_core (RefFunc func) h = h.0
instr_core (TableGrow table) h = h.0
instr_core (TableSize table) h = h.0
instr_core i h = tt

body_core : (body : List Instr) → FitsBody Core body → AreCoreInstrs body
body_core body h = all_map (FitsInstr Core) IsCoreInstr instr_core body h.instructions

seg_core : (seg : ElemSeg) → FitsElemSeg Core seg → IsCoreSeg seg
seg_core (Active table offset funcs) h = body_core offset h.1
seg_core (Declared funcs) h = h

pub module_core : (m : Module) → IsEncodable Core m → IsCoreModule m
module_core m h = record {
  funcs = all_map (FitsFunc Core) (λ func. AreCoreInstrs func.body) (λ func fits. body_core func.body fits.2) m.funcs h.funcs;
  globals = all_map (FitsGlobal Core) (λ g. AreCoreInstrs g.init) (λ g fits. body_core g.init fits.1) m.globals h.globals;
  elems = all_map (FitsElemSeg Core) IsCoreSeg seg_core m.elems h.elems;
  datas = all_map (FitsDataSeg Core) (λ d. AreCoreInstrs d.offset) (λ d fits. body_core d.offset fits.1) m.datas h.datas;
}

-- ---- encodable in the form of replay binaries too, if the segments are of table 0

instr_replay : (i : Instr) → FitsInstr Core i → FitsInstr Replay i
instr_replay (TableSet table) h = absurd h.0
instr_replay RefNull h = absurd h
instr_replay (RefFunc func) h = absurd h.0
instr_replay (TableGrow table) h = absurd h.0
instr_replay (TableSize table) h = absurd h.0
instr_replay i h = h

body_replay : (body : List Instr) → FitsBody Core body → FitsBody Replay body
body_replay body h = record { instructions = all_map (FitsInstr Core) (FitsInstr Replay) instr_replay body h.instructions; nest = h.nest; is_body = h.is_body }

seg_replay : (seg : ElemSeg) → FitsElemSeg Core seg → IsOfTableZero seg → FitsElemSeg Replay seg
seg_replay (Active table offset funcs) h zero_table = (zero_table, body_replay offset h.1, h.2)
seg_replay (Declared funcs) h zero_table = absurd h

pub core_replay : (m : Module) → IsEncodable Core m → AllByRecursion IsOfTableZero m.elems → IsEncodable Replay m
core_replay m h zero_tables = record {
  types = h.types;
  imports = h.imports;
  funcs = all_map (FitsFunc Core) (FitsFunc Replay) (λ func fits. (fits.0, fits.1, body_replay func.body fits.2)) m.funcs h.funcs;
  tables = h.tables;
  memories = h.memories;
  globals = all_map (FitsGlobal Core) (FitsGlobal Replay) (λ g fits. (fits.0, body_replay g.init fits.1)) m.globals h.globals;
  exports = h.exports;
  start = h.start;
  elems = all_both (FitsElemSeg Core) IsOfTableZero (FitsElemSeg Replay) seg_replay m.elems h.elems zero_tables;
  datas = all_map (FitsDataSeg Core) (FitsDataSeg Replay) (λ d fits. (fits.0, body_replay d.offset fits.1)) m.datas h.datas;
  customs = h.customs;
}

-- ---- what is encodable in the form of replay binaries and of the form Core is encodable in it

core_instr : (i : Instr) → FitsInstr Replay i → IsCoreInstr i → FitsInstr Core i
core_instr (TableSet table) h core = absurd core
core_instr RefNull h core = absurd core
core_instr (RefFunc func) h core = absurd core
core_instr (TableGrow table) h core = absurd core
core_instr (TableSize table) h core = absurd core
core_instr i h core = h

core_body : (body : List Instr) → FitsBody Replay body → AreCoreInstrs body → FitsBody Core body
core_body body h core = record {
  instructions = all_both (FitsInstr Replay) IsCoreInstr (FitsInstr Core) core_instr body h.instructions core;
  nest = h.nest;
  is_body = h.is_body;
}

core_seg : (seg : ElemSeg) → FitsElemSeg Replay seg → IsCoreSeg seg → FitsElemSeg Core seg
core_seg (Active table offset funcs) h core =
    (subst (λ n. n < 2 ^ 32) (sym h.0) (omega arith), core_body offset h.1 core, h.2)
core_seg (Declared funcs) h core = absurd core

pub replay_core : (m : Module) → IsEncodable Replay m → IsCoreModule m → IsEncodable Core m
replay_core m h core = record {
  types = h.types;
  imports = h.imports;
  funcs =
      all_both (FitsFunc Replay) (λ (func : Func). AreCoreInstrs func.body) (FitsFunc Core)
      (λ func fits c. (fits.0, fits.1, core_body func.body fits.2 c)) m.funcs h.funcs core.funcs;
  tables = h.tables;
  memories = h.memories;
  globals =
      all_both (FitsGlobal Replay) (λ (g : Global). AreCoreInstrs g.init) (FitsGlobal Core)
      (λ g fits c. (fits.0, core_body g.init fits.1 c)) m.globals h.globals core.globals;
  exports = h.exports;
  start = h.start;
  elems = all_both (FitsElemSeg Replay) IsCoreSeg (FitsElemSeg Core) core_seg m.elems h.elems core.elems;
  datas =
      all_both (FitsDataSeg Replay) (λ (d : DataSeg). AreCoreInstrs d.offset) (FitsDataSeg Core)
      (λ d fits c. (fits.0, core_body d.offset fits.1 c)) m.datas h.datas core.datas;
  customs = h.customs;
}
