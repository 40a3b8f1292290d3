-- The replay module of a plan that fits has an encoding, since it is valid.
use Rattle.std.proofs.Common.{◌≡◌, ℕ, zero, suc, ◌+◌, ◌^◌, ◌<◌, ◌≤◌, List, [], ◌∷◌, ◌++◌, length, map, Option, Some, None, codes, refl, sym, subst, arith}
use Rattle.std.specs.Prelude.{◌&&◌, nat_le, option_to_list, replicate, IfSome, IsTrue, IsUtf8}
use Rattle.std.specs.List.{AllByRecursion, zip}
use Rattle.std.specs.Str.{IsAscii}
use Rattle.std.proofs.lemmas.Bool.Decides.{nat_tests}
use Rattle.std.proofs.lemmas.List.{length-append, length-map}
use Rattle.std.proofs.lemmas.List.Elements.{recursion_from_All}
use Rattle.std.proofs.lemmas.Str.{IsUtf8-from_ascii}
use Rattle.base.proofs.Booleans.{and_right}
use Rattle.base.proofs.Lists.{joined_all}
use Rattle.base.proofs.Options.{cond_some}
use Rattle.wasm_syntax.specs.declared.forms.Form.TheVariants.{Core, Replay}
use Rattle.wasm_syntax.specs.declared.limits.TheConstants.{MAX_ENTRIES}
use Rattle.wasm_syntax.specs.declared.values.Val.{Val}
use Rattle.wasm_syntax.specs.declared.values.ValType.{ValType}
use Rattle.wasm_syntax.specs.declared.values.ValType.TheVariants.{I32, I64, F32, F64, FuncRef}
use Rattle.wasm_syntax.specs.declared.signatures.GlobalType.{GlobalType}
use Rattle.wasm_syntax.specs.declared.signatures.Limits.{Limits}
use Rattle.wasm_syntax.specs.declared.instructions.Instr.{Instr}
use Rattle.wasm_syntax.specs.declared.instructions.Instr.TheVariants.{Const}
use Rattle.wasm_syntax.specs.declared.modules.DataSeg.{DataSeg}
use Rattle.wasm_syntax.specs.declared.modules.ElemSeg.{ElemSeg}
use Rattle.wasm_syntax.specs.declared.modules.ElemSeg.TheVariants.{Active, Declared}
use Rattle.wasm_syntax.specs.declared.modules.Func.{Func}
use Rattle.wasm_syntax.specs.declared.modules.Global.{Global}
use Rattle.wasm_syntax.specs.declared.modules.Module.{Module}
use Rattle.wasm_syntax.specs.Index.{all_globals, all_memories, all_tables, func_indices, imported_funcs, imported_globals, of_kind, table_import}
use Rattle.wasm_syntax.specs.Nest.{Plain, Empty}
use Rattle.wasm_syntax.specs.Typing.{is_constant, is_number}
use Rattle.wasm_syntax.specs.Validity.{AreFuncs, IsConstant, IsData, IsDeclaredFunc, IsElem, IsGlobal, IsMemory, IsTypedFunc, IsValid}
use Rattle.wasm_syntax.specs.Encoding.Forms.{IsOfTableZero}
use Rattle.wasm_syntax.specs.Encoding.Laws.{CoreIsInReplay}
use Rattle.wasm_syntax.specs.Encoding.Encodable.{FitsBody, FitsBounds, FitsDataSeg, FitsElemSeg, FitsFunc, FitsFuncType, FitsGlobal, FitsLimits, FitsU32, FitsValType, IsEncodable}
use Rattle.host_script.specs.declared.scripts.Supply.{Supply}
use Rattle.host_script.specs.Supply.{is_within, keeps_max}
use Rattle.history_spec.specs.Code.{i32_value, zero_of}
use Rattle.history_spec.specs.Instantiation.{constant, global_value, limits_of}
use Rattle.type_safety.specs.Supplies.{Match}
use Rattle.replay_module_spec.specs.declared.plans.Plan.{Plan}
use Rattle.replay_module_spec.specs.Functions.{appended_types, group_funcs}
use Rattle.replay_module_spec.specs.Fragments.{counter, fragment_of, helper_funcs, import_bodies, import_types, referred_once, start_index}
use Rattle.replay_gen.specs.Bounds.{FitsIndices}
use Rattle.replay_module_spec.specs.Merge.{constant_body, constant_data, constant_elem, constant_global, declaration, replay_module, supplied_global}
use Rattle.replay_module_spec.specs.Plans.{plan_of}
use Rattle.trace_model.specs.declared.tapes.Tape.{Tape}
use Rattle.replay_module_laws.specs.Laws.{PlansFit, ReplayModulesOfTapesAreValid, StatesMaximum}
use Rattle.replay_module_laws.specs.Plans.{PlanFits}
use Rattle.replay_encoding_laws.specs.Premises.{IsTakenSupply, IsTakenTape}
use Rattle.replay_encoding_laws.proofs.FittingCode.{value_fits}
use Rattle.replay_encoding_laws.proofs.FittingFuncs.{HasFittingCode, bodies_fit, groups_length, helpers_fit, imports_length}

-- ---- constants

-- an expression of one constant has an encoding, if it is valid
constant_fits : (r : Module) (ty : ValType) (value : Val) → IsConstant r ty (constant_body value)
    → FitsBody Replay (constant_body value)
constant_fits r ty value h =
    let fits = (cond_some (is_constant value) (Some value.ty) ty h).0 in
    record {
      instructions = (value_fits value fits, (tt, tt));
      nest = Plain (Const value) Empty;
      is_body = record { nested = (refl, tt); written = refl };
    }

-- the expression is one constant
abbrev IsOneConstant : List Instr → Type 0
IsOneConstant body = (value : Val) × (body ≡ constant_body value)

body_fits : (r : Module) (ty : ValType) (body : List Instr) → IsOneConstant body → IsConstant r ty body
    → FitsBody Replay body
body_fits r ty body one h =
    subst (FitsBody Replay) (sym one.1) (constant_fits r ty one.0 (subst (IsConstant r ty) one.1 h))

number_fits : (ty : ValType) → IsTrue (is_number ty) → FitsValType ty
number_fits I32 h = tt
number_fits I64 h = tt
number_fits F32 h = tt
number_fits F64 h = tt
number_fits FuncRef h = absurd (cc h)

-- ---- globals

abbrev HasConstant : Global → Type 0
HasConstant g = IsOneConstant g.init

supplied_constant : (types : List GlobalType) (values : List Val)
    → AllByRecursion HasConstant (map supplied_global (zip types values))
supplied_constant [] values = tt
supplied_constant (ty ∷ types) [] = tt
supplied_constant (ty ∷ types) (value ∷ values) = ((value, refl), supplied_constant types values)

defined_constant : (imported : List Val) (globals : List Global)
    → AllByRecursion HasConstant (map (constant_global imported) globals)
defined_constant imported [] = tt
defined_constant imported (g ∷ globals) = ((global_value imported g, refl), defined_constant imported globals)

counters_constant : (count : ℕ) → AllByRecursion HasConstant (replicate count counter)
counters_constant zero = tt
counters_constant (suc count) = ((i32_value 0, refl), counters_constant count)

globals_fit : (r : Module) (globals : List Global) → AllByRecursion HasConstant globals
    → AllByRecursion (IsGlobal r) globals → AllByRecursion (FitsGlobal Replay) globals
globals_fit r [] constants valid = tt
globals_fit r (g ∷ globals) constants valid = (
  (number_fits g.ty.ty valid.0.number, body_fits r g.ty.ty g.init constants.0 valid.0.init),
  globals_fit r globals constants.1 valid.1,
)

-- ---- segments

abbrev ElemConstant : ElemSeg → Type 0
ElemConstant (Active table offset funcs) = IsOneConstant offset
ElemConstant (Declared funcs) = Unit {0}

elems_constant : (imported : List Val) (elems : List ElemSeg)
    → AllByRecursion ElemConstant (map (constant_elem imported) elems)
elems_constant imported [] = tt
elems_constant imported (Active table offset funcs ∷ elems) =
    ((constant imported (zero_of I32) offset, refl), elems_constant imported elems)
elems_constant imported (Declared funcs ∷ elems) = (tt, elems_constant imported elems)

declaration_constant : (funcs : List ℕ) → AllByRecursion ElemConstant (declaration funcs)
declaration_constant [] = tt
declaration_constant (func ∷ funcs) = (tt, tt)

abbrev DataConstant : DataSeg → Type 0
DataConstant segment = IsOneConstant segment.offset

datas_constant : (imported : List Val) (datas : List DataSeg)
    → AllByRecursion DataConstant (map (constant_data imported) datas)
datas_constant imported [] = tt
datas_constant imported (segment ∷ datas) =
    ((constant imported (zero_of I32) segment.offset, refl), datas_constant imported datas)

indices_fit : (most : ℕ) (indices : List ℕ) → most ≤ 2 ^ 32 → AllByRecursion (λ f. f < most) indices
    → AllByRecursion FitsU32 indices
indices_fit most [] few all = tt
indices_fit most (index ∷ indices) few all =
    let below = all.0 in (omega (arith, below, few), indices_fit most indices few all.1)

module _ (r : Module) (funcs : length (func_indices r) ≤ 2 ^ 32) (tables : length (all_tables r) ≤ 1)
    (memories : length (all_memories r) ≤ 1) where
  indices_of : (indices : List ℕ) → AreFuncs r indices → AllByRecursion FitsU32 indices
  indices_of indices there =
      indices_fit (length (func_indices r)) indices funcs
      (recursion_from_All (λ f. f < length (func_indices r)) indices there)

  elem_fits : (segment : ElemSeg) → ElemConstant segment → IsElem r segment → FitsElemSeg Replay segment
  elem_fits (Active table offset indices) one valid =
      let there = valid.0 in
      (omega (arith, there, tables), body_fits r I32 offset one valid.1, indices_of indices valid.2)
  elem_fits (Declared indices) one valid = indices_of indices valid

  elems_fit : (elems : List ElemSeg) → AllByRecursion ElemConstant elems → AllByRecursion (IsElem r) elems
      → AllByRecursion (FitsElemSeg Replay) elems
  elems_fit [] constants valid = tt
  elems_fit (segment ∷ elems) constants valid =
      (elem_fits segment constants.0 valid.0, elems_fit elems constants.1 valid.1)

  datas_fit : (datas : List DataSeg) → AllByRecursion DataConstant datas → AllByRecursion (IsData r) datas
      → AllByRecursion (FitsDataSeg Replay) datas
  datas_fit [] constants valid = tt
  datas_fit (segment ∷ datas) constants valid =
      let there = valid.0.memory in (
        (omega (arith, there, memories), body_fits r I32 segment.offset constants.0 valid.0.offset),
        datas_fit datas constants.1 valid.1,
      )

-- ---- limits

memory_fits : (limits : Limits) → IsMemory limits → FitsLimits limits
memory_fits limits valid = by limits.max valid.max
  where
    least : limits.min < 2 ^ 32
    least = let small = valid.min in omega (arith, small)

    by : (max : Option ℕ) → IfSome max (λ max. (max ≤ 2 ^ 16) × (limits.min ≤ max)) → FitsBounds limits.min max
    by None h = least
    by (Some max) h = let small = h.0 in (least, omega (arith, small))

memories_fit : (memories : List Limits) → AllByRecursion IsMemory memories → AllByRecursion FitsLimits memories
memories_fit [] valid = tt
memories_fit (limits ∷ memories) valid = (memory_fits limits valid.0, memories_fit memories valid.1)

given_fits : (least : ℕ) (max : Option ℕ) → least ≤ MAX_ENTRIES → IfSome max (λ max. max < 2 ^ 32)
    → FitsBounds least max
given_fits least None small stated = omega (arith, small)
given_fits least (Some max) small stated = (omega (arith, small), stated)

tables_fit : (imports defined : List Limits) (supplied : Option Limits) → Match MAX_ENTRIES imports supplied
    → IfSome supplied (λ limits. IfSome limits.max (λ max. max < 2 ^ 32)) → AllByRecursion FitsLimits defined
    → AllByRecursion FitsLimits (option_to_list (limits_of imports supplied defined))
tables_fit [] [] supplied matches stated fit = tt
tables_fit [] (own ∷ more) supplied matches stated fit = (fit.0, tt)
tables_fit (wanted ∷ imports) defined None matches stated fit = absurd matches
tables_fit (wanted ∷ imports) defined (Some given) matches stated fit =
    let last =
    and_right (nat_le wanted.min given.min && keeps_max given.max wanted.max && is_within given.min given.max)
    (nat_le given.min MAX_ENTRIES) matches in
    let small : given.min ≤ MAX_ENTRIES = grind (arith, nat_tests, last) in
    (given_fits given.min given.max small stated, tt)

-- ---- functions

funcs_fit : (r : Module) → length r.types ≤ 2 ^ 32 → (funcs : List Func) → AllByRecursion HasFittingCode funcs
    → AllByRecursion (IsDeclaredFunc r) funcs → AllByRecursion (IsTypedFunc r) funcs
    → AllByRecursion (FitsFunc Replay) funcs
funcs_fit r few [] fit declared typed = tt
funcs_fit r few (func ∷ funcs) fit declared typed =
    let there = declared.0.type_there in (
      (
        omega (arith, there, few),
        fit.0.0,
        record { instructions = fit.0.1; nest = typed.0.nest; is_body = typed.0.is_body },
      ),
      funcs_fit r few funcs fit.1 declared.1 typed.1,
    )

own_fit : (funcs : List Func) → AllByRecursion (FitsFunc Replay) funcs → AllByRecursion HasFittingCode funcs
own_fit [] all = tt
own_fit (func ∷ funcs) all = ((all.0.1, all.0.2.instructions), own_fit funcs all.1)

-- ---- names

each_ascii : (bytes : List ℕ) → AllByRecursion (λ b. b < 128) bytes → IsAscii bytes
each_ascii [] all i = omega arith
each_ascii (b ∷ bytes) all zero = all.0
each_ascii (b ∷ bytes) all (suc i) = each_ascii bytes all.1 i

is_text : (bytes : List ℕ) → AllByRecursion (λ b. b < 128) bytes → IsUtf8 bytes
is_text bytes all = IsUtf8-from_ascii bytes (each_ascii bytes all)

start_text : IsUtf8 (codes "_start")
start_text =
    is_text (codes "_start")
    (omega arith, (omega arith, (omega arith, (omega arith, (omega arith, (omega arith, tt))))))

layout_text : IsUtf8 (codes "r3.layout")
layout_text =
    is_text (codes "r3.layout") (
      omega arith,
      (
        omega arith,
        (
          omega arith,
          (
            omega arith,
            (
              omega arith,
              (omega arith, (omega arith, (omega arith, (omega arith, tt)))),
            ),
          ),
        ),
      ),
    )

-- ---- the whole module

-- a module has at most one table, so each active segment is of table 0
of_table_zero : (m : Module) → length (all_tables m) ≤ 1 → (elems : List ElemSeg)
    → AllByRecursion (IsElem m) elems → AllByRecursion IsOfTableZero elems
of_table_zero m one [] valid = tt
of_table_zero m one (Active table offset funcs ∷ elems) valid =
    let there = valid.0.0 in (omega (arith, there, one), of_table_zero m one elems valid.1)
of_table_zero m one (Declared funcs ∷ elems) valid = (tt, of_table_zero m one elems valid.1)

-- the parts that the replay module keeps have encodings
pub record KeptPartsFit (m : Module) : Type 0 where
  pub types : AllByRecursion FitsFuncType m.types
  pub funcs : AllByRecursion (FitsFunc Replay) m.funcs
  pub tables : AllByRecursion FitsLimits m.tables

replay_funcs : (m : Module) (supply : Supply) (plan : Plan)
    → length (func_indices (replay_module m supply (fragment_of m plan)))
    ≤ length (func_indices m) + 1 + length (group_funcs m (import_types m) plan.imports)
replay_funcs m supply plan =
    let bodies = import_bodies m plan in
    let helpers = helper_funcs m plan in
    let all : length (func_indices (replay_module m supply (fragment_of m plan))) ≡ length (bodies ++ (m.funcs ++ helpers)) =
    length-map (bodies ++ (m.funcs ++ helpers)) (λ (f : Func). f.ty) in
    omega (
      arith,
      all,
      length-append bodies (m.funcs ++ helpers),
      length-append m.funcs helpers,
      imports_length m (length (all_globals m)) (start_index m + 1) (import_types m) plan.imports,
      length-append (import_types m) (map (λ f. f.ty) m.funcs),
      length-map m.funcs (λ (f : Func). f.ty),
    )

replay_encodable : (m : Module) (supply : Supply) (plan : Plan) → KeptPartsFit m
    → IsValid (replay_module m supply (fragment_of m plan)) → FitsIndices m plan → PlanFits m plan
    → Match MAX_ENTRIES (of_kind table_import m.imports) supply.table
    → IfSome supply.table (λ limits. IfSome limits.max (λ max. max < 2 ^ 32))
    → IsEncodable Replay (replay_module m supply (fragment_of m plan))
replay_encodable m supply plan own valid small fits matches stated =
    let r = replay_module m supply (fragment_of m plan) in
    let outside = valid.outside in
    let many : length (func_indices r) ≤ 2 ^ 32 =
    omega (arith, replay_funcs m supply plan, groups_length m (import_types m) plan.imports, small.funcs) in
    let types : length r.types ≤ 2 ^ 32 =
    (let both = length-append m.types appended_types in let few = small.types in omega (arith, both, few)) in
    let imported = map supplied_global (zip (imported_globals m) supply.globals) in
    let defined = map (constant_global supply.globals) m.globals in
    let counters = replicate (imported_funcs m) counter in
    let declared = referred_once (start_index m) (import_bodies m plan ++ (m.funcs ++ helper_funcs m plan)) in
    record {
      types = joined_all FitsFuncType m.types appended_types own.types
          ((tt, tt), (((tt, tt), tt), (((tt, tt), (tt, tt)), (((tt, tt), (tt, tt)), (((tt, tt), (tt, tt)), (((tt, tt), (tt, tt)), tt))))));
      imports = tt;
      funcs = funcs_fit r types r.funcs
          (joined_all HasFittingCode (import_bodies m plan) (m.funcs ++ helper_funcs m plan) (bodies_fit m plan small)
          (joined_all HasFittingCode m.funcs (helper_funcs m plan) (own_fit m.funcs own.funcs)
          (helpers_fit m plan small fits)))
          (recursion_from_All (IsDeclaredFunc r) r.funcs outside.funcs)
          (recursion_from_All (IsTypedFunc r) r.funcs valid.bodies);
      tables = tables_fit (of_kind table_import m.imports) m.tables supply.table matches stated own.tables;
      memories = memories_fit r.memories (recursion_from_All IsMemory r.memories outside.memories);
      globals = globals_fit r r.globals
          (joined_all HasConstant imported (defined ++ counters)
          (supplied_constant (imported_globals m) supply.globals)
          (joined_all HasConstant defined counters (defined_constant supply.globals m.globals)
          (counters_constant (imported_funcs m))))
          (recursion_from_All (IsGlobal r) r.globals outside.globals);
      exports = ((start_text, (let few = small.funcs in omega (arith, few))), tt);
      start = tt;
      elems = elems_fit r many outside.one_table outside.one_memory r.elems
          (joined_all ElemConstant (map (constant_elem supply.globals) m.elems) (declaration declared)
          (elems_constant supply.globals m.elems) (declaration_constant declared))
          (recursion_from_All (IsElem r) r.elems outside.elems);
      datas = datas_fit r many outside.one_table outside.one_memory r.datas (datas_constant supply.globals m.datas)
          (recursion_from_All (IsData r) r.datas outside.datas);
      customs = (layout_text, tt);
    }

-- ---- a module, its supply and its tape

-- the parts have encodings in the form Replay, if the module has one in the form Core
pub kept_parts : CoreIsInReplay → (m : Module) → IsValid m → IsEncodable Core m → KeptPartsFit m
kept_parts in_replay m valid own =
    let whole =
    in_replay m own
    (of_table_zero m valid.outside.one_table m.elems (recursion_from_All (IsElem m) m.elems valid.outside.elems)) in
    record { types = whole.types; funcs = whole.funcs; tables = whole.tables }

stated_max : (max : Option ℕ) → IfSome max (λ max. max < 2 ^ 32) → IfSome max (λ max. max ≤ 2 ^ 32)
stated_max None h = tt
stated_max (Some max) h = omega (arith, h)

stated : (table : Option Limits) → IfSome table (λ limits. IfSome limits.max (λ max. max < 2 ^ 32))
    → StatesMaximum table
stated None h = tt
stated (Some limits) h = stated_max limits.max h

pub taken_encodable : PlansFit → ReplayModulesOfTapesAreValid → (m : Module) (supply : Supply) (tape : Tape) → IsValid m
    → KeptPartsFit m → IsTakenSupply m supply → IsTakenTape m tape → FitsIndices m (plan_of (imported_funcs m) tape)
    → IsEncodable Replay (replay_module m supply (fragment_of m (plan_of (imported_funcs m) tape)))
taken_encodable plans_fit are_valid m supply tape valid own supplied taken small =
    replay_encodable m supply (plan_of (imported_funcs m) tape) own
    (are_valid m supply tape valid supplied.matches (stated supply.table supplied.table) taken.fits taken.constants)
    small (plans_fit m tape valid taken.fits taken.constants) supplied.matches.table supplied.table
