-- Instrumented modules are valid.
use Rattle.std.proofs.Common.{◌≡◌, ◌≢◌, ℕ, ◌+◌, ◌^◌, ◌<◌, ◌≤◌, List, [], ◌∷◌, ◌++◌, length, map, reverse, Option, Some, None, IsTrue, is_some, slice_get, option_map, option_and_then, All, refl, sym, ap, ◌∙◌, subst, arith, length-append, append-nil}
use Rattle.std.specs.Prelude.{IfSome, AllPairs}
use Rattle.std.specs.List.{AllByRecursion}
use Rattle.std.proofs.lemmas.List.{append_assoc, length-map, get_or-map}
use Rattle.std.proofs.lemmas.List.Elements.{recursion_from_All, All-from_recursion, All-append, All-map, All-weaker}
use Rattle.std.proofs.lemmas.Option.{slice_get_within}
use Rattle.base.proofs.Lists.{get_front, all_at}
use Rattle.base.proofs.Options.{and_then_some}
use Rattle.wasm_syntax.specs.declared.values.ValType.{ValType}
use Rattle.wasm_syntax.specs.declared.values.ValType.TheVariants.{I32, I64, F32, F64, FuncRef}
use Rattle.wasm_syntax.specs.declared.signatures.FuncType.{FuncType}
use Rattle.wasm_syntax.specs.declared.signatures.GlobalType.{GlobalType}
use Rattle.wasm_syntax.specs.declared.signatures.Limits.{Limits}
use Rattle.wasm_syntax.specs.declared.instructions.Instr.{Instr}
use Rattle.wasm_syntax.specs.declared.instructions.Instr.TheVariants.{End, Const, GlobalGet}
use Rattle.wasm_syntax.specs.declared.modules.Module.{Module}
use Rattle.wasm_syntax.specs.declared.modules.Import.{Import}
use Rattle.wasm_syntax.specs.declared.modules.ImportKind.{ImportKind}
use Rattle.wasm_syntax.specs.declared.modules.ImportKind.TheVariants as import
use Rattle.wasm_syntax.specs.declared.modules.Export.{Export}
use Rattle.wasm_syntax.specs.declared.modules.ExportKind.{ExportKind}
use Rattle.wasm_syntax.specs.declared.modules.ExportKind.TheVariants as export
use Rattle.wasm_syntax.specs.declared.modules.Func.{Func}
use Rattle.wasm_syntax.specs.declared.modules.ElemSeg.{ElemSeg}
use Rattle.wasm_syntax.specs.declared.modules.ElemSeg.TheVariants.{Active, Declared}
use Rattle.wasm_syntax.specs.declared.modules.DataSeg.{DataSeg}
use Rattle.wasm_syntax.specs.Encoding.Forms.{AreCoreInstrs, IsCoreModule}
use Rattle.wasm_syntax.specs.Encoding.Encodable.{FitsU32}
use Rattle.wasm_syntax.specs.Index.{of_kind, func_import, func_indices, imported_funcs, type_at, func_type, all_globals}
use Rattle.wasm_syntax.specs.Nest.{Nest, Empty, InBlock, flat, nest_of}
use Rattle.wasm_syntax.specs.Typing.{Context, is_number, results_of, inside, IsTyped}
use Rattle.wasm_syntax.specs.Validity.{IsFuncType, IsImport, IsDeclaredFunc, IsGlobal, IsConstant, IsStart, IsElem, IsData, IsThere, IsValidOutside, IsTypedFunc, IsValid, single, immutable_type, constant_type, each_local, body_context}
use Rattle.wasm_syntax.proofs.Nests.{nest_of_body}
use Rattle.wasm_syntax.proofs.JoinedLists.{both_parts}
use Rattle.record_replay_spec.specs.declared.hooks.Hook.{Hook}
use Rattle.record_replay_spec.specs.declared.hooks.Hook.TheVariants as hook
use Rattle.record_replay_spec.specs.Hooks.{hooks, renumber}
use Rattle.record_replay_spec.specs.Insertions.{Site, value_local, inserted_at_enter, inserted_at_end}
use Rattle.record_replay_spec.specs.Instrumented.{before_nest, instrumented_nest, instrumented_body, with_added_locals, site_of, instrumented_func, each_func, hook_types, hook_import, renumbered_kind, renumbered_export, renumbered_elem, instrumented_module}
use Rattle.record_replay_spec.specs.HookLaws.{BodiesAreInstrumented, InstrumentedKeepsIndices, InstrumentedKeepIndices}
use Rattle.instrumented_module_laws.specs.Laws.{HasWordOffset, HasWords, InstrumentedAreValid}
use Rattle.instrumented_module_laws.proofs.Pieces.{HasHooks, typed_after, enter_runs, reports_number_runs}
use Rattle.instrumented_module_laws.proofs.Nests.{IsHooked, IsReported, typed_round}
use Rattle.instrumented_module_laws.proofs.Indices.{type_kept, globals_kept, renumbered_there}
use Rattle.instrumented_module_laws.proofs.Parts.{hook_types_good, added, numbers_added, added_at, block_results, block_type_good, body_labels, reported_all, global_numbers}

-- ---- the module

module _ (bodies_are_instrumented : BodiesAreInstrumented) (instrumented_keep_indices : InstrumentedKeepIndices)
    (m : Module) (digest : List ℕ) (valid : IsValid m) (core : IsCoreModule m) (words : HasWords m) where
  abbrev hooked : Module
  hooked = instrumented_module m digest

  keeps : InstrumentedKeepsIndices m digest
  keeps = instrumented_keep_indices m digest

  more_types : length hooked.types ≡ length m.types + 5
  more_types = length-append m.types hook_types

  func_good : (f : ℕ) (ty : FuncType) → func_type m f ≡ Some ty → IsFuncType ty × FitsU32 f
  func_good f ty h =
      let found = and_then_some (slice_get (func_indices m) f) (type_at m) ty h in
      let within = slice_get_within (func_indices m) f found.0 found.1 in
      let few = words.funcs in
      (all_at IsFuncType m.types found.0 ty valid.outside.types found.2, omega (arith, within, few))

  global_good : (x : ℕ) (g : GlobalType) → slice_get (all_globals m) x ≡ Some g → IsTrue (is_number g.ty) × FitsU32 x
  global_good x g h =
      let within = slice_get_within (all_globals m) x g h in
      let few = words.globals in (
        all_at (λ (g : GlobalType). IsTrue (is_number g.ty)) (all_globals m) x g (global_numbers m valid.outside) h,
        omega (arith, within, few),
      )

  -- ---- one body

  module _ (index : ℕ) (func : Func) (t : IsTypedFunc m func) (low : FitsU32 index) where
    abbrev site : Site
    site = site_of m index t.ty func

    abbrev hooked_func : Func
    hooked_func =
        record func {
          locals = with_added_locals func.locals;
          body = flat (instrumented_body site t.ty t.nest) ++ End ∷ [];
        }

    abbrev own_locals : List ValType
    own_locals = t.ty.params ++ each_local func.locals

    abbrev ctx : Context
    ctx = body_context m t.ty func

    abbrev wider : Context
    wider = body_context hooked t.ty hooked_func

    locals_are : t.ty.params ++ each_local (with_added_locals func.locals) ≡ own_locals ++ added
    locals_are =
        ap (λ types. t.ty.params ++ types) (bodies_are_instrumented.locals func.locals)
        ∙ sym (append_assoc t.ty.params (each_local func.locals) added)

    first_added : length t.ty.params + length (each_local func.locals) ≡ length own_locals
    first_added = sym (length-append t.ty.params (each_local func.locals))

    added_local : (place x : ℕ) (ty : ValType) → x ≡ site.locals + place → slice_get added place ≡ Some ty
        → slice_get wider.locals x ≡ Some ty
    added_local place x ty is there =
        ap (λ types. slice_get types x) locals_are
        ∙ added_at own_locals site.locals place x ty first_added is there

    kept_local : (x : ℕ) (ty : ValType) → slice_get own_locals x ≡ Some ty → slice_get wider.locals x ≡ Some ty
    kept_local x ty h =
        ap (λ types. slice_get types x) locals_are
        ∙ get_front own_locals added x (slice_get_within own_locals x ty h)
        ∙ h

    value_there : (ty : ValType) → IsTrue (is_number ty) → slice_get wider.locals (value_local site ty) ≡ Some ty
    value_there I32 h = added_local 1 (value_local site I32) I32 refl refl
    value_there I64 h = added_local 2 (value_local site I64) I64 refl refl
    value_there F32 h = added_local 3 (value_local site F32) F32 refl refl
    value_there F64 h = added_local 4 (value_local site F64) F64 refl refl
    value_there FuncRef h = cc

    has_hooks : HasHooks site wider
    has_hooks =
        let at : site.locals ≡ site.locals + 0 = omega arith in
        record { address = added_local 0 site.locals I32 at refl; value = value_there; hook = keeps.hook }

    good : IsFuncType t.ty
    good = all_at IsFuncType m.types func.ty t.ty valid.outside.types t.has_type

    abbrev label : List ValType
    label = results_of (slice_get t.ty.results 0)

    label_is : label ≡ reverse t.ty.results
    label_is = block_results t.ty.results good.one_result

    is_hooked : IsHooked site ctx (inside label wider)
    is_hooked =
        record {
          has = record { address = has_hooks.address; value = has_hooks.value; hook = has_hooks.hook };
          func_of_site = λ f. refl;
          type_of_site = λ t. refl;
          global_of_site = λ x. refl;
          own = low;
          func_good = func_good;
          type_good = λ i ty h. all_at IsFuncType m.types i ty valid.outside.types h;
          global_good = global_good;
          known =
              record {
                types = type_kept instrumented_keep_indices m digest;
                funcs = keeps.type_of;
                tables = λ x. ap (λ (ts : List Limits). is_some (slice_get ts x)) (sym keeps.tables);
                memory = ap (λ (ms : List Limits). is_some (slice_get ms 0)) (sym keeps.memories);
                globals = λ x g h. ap (λ (gs : List GlobalType). slice_get gs x) keeps.globals ∙ h;
                locals = kept_local;
                labels = body_labels label (reverse t.ty.results) label_is;
                results = refl;
              };
        }

    param_there : (place : ℕ) (ty : ValType) → slice_get t.ty.params place ≡ Some ty
        → IsTrue (is_number ty) × (slice_get wider.locals place ≡ Some ty)
    param_there place ty h = (
      all_at (λ t. IsTrue (is_number t)) t.ty.params place ty good.params h,
      kept_local place ty
          (get_front t.ty.params (each_local func.locals) place (slice_get_within t.ty.params place ty h) ∙ h),
    )

    abbrev end_nest : Nest
    end_nest = before_nest (inserted_at_end site) Empty

    end_typed : IsTyped wider end_nest (label ++ []) (reverse t.ty.results)
    end_typed =
        typed_after wider (inserted_at_end site) Empty (label ++ []) (label ++ []) (reverse t.ty.results)
        (reports_number_runs site wider has_hooks hook.Leave index (label ++ []) low refl)
        (append-nil label ∙ label_is)

    inner_typed : AllByRecursion IsReported (flat t.nest)
        → IsTyped (inside label wider) (instrumented_nest site t.nest) [] label
    inner_typed reported =
        subst (IsTyped (inside label wider) (instrumented_nest site t.nest) []) (sym label_is)
        (typed_round site t.nest ctx (inside label wider) [] (reverse t.ty.results) is_hooked reported t.typed)

    body_typed : AllByRecursion IsReported (flat t.nest)
        → IsTyped wider (instrumented_body site t.ty t.nest) [] (reverse t.ty.results)
    body_typed reported =
        typed_after wider (inserted_at_enter site t.ty.params)
        (InBlock (slice_get t.ty.results 0) (instrumented_nest site t.nest) end_nest) [] [] (reverse t.ty.results)
        (enter_runs site wider has_hooks t.ty.params low param_there)
        (block_type_good t.ty.results good.results, inner_typed reported, end_typed)

    func_typed : AllByRecursion IsReported (flat t.nest) → IsTypedFunc hooked hooked_func
    func_typed reported =
        record {
          ty = t.ty;
          nest = instrumented_body site t.ty t.nest;
          has_type = type_kept instrumented_keep_indices m digest func.ty t.ty t.has_type;
          is_body = record {
            nested = bodies_are_instrumented.nested site t.ty t.nest t.is_body.nested;
            written = refl;
          };
          typed = body_typed reported;
        }

    func_declared : IsDeclaredFunc m func → IsDeclaredFunc hooked hooked_func
    func_declared declared =
        let within = declared.type_there in
        let more = more_types in
        record {
          type_there = omega (arith, within, more);
          locals =
              All-from_recursion (λ run. IsTrue (is_number run.ty)) (with_added_locals func.locals)
              (numbers_added func.locals
              (recursion_from_All (λ run. IsTrue (is_number run.ty)) func.locals declared.locals));
        }

    made_is : instrumented_func m index func (type_at m func.ty) (nest_of func.body) ≡ hooked_func
    made_is =
        ap (λ ty. instrumented_func m index func ty (nest_of func.body)) t.has_type
        ∙ ap (instrumented_func m index func (Some t.ty)) (nest_of_body t.nest func.body t.is_body)

  -- ---- all functions

  func_reported : (func : Func) (t : IsTypedFunc m func) → AreCoreInstrs func.body → AllByRecursion HasWordOffset func.body
      → AllByRecursion IsReported (flat t.nest)
  func_reported func t core_body offsets =
      (both_parts IsReported (flat t.nest) (End ∷ [])
      (subst (AllByRecursion IsReported) (sym t.is_body.written) (reported_all func.body core_body offsets))).0

  all_typed : (index : ℕ) (funcs : List Func) → index + length funcs ≤ 2 ^ 32 → AllByRecursion (IsTypedFunc m) funcs
      → AllByRecursion (λ f. AreCoreInstrs f.body) funcs
      → AllByRecursion (λ f. AllByRecursion HasWordOffset f.body) funcs
      → AllByRecursion (IsTypedFunc hooked) (each_func m (instrumented_func m) index funcs)
  all_typed index [] few typed cores offsets = tt
  all_typed index (func ∷ funcs) few typed cores offsets =
      let low : FitsU32 index = omega (arith, few) in
      let fewer : index + 1 + length funcs ≤ 2 ^ 32 = omega (arith, few) in (
        subst (IsTypedFunc hooked) (sym (made_is index func typed.0 low))
            (func_typed index func typed.0 low (func_reported func typed.0 cores.0 offsets.0)),
        all_typed (index + 1) funcs fewer typed.1 cores.1 offsets.1,
      )

  all_declared : (index : ℕ) (funcs : List Func) → index + length funcs ≤ 2 ^ 32
      → AllByRecursion (IsTypedFunc m) funcs → AllByRecursion (IsDeclaredFunc m) funcs
      → AllByRecursion (IsDeclaredFunc hooked) (each_func m (instrumented_func m) index funcs)
  all_declared index [] few typed declared = tt
  all_declared index (func ∷ funcs) few typed declared =
      let low : FitsU32 index = omega (arith, few) in
      let fewer : index + 1 + length funcs ≤ 2 ^ 32 = omega (arith, few) in (
        subst (IsDeclaredFunc hooked) (sym (made_is index func typed.0 low))
            (func_declared index func typed.0 low declared.0),
        all_declared (index + 1) funcs fewer typed.1 declared.1,
      )

  few_funcs : imported_funcs m + length m.funcs ≤ 2 ^ 32
  few_funcs =
      let a = length-append (of_kind func_import m.imports) (map (λ (f : Func). f.ty) m.funcs) in
      let b = length-map m.funcs (λ (f : Func). f.ty) in
      let c = words.funcs in omega (arith, a, b, c)

  typed_each : AllByRecursion (IsTypedFunc m) m.funcs
  typed_each = recursion_from_All (IsTypedFunc m) m.funcs valid.bodies

  -- ---- imports

  own_import : (kind : ImportKind) → IsImport m kind → IsImport hooked kind
  own_import (import.Func ty) h = let more = more_types in omega (arith, h, more)
  own_import (import.Table limits) h = h
  own_import (import.Memory limits) h = h
  own_import (import.Global ty) h = h

  type_there : (place : ℕ) → place < 5 → length m.types + place < length hooked.types
  type_there place h = let more = more_types in omega (arith, h, more)

  hook_import_good : (kind : Hook) → IsImport hooked (hook_import m kind).kind
  hook_import_good hook.Arg = type_there 0 (omega arith)
  hook_import_good hook.Enter = type_there 1 (omega arith)
  hook_import_good hook.Leave = type_there 1 (omega arith)
  hook_import_good hook.Pre = type_there 1 (omega arith)
  hook_import_good hook.Post = type_there 1 (omega arith)
  hook_import_good hook.Ipre = type_there 1 (omega arith)
  hook_import_good hook.Ipost = type_there 2 (omega arith)
  hook_import_good hook.Load = type_there 3 (omega arith)
  hook_import_good hook.Store = type_there 4 (omega arith)
  hook_import_good hook.Size = type_there 2 (omega arith)
  hook_import_good hook.Grow = type_there 1 (omega arith)
  hook_import_good hook.Gget = type_there 0 (omega arith)
  hook_import_good hook.Gset = type_there 0 (omega arith)
  hook_import_good hook.Copy = type_there 3 (omega arith)
  hook_import_good hook.Fill = type_there 3 (omega arith)

  all_kinds : (P : Hook → Type 0) → ((kind : Hook) → P kind) → (kinds : List Hook) → AllByRecursion P kinds
  all_kinds P each [] = tt
  all_kinds P each (kind ∷ kinds) = (each kind, all_kinds P each kinds)

  imports_good : All (λ i. IsImport hooked i.kind) hooked.imports
  imports_good =
      All-append (λ i. IsImport hooked i.kind) m.imports (map (hook_import m) hooks)
      (All-weaker (λ i. IsImport m i.kind) (λ i. IsImport hooked i.kind) (λ i h. own_import i.kind h) m.imports
      valid.outside.imports)
      (All-map (λ (i : Import). IsImport hooked i.kind) (hook_import m) hooks
      (All-from_recursion (λ kind. IsImport hooked (hook_import m kind).kind) hooks
      (all_kinds (λ kind. IsImport hooked (hook_import m kind).kind) hook_import_good hooks)))

  -- ---- constants

  constant_kept : (i : Instr) → constant_type hooked i ≡ constant_type m i
  constant_kept (GlobalGet x) =
      ap (λ gs. option_and_then immutable_type (slice_get gs x)) (globals_kept instrumented_keep_indices m digest)
  constant_kept (Const v) = refl
  constant_kept i = refl

  constants : (ty : ValType) (body : List Instr) → IsConstant m ty body → IsConstant hooked ty body
  constants ty body = go (single body)
    where
      go : (o : Option Instr) → option_and_then (constant_type m) o ≡ Some ty
          → option_and_then (constant_type hooked) o ≡ Some ty
      go None h = h
      go (Some i) h = constant_kept i ∙ h

  -- ---- what has an index

  there : (kind : ExportKind) → IsThere m kind → IsThere hooked (renumbered_kind (imported_funcs m) kind)
  there (export.Func x) h = renumbered_there instrumented_keep_indices m digest x h
  there (export.Table x) h = subst (λ (ts : List Limits). x < length ts) (sym keeps.tables) h
  there (export.Memory x) h = subst (λ (ms : List Limits). x < length ms) (sym keeps.memories) h
  there (export.Global x) h = subst (λ (gs : List GlobalType). x < length gs) (sym keeps.globals) h

  exports_good : All (λ (e : Export). IsThere hooked e.kind) hooked.exports
  exports_good =
      All-map (λ (e : Export). IsThere hooked e.kind) (renumbered_export (imported_funcs m)) m.exports
      (All-weaker (λ (e : Export). IsThere m e.kind)
      (λ (e : Export). IsThere hooked (renumbered_kind (imported_funcs m) e.kind)) (λ e h. there e.kind h) m.exports
      valid.outside.exports)

  names_differ : AllPairs (λ (e later : Export). e.name ≢ later.name) hooked.exports
  names_differ i j d below within =
      let f = renumbered_export (imported_funcs m) in
      let long = length-map m.exports f in
      let last : j < length m.exports = omega (arith, within, long) in
      let first : i < length m.exports = omega (arith, below, last) in
      let a = ap (λ (e : Export). e.name) (get_or-map f m.exports i d d first) in
      let b = ap (λ (e : Export). e.name) (get_or-map f m.exports j d d last) in
      λ same. valid.outside.names_differ i j d below last (sym a ∙ same ∙ b)

  start_good : (start : Option ℕ) → IfSome start (IsStart m)
      → IfSome (option_map (renumber (imported_funcs m)) start) (IsStart hooked)
  start_good None h = tt
  start_good (Some f) h =
      record { ty = h.ty; has_type = keeps.type_of f h.ty h.has_type; params = h.params; results = h.results }

  funcs_there : (funcs : List ℕ) → All (λ f. IsThere m (export.Func f)) funcs
      → All (λ f. IsThere hooked (export.Func f)) (map (renumber (imported_funcs m)) funcs)
  funcs_there funcs h =
      All-map (λ f. IsThere hooked (export.Func f)) (renumber (imported_funcs m)) funcs
      (All-weaker (λ f. IsThere m (export.Func f))
      (λ f. IsThere hooked (export.Func (renumber (imported_funcs m) f)))
      (renumbered_there instrumented_keep_indices m digest) funcs h)

  elem_good : (e : ElemSeg) → IsElem m e → IsElem hooked (renumbered_elem (imported_funcs m) e)
  elem_good (Active table offset funcs) h =
      (there (export.Table table) h.0, constants I32 offset h.1, funcs_there funcs h.2)
  elem_good (Declared funcs) h = funcs_there funcs h

  outside_good : IsValidOutside hooked
  outside_good =
      record {
        types = All-append IsFuncType m.types hook_types valid.outside.types hook_types_good;
        imports = imports_good;
        funcs =
            All-from_recursion (IsDeclaredFunc hooked) hooked.funcs
            (all_declared (imported_funcs m) m.funcs few_funcs typed_each
            (recursion_from_All (IsDeclaredFunc m) m.funcs valid.outside.funcs));
        tables = valid.outside.tables;
        memories = valid.outside.memories;
        globals =
            All-weaker (IsGlobal m) (IsGlobal hooked)
            (λ g h. record { number = h.number; init = constants g.ty.ty g.init h.init }) m.globals
            valid.outside.globals;
        exports = exports_good;
        names_differ = names_differ;
        start = start_good m.start valid.outside.start;
        elems =
            All-map (IsElem hooked) (renumbered_elem (imported_funcs m)) m.elems
            (All-weaker (IsElem m) (λ e. IsElem hooked (renumbered_elem (imported_funcs m) e)) elem_good m.elems
            valid.outside.elems);
        datas =
            All-weaker (IsData m) (IsData hooked)
            (λ (d : DataSeg) h. record {
              memory = there (export.Memory d.memory) h.memory;
              offset = constants I32 d.offset h.offset;
            }) m.datas valid.outside.datas;
        one_table = subst (λ (ts : List Limits). length ts ≤ 1) (sym keeps.tables) valid.outside.one_table;
        one_memory = subst (λ (ms : List Limits). length ms ≤ 1) (sym keeps.memories) valid.outside.one_memory;
      }

  pub hooked_valid : IsValid hooked
  hooked_valid =
      record {
        outside = outside_good;
        bodies =
            All-from_recursion (IsTypedFunc hooked) hooked.funcs
            (all_typed (imported_funcs m) m.funcs few_funcs typed_each core.funcs words.offsets);
      }

pub instrumented_are_valid : BodiesAreInstrumented → InstrumentedKeepIndices → InstrumentedAreValid
instrumented_are_valid bodies keep m digest valid core words = hooked_valid bodies keep m digest valid core words
