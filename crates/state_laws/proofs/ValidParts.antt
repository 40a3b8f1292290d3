-- The parts of the module that begins in a state are valid: its globals, its segments, and the bodies of its functions.
use Rattle.std.proofs.Common.{◌≡◌, ℕ, ◌^◌, ◌<◌, ◌≤◌, List, [], ◌∷◌, ◌++◌, length, take, drop, map, Some, None, Bool, true, false, cond, slice_get, option_and_then, refl, sym, ap, ◌∙◌, subst, arith}
use Rattle.std.specs.Prelude.{All, reverse}
use Rattle.std.specs.List.{AllByRecursion}
use Rattle.std.proofs.lemmas.List.{drop_at, length-map, map-append, take_at}
use Rattle.std.proofs.lemmas.List.Elements.{All-from_recursion}
use Rattle.wasm_syntax.specs.declared.limits.TheConstants.{MAX_ENTRIES}
use Rattle.wasm_syntax.specs.declared.values.Val.{Val}
use Rattle.wasm_syntax.specs.declared.values.ValType.{ValType}
use Rattle.wasm_syntax.specs.declared.values.ValType.TheVariants.{I32}
use Rattle.wasm_syntax.specs.declared.signatures.FuncType.{FuncType}
use Rattle.wasm_syntax.specs.declared.signatures.GlobalType.{GlobalType}
use Rattle.wasm_syntax.specs.declared.instructions.Instr.{Instr}
use Rattle.wasm_syntax.specs.declared.instructions.Instr.TheVariants.{Const, End, GlobalGet}
use Rattle.wasm_syntax.specs.declared.modules.DataSeg.{DataSeg}
use Rattle.wasm_syntax.specs.declared.modules.ExportKind.{ExportKind}
use Rattle.wasm_syntax.specs.declared.modules.ExportKind.TheVariants as export
use Rattle.wasm_syntax.specs.declared.modules.Func.{Func}
use Rattle.wasm_syntax.specs.declared.modules.Global.{Global}
use Rattle.wasm_syntax.specs.declared.modules.ImportKind.{ImportKind}
use Rattle.wasm_syntax.specs.declared.modules.ImportKind.TheVariants as import
use Rattle.wasm_syntax.specs.declared.modules.Module.{Module}
use Rattle.wasm_syntax.specs.Encoding.Forms.{AreCoreInstrs, IsCoreInstr, IsCoreSeg}
use Rattle.wasm_syntax.specs.Index.{all_memories, all_tables, imported_globals}
use Rattle.wasm_syntax.specs.Nest.{flat}
use Rattle.wasm_syntax.specs.Validity.{IsConstant, IsData, IsDeclaredFunc, IsElem, IsGlobal, IsImport, IsThere, IsTypedFunc, body_context, constant_type, single}
use Rattle.wasm_syntax.proofs.JoinedLists.{both_parts}
use Rattle.rest_spec.specs.KnownStates.{KnownState}
use Rattle.rest_spec.specs.StateModules.{state_global, state_globals, state_module_of}
use Rattle.rest_spec.specs.StateSegments.{FuncRun, offset_at, run_segment}
use Rattle.type_safety.specs.Stores.{func_count, global_types}
use Rattle.type_safety.specs.Values.{AreValues, IsValue}
use Rattle.type_safety.proofs.Values.{length_values, split_values}
use Rattle.type_safety.proofs.Wider.{IsKnown}
use Rattle.replay_module_laws.proofs.Originals.{Extends, typed_known}
use Rattle.replay_module_laws.proofs.Outside.{number_constant, supplied_kept}
use Rattle.replay_module_laws.proofs.TypedOriginals.{there_alike}
use Rattle.state_laws.proofs.CodeParts.{globals_same, memories_many, tables_many}
use Rattle.state_laws.proofs.ValidSegments.{IsByte, IsStateBlock, IsStateRun}

-- ---- values of globals

abbrev global_type : GlobalType → ValType
global_type g = g.ty

abbrev own_type : Global → ValType
own_type g = g.ty.ty

own_types : (globals : List Global) → map global_type (map (λ (g : Global). g.ty) globals) ≡ map own_type globals
own_types [] = refl
own_types (g ∷ globals) = ap (λ types. g.ty.ty ∷ types) (own_types globals)

-- the values of imported globals, which come first, and of defined ones
pub record AreParted (m : Module) (values : List Val) : Type 0 where
  pub imported : AreValues (func_count m) (map global_type (imported_globals m)) (take (length (imported_globals m)) values)
  pub own : AreValues (func_count m) (map own_type m.globals) (drop (length (imported_globals m)) values)

pub parted : (m : Module) (values : List Val) → AreValues (func_count m) (global_types m) values → AreParted m values
parted m values are =
    let types = map-append global_type (imported_globals m) (map (λ (g : Global). g.ty) m.globals)
    ∙ ap (λ l. map global_type (imported_globals m) ++ l) (own_types m.globals) in
    let s = split_values (func_count m) (map global_type (imported_globals m)) (map own_type m.globals) values
    (subst (λ l. AreValues (func_count m) l values) types are) in
    let count : length s.top ≡ length (imported_globals m) =
    length_values (func_count m) (map global_type (imported_globals m)) s.top s.of_top
    ∙ length-map (imported_globals m) global_type in
    record {
      imported =
          subst (AreValues (func_count m) (map global_type (imported_globals m)))
          (sym (ap (take (length (imported_globals m))) s.parts
          ∙ take_at s.top s.rest (length (imported_globals m)) count))
          s.of_top;
      own =
          subst (AreValues (func_count m) (map own_type m.globals))
          (sym (ap (drop (length (imported_globals m))) s.parts
          ∙ drop_at s.top s.rest (length (imported_globals m)) count))
          s.of_rest;
    }

-- ---- parts

module _ (m : Module) (state : KnownState) where
  abbrev other : Module
  other = state_module_of m state

  constant_same : (i : Instr) → constant_type other i ≡ constant_type m i
  constant_same (GlobalGet x) = refl
  constant_same i = refl

  constant_kept : (ty : ValType) (body : List Instr) → IsConstant m ty body → IsConstant other ty body
  constant_kept ty body is = (λ j. option_and_then (λ i. constant_same i j) (single body)) ∙ is

  pub import_kept : (kind : ImportKind) → IsImport m kind → IsImport other kind
  import_kept (import.Func ty) is = is
  import_kept (import.Table limits) is = is
  import_kept (import.Memory limits) is = is
  import_kept (import.Global ty) is = is

  pub kind_kept : (kind : ExportKind) → IsThere m kind → IsThere other kind
  kind_kept (export.Func x) there = there
  kind_kept (export.Table x) there = subst (λ many. x < many) (tables_many m state) there
  kind_kept (export.Memory x) there = subst (λ many. x < many) (memories_many m state) there
  kind_kept (export.Global x) there = subst (λ types. x < length types) (sym (globals_same m state)) there

  pub declared_kept : (f : Func) → IsDeclaredFunc m f → IsDeclaredFunc other f
  declared_kept f is = record { type_there = is.type_there; locals = is.locals }

  -- ---- globals

  global_valid : (funcs : ℕ) (g : Global) (value : Val) → IsGlobal m g → IsValue funcs g.ty.ty value
      → IsGlobal other (state_global g value)
  global_valid funcs g value is typed = by g.ty.mutable
    where
      by : (b : Bool) → IsGlobal other (cond b (record g { init = Const value ∷ End ∷ [] }) g)
      by true = (supplied_kept other funcs (g.ty ∷ []) (value ∷ []) (typed, tt) (is.number, tt)).0
      by false = record { number = is.number; init = constant_kept g.ty.ty g.init is.init }

  pub globals_valid : (funcs : ℕ) (globals : List Global) (values : List Val) → AllByRecursion (IsGlobal m) globals
      → AreValues funcs (map own_type globals) values → AllByRecursion (IsGlobal other) (state_globals globals values)
  globals_valid funcs [] values valid typed = tt
  globals_valid funcs (g ∷ globals) [] valid typed = absurd typed
  globals_valid funcs (g ∷ globals) (value ∷ values) valid typed =
      (global_valid funcs g value valid.0 typed.0, globals_valid funcs globals values valid.1 typed.1)

  -- ---- segments

  place_constant : (place : ℕ) → place < 2 ^ 32 → IsConstant other I32 (offset_at place)
  place_constant place low = ap (λ b. cond b (Some I32) None) (number_constant I32 place 0 refl low)

  pub runs_valid : (size : ℕ) → size ≤ MAX_ENTRIES → (0 < size → 0 < length (all_tables m)) → (runs : List FuncRun)
      → AllByRecursion (IsStateRun (func_count m) size) runs → AllByRecursion (IsElem other) (map run_segment runs)
  runs_valid size small there [] all = tt
  runs_valid size small there (run ∷ runs) all =
      let place = all.0.place in (
        (
          subst (λ many. 0 < many) (tables_many m state) (there (omega (arith, place))),
          place_constant run.index (omega (arith, place, small)),
          All-from_recursion (λ f. f < func_count m) run.funcs all.0.there,
        ),
        runs_valid size small there runs all.1,
      )

  block_valid : (most limit : ℕ) → limit < 2 ^ 32 → (0 < limit → 0 < length (all_memories m)) → (segment : DataSeg)
      → IsStateBlock most limit segment → IsData other segment
  block_valid most limit small there segment is =
      let low = is.low in
      record {
        memory =
            subst (λ x. x < length (all_memories other)) (sym is.memory)
            (subst (λ many. 0 < many) (memories_many m state) (there is.some));
        offset = subst (IsConstant other I32) (sym is.offset) (place_constant is.place (omega (arith, low, small)));
      }

  pub blocks_valid : (most limit : ℕ) → limit < 2 ^ 32 → (0 < limit → 0 < length (all_memories m))
      → (segments : List DataSeg) → AllByRecursion (IsStateBlock most limit) segments
      → AllByRecursion (IsData other) segments
  blocks_valid most limit small there [] all = tt
  blocks_valid most limit small there (segment ∷ segments) all =
      (block_valid most limit small there segment all.0, blocks_valid most limit small there segments all.1)

  -- ---- bodies

  extends : (ty : FuncType) (f : Func) → Extends (body_context m ty f) (body_context other ty f)
  extends ty f =
      record {
        types = λ t found h. h;
        funcs = λ func found h. h;
        tables = λ x. there_alike (all_tables m) (all_tables other) x (tables_many m state);
        memory = there_alike (all_memories m) (all_memories other) 0 (memories_many m state);
        globals = λ x g h. ap (λ types. slice_get types x) (globals_same m state) ∙ h;
        locals = λ x t h. h;
        labels = λ l x h. h;
        results = refl;
      }

  -- instructions of the form Core refer to no function
  known : (ty : FuncType) (f : Func) (code : List Instr) → AreCoreInstrs code
      → AllByRecursion (IsKnown (body_context m ty f) (body_context other ty f)) code
  known ty f [] core = tt
  known ty f (i ∷ code) core =
      ((λ func is declared. absurd (subst IsCoreInstr is core.0)), known ty f code core.1)

  typed_kept : (f : Func) → AreCoreInstrs f.body → IsTypedFunc m f → IsTypedFunc other f
  typed_kept f core t =
      let parts = both_parts IsCoreInstr (flat t.nest) (End ∷ []) (subst AreCoreInstrs (sym t.is_body.written) core) in
      record {
        ty = t.ty;
        nest = t.nest;
        has_type = t.has_type;
        is_body = t.is_body;
        typed =
            typed_known t.nest (body_context m t.ty f) (body_context other t.ty f) [] (reverse t.ty.results)
            (extends t.ty f) (known t.ty f (flat t.nest) parts.0) t.typed;
      }

  pub bodies_typed : (funcs : List Func) → AllByRecursion (λ f. AreCoreInstrs f.body) funcs
      → AllByRecursion (IsTypedFunc m) funcs → AllByRecursion (IsTypedFunc other) funcs
  bodies_typed [] core typed = tt
  bodies_typed (f ∷ funcs) core typed = (typed_kept f core.0 typed.0, bodies_typed funcs core.1 typed.1)

-- ---- the form Core

pub globals_core : (globals : List Global) (values : List Val) → AllByRecursion (λ g. AreCoreInstrs g.init) globals
    → AllByRecursion (λ g. AreCoreInstrs g.init) (state_globals globals values)
globals_core [] values core = tt
globals_core (g ∷ globals) [] core = core
globals_core (g ∷ globals) (value ∷ values) core = (by g.ty.mutable, globals_core globals values core.1)
  where
    by : (b : Bool) → AreCoreInstrs (cond b (record g { init = Const value ∷ End ∷ [] }) g).init
    by true = (tt, (tt, tt))
    by false = core.0

pub runs_core : (runs : List FuncRun) → AllByRecursion IsCoreSeg (map run_segment runs)
runs_core [] = tt
runs_core (run ∷ runs) = ((tt, (tt, tt)), runs_core runs)

pub blocks_core : (most limit : ℕ) (segments : List DataSeg) → AllByRecursion (IsStateBlock most limit) segments
    → AllByRecursion (λ d. AreCoreInstrs d.offset) segments
blocks_core most limit [] all = tt
blocks_core most limit (segment ∷ segments) all =
    (subst AreCoreInstrs (sym all.0.offset) (tt, (tt, tt)), blocks_core most limit segments all.1)

pub blocks_bytes : (most limit : ℕ) (segments : List DataSeg) → AllByRecursion (IsStateBlock most limit) segments
    → AllByRecursion (λ segment. All IsByte segment.bytes) segments
blocks_bytes most limit [] all = tt
blocks_bytes most limit (segment ∷ segments) all =
    (All-from_recursion IsByte segment.bytes all.0.bytes, blocks_bytes most limit segments all.1)
