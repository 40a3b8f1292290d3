-- A guarded module is valid but for the bodies of its functions.
use Rattle.std.proofs.Common.{◌≡◌, ℕ, zero, suc, ◌+◌, ◌<◌, ◌≤◌, List, [], ◌∷◌, ◌++◌, length, map, Option, Some, None, Bool, true, false, option_and_then, refl, sym, ap, subst, arith, length-append}
use Rattle.std.specs.Prelude.{All, IsTrue, IfSome, cond, take, drop, ◌*◌, ◌≢◌}
use Rattle.std.specs.List.{AllByRecursion, AllPairs, enumerate_from, range_with_len, slice_index_or}
use Rattle.std.proofs.lemmas.List.Elements.{All-append, All-cons, All-drop, All-from_recursion, All-map, All-nil, All-take, All-weaker, recursion_from_All}
use Rattle.base.proofs.Lists.{all_at, joined_all}
use Rattle.wasm_syntax.specs.declared.values.ValType.{ValType}
use Rattle.wasm_syntax.specs.declared.values.ValType.TheVariants.{I32, I64}
use Rattle.wasm_syntax.specs.declared.signatures.FuncType.{FuncType}
use Rattle.wasm_syntax.specs.declared.instructions.Instr.{Instr}
use Rattle.wasm_syntax.specs.declared.instructions.Instr.TheVariants.{Const, GlobalGet}
use Rattle.wasm_syntax.specs.declared.modules.DataSeg.{DataSeg}
use Rattle.wasm_syntax.specs.declared.modules.ElemSeg.{ElemSeg}
use Rattle.wasm_syntax.specs.declared.modules.ElemSeg.TheVariants.{Active, Declared}
use Rattle.wasm_syntax.specs.declared.modules.Export.{Export}
use Rattle.wasm_syntax.specs.declared.modules.Func.{Func}
use Rattle.wasm_syntax.specs.declared.modules.Global.{Global}
use Rattle.wasm_syntax.specs.declared.modules.Import.{Import}
use Rattle.wasm_syntax.specs.declared.modules.Module.{Module}
use Rattle.wasm_syntax.specs.declared.modules.Run.{Run}
use Rattle.wasm_syntax.specs.Index.{func_indices, all_globals}
use Rattle.wasm_syntax.specs.Typing.{is_number}
use Rattle.wasm_syntax.specs.Validity.{IsConstant, IsData, IsDeclaredFunc, IsElem, IsFuncType, IsGlobal, IsImport, IsStart, IsThere, IsValid, IsValidOutside, constant_type, single}
use Rattle.history_spec.specs.Projection.{Layout}
use Rattle.replay_module_spec.specs.declared.groups.TheConstants.{GROUP_CALLS}
use Rattle.replay_module_spec.specs.Functions.{group_count, one_i32}
use Rattle.replay_module_laws.proofs.Serving.{number_typed}
use Rattle.guarded_module_spec.specs.declared.numbers.Numbers.{Numbers}
use Rattle.guarded_module_spec.specs.Numbers.{numbers_of}
use Rattle.guarded_module_spec.specs.Fronts.{func_front, import_front, one_local}
use Rattle.guarded_module_spec.specs.Functions.{digest_funcs, group_func}
use Rattle.guarded_module_spec.specs.GuardedModules.{appended_funcs, func_fronts, funcs_in_places, guarded_module, import_fronts, is_called, original_funcs, outside_funcs, own_exports, own_funcs, own_globals, own_types, redirected, type_in}
use Rattle.guarded_module_spec.specs.Forms.{IsGuardable}
use Rattle.guarded_module_laws.specs.Laws.{AreFewWords}
use Rattle.guarded_module_laws.proofs.Contexts.{alone, globals_are, globals_long, more_funcs, start_there, type_is}

abbrev IsNumber : ValType → Type 0
IsNumber t = IsTrue (is_number t)

abbrev IsNumberRun : Run → Type 0
IsNumberRun run = IsTrue (is_number run.ty)

func_type_valid : (params results : List ValType) → AllByRecursion IsNumber params → AllByRecursion IsNumber results
    → length results ≤ 1 → IsFuncType (record { params = params; results = results })
func_type_valid params results numbers given one =
    record {
      params = All-from_recursion IsNumber params numbers;
      results = All-from_recursion IsNumber results given;
      one_result = one;
    }

own_types_valid : All IsFuncType own_types
own_types_valid =
    All-from_recursion IsFuncType own_types (
      func_type_valid [] [] tt tt (omega arith),
      (
        func_type_valid (I64 ∷ []) [] (refl, tt) tt (omega arith),
        (
          func_type_valid [] (I64 ∷ []) tt (refl, tt) (omega arith),
          (func_type_valid (I32 ∷ []) (I64 ∷ []) (refl, tt) (refl, tt) (omega arith), tt),
        ),
      ),
    )

-- the first numbers of equal names
first_same : (a b : List ℕ) → a ≡ b → slice_index_or a 0 0 ≡ slice_index_or b 0 0
first_same a b e = ap (λ (l : List ℕ). slice_index_or l 0 0) e

names_differ : (n : Numbers) → AllPairs (λ (e later : Export). e.name ≢ later.name) (own_exports n)
names_differ n zero zero d below there = absurd (omega (arith, below))
names_differ n zero (suc zero) d below there = λ e. let first = first_same _ _ e in omega (arith, first)
names_differ n zero (suc (suc zero)) d below there = λ e. let first = first_same _ _ e in omega (arith, first)
names_differ n zero (suc (suc (suc zero))) d below there = λ e. let first = first_same _ _ e in omega (arith, first)
names_differ n (suc zero) zero d below there = absurd (omega (arith, below))
names_differ n (suc zero) (suc zero) d below there = absurd (omega (arith, below))
names_differ n (suc zero) (suc (suc zero)) d below there = λ e. let first = first_same _ _ e in omega (arith, first)
names_differ n (suc zero) (suc (suc (suc zero))) d below there = λ e. let first = first_same _ _ e in omega (arith, first)
names_differ n (suc (suc zero)) zero d below there = absurd (omega (arith, below))
names_differ n (suc (suc zero)) (suc zero) d below there = absurd (omega (arith, below))
names_differ n (suc (suc zero)) (suc (suc zero)) d below there = absurd (omega (arith, below))
names_differ n (suc (suc zero)) (suc (suc (suc zero))) d below there = λ e. let first = first_same _ _ e in omega (arith, first)
names_differ n (suc (suc (suc i))) j d below there = absurd (omega (arith, below, there))
names_differ n i (suc (suc (suc (suc j)))) d below there = absurd (omega (arith, there))

module _ (m : Module) (layout : Layout) (entry : ℕ) (words : List ℕ) (valid : IsValid m)
    (guardable : IsGuardable m layout entry) (few : AreFewWords words) where
  abbrev n : Numbers
  n = numbers_of m layout

  abbrev guarded : Module
  guarded = guarded_module m layout entry words

  types_long : length guarded.types ≡ length m.types + 4
  types_long = length-append m.types own_types

  -- ---- constant expressions

  constant_kept : (ty : ValType) (body : List Instr) → IsConstant m ty body → IsConstant guarded ty body
  constant_kept ty body h = by (single body) h
    where
      by : (o : Option Instr) → option_and_then (constant_type m) o ≡ Some ty
          → option_and_then (constant_type guarded) o ≡ Some ty
      by None h = cc
      by (Some (GlobalGet x)) h = h
      by (Some (Const v)) h = h
      by (Some instr) h = h

  own_globals_valid : All (IsGlobal guarded) (own_globals (length words))
  own_globals_valid =
      let small = few.few in
      All-from_recursion (IsGlobal guarded) (own_globals (length words)) (
        record { number = refl; init = refl },
        (
          record { number = refl; init = refl },
          (
            record {
              number = refl;
              init = ap (λ (b : Bool). cond b (Some I32) None) (number_typed (length words) small);
            },
            tt,
          ),
        ),
      )

  -- ---- functions but for their bodies

  own_declared : (f : Func) → IsDeclaredFunc m f → IsDeclaredFunc guarded f
  own_declared f is =
      let long = types_long in
      let here = is.type_there in record { type_there = omega (arith, long, here); locals = is.locals }

  redirected_declared : (f : Func) → IsDeclaredFunc m f → IsDeclaredFunc guarded (redirected n f)
  redirected_declared f is =
      let long = types_long in
      let here = is.type_there in record { type_there = omega (arith, long, here); locals = is.locals }

  import_fronts_declared : (from : ℕ) (funcs : List Func) → AllByRecursion (IsDeclaredFunc m) funcs
      → AllByRecursion (IsDeclaredFunc guarded)
      (map (λ (e : ℕ × Func). import_front n (type_in m.types e.1.ty) e.0 e.1.ty) (enumerate_from from funcs))
  import_fronts_declared from [] are = tt
  import_fronts_declared from (f ∷ funcs) are =
      let long = types_long in
      let here = are.0.type_there in (
        record { type_there = omega (arith, long, here); locals = All-nil IsNumberRun },
        import_fronts_declared (from + 1) funcs are.1,
      )

  local_runs : (types : List ValType) → AllByRecursion IsNumber types → AllByRecursion IsNumberRun (map one_local types)
  local_runs [] numbers = tt
  local_runs (ty ∷ types) numbers = (numbers.0, local_runs types numbers.1)

  func_front_declared : (called : Bool) (func ty : ℕ) → ty < length m.types
      → IsDeclaredFunc guarded (func_front called n (type_in m.types ty) func ty)
  func_front_declared false func ty there =
      let long = types_long in record { type_there = omega (arith, long, there); locals = All-nil IsNumberRun }
  func_front_declared true func ty there =
      let long = types_long in
      let type : FuncType = type_in m.types ty in
      let type_valid =
      all_at IsFuncType m.types ty type valid.outside.types (type_is m layout entry words guardable ty there) in
      record {
        type_there = omega (arith, long, there);
        locals =
            All-from_recursion IsNumberRun (map one_local type.results)
            (local_runs type.results (recursion_from_All IsNumber type.results type_valid.results));
      }

  func_fronts_declared : (outside : List Func) (from : ℕ) (funcs : List Func) → AllByRecursion (IsDeclaredFunc m) funcs
      → AllByRecursion (IsDeclaredFunc guarded) (func_fronts m.types n outside from funcs)
  func_fronts_declared outside from [] are = tt
  func_fronts_declared outside from (f ∷ funcs) are = (
    func_front_declared (is_called from outside) from f.ty are.0.type_there,
    func_fronts_declared outside (from + 1) funcs are.1,
  )

  one_run : (run : Run) → IsNumberRun run → All IsNumberRun (run ∷ [])
  one_run run number = All-cons IsNumberRun run [] number (All-nil IsNumberRun)

  digests_declared : (digests : ℕ) → AllByRecursion (IsDeclaredFunc guarded) (digest_funcs digests n)
  digests_declared zero = tt
  digests_declared (suc more) =
      let long = types_long in (
        record {
          type_there = omega (arith, long);
          locals =
              All-cons IsNumberRun (one_local I32) (one_local I64 ∷ []) refl (one_run (one_local I64) refl);
        },
        tt,
      )

  groups_declared : (part : ℕ → List ℕ) (numbers : List ℕ)
      → AllByRecursion (IsDeclaredFunc guarded) (map (λ number. group_func n (part number)) numbers)
  groups_declared part [] = tt
  groups_declared part (number ∷ numbers) =
      let long = types_long in (
        record { type_there = omega (arith, long); locals = All-nil IsNumberRun },
        groups_declared part numbers,
      )

  own_funcs_declared : AllByRecursion (IsDeclaredFunc guarded) (own_funcs n entry words)
  own_funcs_declared =
      let long = types_long in (
        record { type_there = omega (arith, long); locals = All-nil IsNumberRun },
        joined_all (IsDeclaredFunc guarded) (digest_funcs n.digests n) _ (digests_declared n.digests) (
          record { type_there = omega (arith, long); locals = All-nil IsNumberRun },
          (
            record { type_there = omega (arith, long); locals = one_run one_i32 refl },
            groups_declared (λ number. take GROUP_CALLS (drop (GROUP_CALLS * number) words))
                (range_with_len 0 (group_count (length words))),
          ),
        ),
      )

  funcs_declared : All (IsDeclaredFunc guarded) guarded.funcs
  funcs_declared =
      let in_places = funcs_in_places layout m.funcs in
      let originals = original_funcs layout m.funcs in
      let appended = appended_funcs layout m.funcs in
      let outside = outside_funcs layout m.funcs in
      let places_are = All-take (IsDeclaredFunc m) layout.imports m.funcs valid.outside.funcs in
      let originals_are =
      All-take (IsDeclaredFunc m) layout.defined (drop layout.imports m.funcs)
      (All-drop (IsDeclaredFunc m) layout.imports m.funcs valid.outside.funcs) in
      let appended_are = All-drop (IsDeclaredFunc m) (layout.imports + layout.defined) m.funcs valid.outside.funcs in
      All-append (IsDeclaredFunc guarded) (import_fronts m.types n in_places) _
      (All-from_recursion (IsDeclaredFunc guarded) (import_fronts m.types n in_places)
      (import_fronts_declared 0 in_places (recursion_from_All (IsDeclaredFunc m) in_places places_are)))
      (All-append (IsDeclaredFunc guarded) originals _
      (All-weaker (IsDeclaredFunc m) (IsDeclaredFunc guarded) own_declared originals originals_are)
      (All-append (IsDeclaredFunc guarded) (map (redirected n) appended) _
      (All-map (IsDeclaredFunc guarded) (redirected n) appended
      (All-weaker (IsDeclaredFunc m) (λ f. IsDeclaredFunc guarded (redirected n f)) redirected_declared appended
      appended_are))
      (All-append (IsDeclaredFunc guarded) (map (redirected n) in_places) _
      (All-map (IsDeclaredFunc guarded) (redirected n) in_places
      (All-weaker (IsDeclaredFunc m) (λ f. IsDeclaredFunc guarded (redirected n f)) redirected_declared in_places
      places_are))
      (All-from_recursion (IsDeclaredFunc guarded)
      (func_fronts m.types n outside layout.imports originals ++ own_funcs n entry words)
      (joined_all (IsDeclaredFunc guarded) (func_fronts m.types n outside layout.imports originals)
      (own_funcs n entry words)
      (func_fronts_declared outside layout.imports originals
      (recursion_from_All (IsDeclaredFunc m) originals originals_are))
      own_funcs_declared)))))

  -- ---- exports and segments

  exports_there : All (λ (e : Export). IsThere guarded e.kind) (own_exports n)
  exports_there =
      let globals = ap length (globals_are m layout entry words guardable) in
      let own = length-append (all_globals m) (map (λ (g : Global). g.ty) (own_globals (length words))) in
      let first = globals_long m layout entry words guardable in
      All-from_recursion (λ (e : Export). IsThere guarded e.kind) (own_exports n) (
        start_there m layout entry words guardable,
        (
          omega (arith, globals, own, first),
          (omega (arith, globals, own, first), (omega (arith, globals, own, first), tt)),
        ),
      )

  funcs_there : (funcs : List ℕ) → All (λ f. f < length (func_indices m)) funcs
      → All (λ f. f < length (func_indices guarded)) funcs
  funcs_there funcs are k d below =
      let more = more_funcs m layout entry words guardable in
      let there = are k d below in omega (arith, more, there)

  elem_kept : (e : ElemSeg) → IsElem m e → IsElem guarded e
  elem_kept (Active table offset funcs) h = (h.0, constant_kept I32 offset h.1, funcs_there funcs h.2)
  elem_kept (Declared funcs) h = funcs_there funcs h

  pub valid_outside : IsValidOutside guarded
  valid_outside =
      record {
        types = All-append IsFuncType m.types own_types valid.outside.types own_types_valid;
        imports =
            subst (λ (l : List Import). All (λ (x : Import). IsImport guarded x.kind) l)
            (sym (alone m layout entry words guardable)) (All-nil (λ (x : Import). IsImport guarded x.kind));
        funcs = funcs_declared;
        tables = valid.outside.tables;
        memories = valid.outside.memories;
        globals =
            All-append (IsGlobal guarded) m.globals (own_globals (length words))
            (All-weaker (IsGlobal m) (IsGlobal guarded)
            (λ g h. record { number = h.number; init = constant_kept g.ty.ty g.init h.init }) m.globals
            valid.outside.globals)
            own_globals_valid;
        exports = exports_there;
        names_differ = names_differ n;
        start = subst (λ (o : Option ℕ). IfSome o (IsStart guarded)) (sym guardable.start) tt;
        elems = All-weaker (IsElem m) (IsElem guarded) elem_kept m.elems valid.outside.elems;
        datas =
            All-weaker (IsData m) (IsData guarded)
            (λ (d : DataSeg) h. record { memory = h.memory; offset = constant_kept I32 d.offset h.offset }) m.datas
            valid.outside.datas;
        one_table = valid.outside.one_table;
        one_memory = valid.outside.one_memory;
      }
