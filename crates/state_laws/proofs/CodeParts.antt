-- The module that begins in a state has the code of the original, and the same generated parts.
use Rattle.std.proofs.Common.{◌≡◌, ℕ, suc, ◌+◌, ◌*◌, List, [], ◌∷◌, ◌++◌, length, map, Option, Some, None, Bool, true, false, cond, ◌&&◌, nat_eq, nat_le, nat_lt, slice_get, option_and_then, refl, sym, ap, ◌∙◌}
use Rattle.std.specs.Prelude.{drop, replicate}
use Rattle.std.specs.Option.{option_map_or, option_to_list}
use Rattle.std.specs.List.{list_all}
use Rattle.wasm_syntax.specs.declared.limits.TheConstants.{MAX_ENTRIES, MAX_PAGES, PAGE_SIZE}
use Rattle.wasm_syntax.specs.declared.values.Val.{Val}
use Rattle.wasm_syntax.specs.declared.signatures.GlobalType.{GlobalType}
use Rattle.wasm_syntax.specs.declared.signatures.Limits.{Limits}
use Rattle.wasm_syntax.specs.declared.instructions.Instr.{Instr}
use Rattle.wasm_syntax.specs.declared.instructions.Instr.TheVariants.{Call as CallFunc, Const, End as EndInstr, LocalGet, Numeric}
use Rattle.wasm_syntax.specs.declared.modules.Global.{Global}
use Rattle.wasm_syntax.specs.declared.modules.Module.{Module}
use Rattle.wasm_syntax.specs.Index.{all_globals, all_memories, all_tables, func_indices, func_type, imported_funcs, imported_globals, memory_import, of_kind, table_import, type_at}
use Rattle.trace_model.specs.declared.tapes.Effect.{Effect}
use Rattle.trace_model.specs.declared.tapes.Effect.TheVariants.{Grow, Table, Bytes, Entry, Global as GlobalEffect}
use Rattle.trace_model.specs.declared.tapes.Origin.{Origin}
use Rattle.trace_model.specs.declared.tapes.Origin.TheVariants.{Begin, Import, Back}
use Rattle.trace_model.specs.declared.tapes.Next.{Next}
use Rattle.trace_model.specs.declared.tapes.Next.TheVariants.{Call, Return, End, Trap}
use Rattle.trace_model.specs.declared.tapes.Segment.{Segment}
use Rattle.trace_model.specs.declared.tapes.Tape.{Tape}
use Rattle.trace_model.specs.Fitting.{came, effect_fits, effects_fit, first_unfit, fitting_step, gives_values, grows_within, left, names_function, takes_value, takes_values, types_of, unfit_from}
use Rattle.trace_model.specs.Effects.{are_ordered}
use Rattle.replay_module_spec.specs.declared.plans.Plan.{Plan}
use Rattle.base.specs.declared.opcodes.TheConstants.{I32_REM_U}
use Rattle.wasm_syntax.specs.Nest.{Empty}
use Rattle.replay_module_spec.specs.declared.groups.TheConstants.{GROUP_CALLS}
use Rattle.replay_module_spec.specs.Effects.{i32_const}
use Rattle.replay_module_spec.specs.Dispatch.{body_of, dispatch, sequence}
use Rattle.replay_module_spec.specs.Segments.{drops, effects_code, next_code, segments_code}
use Rattle.replay_module_spec.specs.Functions.{appended_types, group_count, group_func, group_funcs, groups, import_func, import_funcs, start_func}
use Rattle.replay_module_spec.specs.Fragments.{counter, fragment_of, helper_funcs, import_bodies, import_types, referred_once, start_index}
use Rattle.replay_module_laws.specs.Standing.{KeepsOriginals}
use Rattle.rest_spec.specs.KnownStates.{KnownState}
use Rattle.rest_spec.specs.StateModules.{state_global, state_globals, state_module_of, state_pages, with_min}
use Rattle.state_laws.specs.Code.{StateModulesHaveCode}
use Rattle.state_laws.proofs.ValidSizes.{sized_many}

-- ---- parts

abbrev type_of : Global → GlobalType
type_of global = global.ty

type_kept : (global : Global) (value : Val) → (state_global global value).ty ≡ global.ty
type_kept global value = by global.ty.mutable
  where
    by : (b : Bool) → (cond b (record global { init = Const value ∷ EndInstr ∷ [] }) global).ty ≡ global.ty
    by true = refl
    by false = refl

types_kept : (globals : List Global) (values : List Val)
    → map type_of (state_globals globals values) ≡ map type_of globals
types_kept [] values = refl
types_kept (global ∷ globals) [] = refl
types_kept (global ∷ globals) (value ∷ values) =
    (λ j. type_kept global value j ∷ types_kept globals values j)

first_grows : (limit pages size : ℕ) (imports defined : List Limits)
    → grows_within limit pages (slice_get (imports ++ map (with_min size) defined) 0)
    ≡ grows_within limit pages (slice_get (imports ++ defined) 0)
first_grows limit pages size [] [] = refl
first_grows limit pages size [] (own ∷ defined) = refl
first_grows limit pages size (wanted ∷ imports) defined = refl

module _ (m : Module) (state : KnownState) where
  abbrev other : Module
  other = state_module_of m state

  pub globals_same : all_globals other ≡ all_globals m
  globals_same =
      ap (λ types. imported_globals m ++ types)
      (types_kept m.globals (drop (length (imported_globals m)) state.globals))

  pub tables_many : length (all_tables m) ≡ length (all_tables other)
  tables_many = sized_many (length state.entries) (of_kind table_import m.imports) m.tables

  pub memories_many : length (all_memories m) ≡ length (all_memories other)
  memories_many = sized_many (state_pages state) (of_kind memory_import m.imports) m.memories

  func_type_same : (func : ℕ) → func_type other func ≡ func_type m func
  func_type_same func = by (slice_get (func_indices m) func)
    where
      by : (o : Option ℕ) → option_and_then (type_at other) o ≡ option_and_then (type_at m) o
      by None = refl
      by (Some ty) = refl

  originals_same : (replay : Module) → KeepsOriginals other replay → KeepsOriginals m replay
  originals_same replay kept =
      record {
        types = kept.types;
        signatures = λ f ty found. kept.signatures f ty (func_type_same f ∙ found);
        funcs = kept.funcs;
      }

  -- ---- generated code

  next_same : (next : Next) (after : List Instr) → next_code other next after ≡ next_code m next after
  next_same (Call func args) after =
      ap (λ ty. map Const args ++ CallFunc func ∷ (drops ty ++ after)) (func_type_same func)
  next_same (Return result) after = refl
  next_same End after = refl
  next_same Trap after = refl

  segments_same : (segments : List Segment) → segments_code other segments ≡ segments_code m segments
  segments_same [] = refl
  segments_same (segment ∷ later) =
      ap (λ code. effects_code segment.effects ++ code)
      (next_same segment.next (segments_code other later) ∙ ap (next_code m segment.next) (segments_same later))

  group_same : (ty : ℕ) (calls : List (List Segment)) → group_func other ty calls ≡ group_func m ty calls
  group_same ty calls =
      ap
      (λ (code : List Segment → List Instr). record (group_func m ty calls) {
        body = body_of (dispatch (LocalGet 0 ∷ i32_const GROUP_CALLS ∷ Numeric I32_REM_U ∷ []) (map code calls));
      })
      (λ j segments. segments_same segments j)

  groups_same : (types : List ℕ) (calls : List (List (List Segment)))
      → group_funcs other types calls ≡ group_funcs m types calls
  groups_same [] calls = refl
  groups_same (ty ∷ types) [] = refl
  groups_same (ty ∷ types) (calls ∷ more) =
      (λ j. map (λ group. group_same ty group j) (groups calls) ++ groups_same types more j)

  bodies_same : (own first : ℕ) (types : List ℕ) (calls : List (List (List Segment)))
      → import_funcs other own first types calls ≡ import_funcs m own first types calls
  bodies_same own first [] calls = refl
  bodies_same own first (ty ∷ types) [] = refl
  bodies_same own first (ty ∷ types) (calls ∷ more) =
      ap (λ funcs. import_func m ty own first (group_count (length calls)) ∷ funcs)
      (bodies_same (own + 1) (first + group_count (length calls)) types more)

  start_same : (segments : List Segment) → start_func other segments ≡ start_func m segments
  start_same segments =
      ap (λ code. record (start_func m segments) { body = body_of (sequence code Empty) }) (segments_same segments)

  import_bodies_same : (plan : Plan) → import_bodies other plan ≡ import_bodies m plan
  import_bodies_same plan =
      bodies_same (length (all_globals other)) (start_index m + 1) (import_types m) plan.imports
      ∙ ap (λ types. import_funcs m (length types) (start_index m + 1) (import_types m) plan.imports) globals_same

  helpers_same : (plan : Plan) → helper_funcs other plan ≡ helper_funcs m plan
  helpers_same plan = (λ j. start_same plan.begin j ∷ groups_same (import_types m) plan.imports j)

  pub fragment_same : (plan : Plan) → fragment_of other plan ≡ fragment_of m plan
  fragment_same plan = (λ j. record {
    bodies = import_bodies_same plan j;
    helpers = helpers_same plan j;
    entry = start_index m;
    types = appended_types;
    globals = replicate (imported_funcs m) counter;
    declared = referred_once (start_index m) (import_bodies_same plan j ++ (m.funcs ++ helpers_same plan j));
  })

  -- ---- tapes

  effect_same : (effect : Effect) → effect_fits other effect ≡ effect_fits m effect
  effect_same (Grow pages) =
      first_grows MAX_PAGES pages (state_pages state) (of_kind memory_import m.imports) m.memories
  effect_same (Table size) =
      first_grows MAX_ENTRIES size (length state.entries) (of_kind table_import m.imports) m.tables
  effect_same (Bytes addr bytes) =
      ap (λ many. nat_lt 0 many && nat_le (addr + length bytes) (MAX_PAGES * PAGE_SIZE)) (sym memories_many)
  effect_same (Entry index func) = (λ j. nat_lt 0 (sym tables_many j) && names_same func j)
    where
      names_same : (func : Option ℕ) → names_function other func ≡ names_function m func
      names_same None = refl
      names_same (Some func) = refl
  effect_same (GlobalEffect global value) = ap (λ types. takes_value value.ty (slice_get types global)) globals_same

  effects_same : (effects : List Effect) → effects_fit other effects ≡ effects_fit m effects
  effects_same effects =
      ap (λ (fits : Effect → Bool). are_ordered effects && list_all fits effects) (λ j effect. effect_same effect j)

  came_same : (at : ℕ) (opened : List ℕ) (origin : Origin) → came other at opened origin ≡ came m at opened origin
  came_same at opened Begin = refl
  came_same at opened (Import import) = refl
  came_same at opened Back = refl

  left_same : (is_last : Bool) (opened : List ℕ) (next : Next) → left other is_last opened next ≡ left m is_last opened next
  left_same is_last opened (Call func args) =
      ap (λ ty. cond (nat_le (imported_funcs m) func && takes_values (types_of args) ty) (Some opened) None)
      (func_type_same func)
  left_same is_last [] (Return result) = refl
  left_same is_last (import ∷ opened) (Return result) =
      ap (λ ty. cond (gives_values (types_of (option_to_list result)) ty) (Some opened) None) (func_type_same import)
  left_same is_last [] End = refl
  left_same is_last (import ∷ opened) End = refl
  left_same is_last [] Trap = refl
  left_same is_last (import ∷ opened) Trap = refl

  step_same : (at : ℕ) (is_last : Bool) (opened : List ℕ) (segment : Segment)
      → fitting_step other at is_last opened segment ≡ fitting_step m at is_last opened segment
  step_same at is_last opened segment = (λ j.
      option_and_then (λ inside. cond (effects_same segment.effects j) (left_same is_last inside segment.next j) None)
      (came_same at opened segment.origin j))

  unfit_same : (count at : ℕ) (opened : List ℕ) (segments : List Segment)
      → unfit_from other count at opened segments ≡ unfit_from m count at opened segments
  unfit_same count at opened [] = refl
  unfit_same count at opened (segment ∷ segments) = (λ j.
      option_map_or (λ next. unfit_same count (suc at) next segments j)
      (step_same at (nat_eq (suc at) count) opened segment j) (Some at))

  pub first_unfit_same : (tape : Tape) → first_unfit other tape ≡ first_unfit m tape
  first_unfit_same tape =
      ap (cond (nat_eq (length tape.segments) 0) (Some 0)) (unfit_same (length tape.segments) 0 [] tape.segments)

pub state_modules_have_code : StateModulesHaveCode
state_modules_have_code m state =
    record {
      code = refl;
      indices = refl;
      imported = refl;
      import_types = refl;
      globals = globals_same m state;
      layout = refl;
      start_index = refl;
      fragments = fragment_same m state;
      originals = originals_same m state;
      fits = first_unfit_same m state;
    }
