-- The original's functions have typings in the replay module of a plan.
use Rattle.std.proofs.Common.{◌≡◌, ℕ, zero, suc, ◌<◌, ◌≤◌, List, [], ◌∷◌, ◌++◌, length, Option, Some, None, true, refl, sym, ap, ◌∙◌, subst, arith}
use Rattle.std.specs.Prelude.{◌&&◌, nat_eq, is_some, replicate, filter_map, map, nat_lt, option_to_list, reverse, slice_get, All}
use Rattle.std.specs.List.{list_any, AllByRecursion, zip}
use Rattle.std.proofs.lemmas.Bool.Decides.{nat_tests}
use Rattle.std.proofs.lemmas.List.Elements.{recursion_from_All, All-from_recursion}
use Rattle.std.proofs.lemmas.List.{append_assoc, map-append}
use Rattle.std.proofs.lemmas.Option.{slice_get_within}
use Rattle.base.proofs.Booleans.{and_parts, and_true}
use Rattle.base.proofs.Lists.{get_front}
use Rattle.wasm_syntax.specs.declared.limits.TheConstants.{MAX_ENTRIES, MAX_PAGES}
use Rattle.wasm_syntax.specs.declared.values.Val.{Val}
use Rattle.wasm_syntax.specs.declared.signatures.FuncType.{FuncType}
use Rattle.wasm_syntax.specs.declared.signatures.GlobalType.{GlobalType}
use Rattle.wasm_syntax.specs.declared.signatures.Limits.{Limits}
use Rattle.wasm_syntax.specs.declared.instructions.Instr.{Instr}
use Rattle.wasm_syntax.specs.declared.instructions.Instr.TheVariants.{End}
use Rattle.wasm_syntax.specs.declared.modules.Export.{Export}
use Rattle.wasm_syntax.specs.declared.modules.Global.{Global}
use Rattle.wasm_syntax.specs.declared.modules.Func.{Func}
use Rattle.wasm_syntax.specs.declared.modules.Module.{Module}
use Rattle.wasm_syntax.specs.Nest.{flat}
use Rattle.wasm_syntax.specs.Index.{all_globals, all_memories, all_tables, func_indices, imported_funcs, imported_globals, memory_import, of_kind, table_import}
use Rattle.wasm_syntax.specs.Validity.{IsTypedFunc, IsValid, body_context, declared_funcs, exported_func}
use Rattle.wasm_syntax.proofs.JoinedLists.{both_parts}
use Rattle.host_script.specs.declared.scripts.Supply.{Supply}
use Rattle.history_spec.specs.Instantiation.{limits_of}
use Rattle.type_safety.specs.Supplies.{IsSupply, Match}
use Rattle.type_safety.specs.Values.{AreValues}
use Rattle.type_safety.specs.Stores.{func_count}
use Rattle.type_safety.proofs.Wider.{IsKnown}
use Rattle.replay_module_spec.specs.declared.plans.Plan.{Plan}
use Rattle.replay_module_spec.specs.declared.fragments.Fragment.{Fragment}
use Rattle.replay_module_spec.specs.Fragments.{counter, fragment_of, referred_funcs, start_index}
use Rattle.replay_module_spec.specs.Merge.{constant_elem, constant_global, memory_written, replay_module, supplied_global}
use Rattle.replay_module_laws.specs.CodeLaws.{ReplayModulesHaveCode}
use Rattle.replay_module_laws.specs.Standing.{KeepsOriginals}
use Rattle.replay_module_laws.proofs.Declarations.{IsReferred, declared_among, refers_among}
use Rattle.replay_module_laws.proofs.Originals.{Extends, typed_known}
use Rattle.replay_module_laws.proofs.Standing.{functions_more, originals_kept}
use Rattle.replay_module_laws.proofs.Outside.{mapped_length}

-- ---- what the replay module contains

pub there_alike : {X : Type 0} (xs ys : List X) (place : ℕ) → length xs ≡ length ys
    → is_some (slice_get xs place) ≡ is_some (slice_get ys place)
there_alike [] [] place e = refl
there_alike [] (y ∷ ys) place e = absurd (omega (arith, e))
there_alike (x ∷ xs) [] place e = absurd (omega (arith, e))
there_alike (x ∷ xs) (y ∷ ys) zero e = refl
there_alike (x ∷ xs) (y ∷ ys) (suc place) e = there_alike xs ys place (omega (arith, e))

-- the replay module has as many tables or memories as the original
as_many : (most : ℕ) (imports defined : List Limits) (supplied : Option Limits) → Match most imports supplied
    → length (imports ++ defined) ≤ 1
    → length (imports ++ defined) ≡ length (option_to_list (limits_of imports supplied defined))
as_many most [] [] supplied match' one = refl
as_many most [] (own ∷ more) supplied match' one = omega (arith, one)
as_many most (wanted ∷ imports) defined None match' one = absurd match'
as_many most (wanted ∷ imports) defined (Some given) match' one = omega (arith, one)

-- the supplied globals have the types of the imported ones
supplied_types : (funcs : ℕ) (types : List GlobalType) (values : List Val)
    → AreValues funcs (map (λ (g : GlobalType). g.ty) types) values
    → map (λ (g : Global). g.ty) (map supplied_global (zip types values)) ≡ types
supplied_types funcs [] [] h = refl
supplied_types funcs [] (value ∷ values) h = absurd h
supplied_types funcs (ty ∷ types) [] h = absurd h
supplied_types funcs (ty ∷ types) (value ∷ values) h = ap (λ l. ty ∷ l) (supplied_types funcs types values h.1)

pub constant_types : (imported : List Val) (globals : List Global)
    → map (λ (g : Global). g.ty) (map (constant_global imported) globals) ≡ map (λ (g : Global). g.ty) globals
constant_types imported [] = refl
constant_types imported (g ∷ globals) = ap (λ l. g.ty ∷ l) (constant_types imported globals)

-- ---- the replay module of any generated part

module _ (m : Module) (supply : Supply) (fragment : Fragment) (valid : IsValid m) (supplied : IsSupply m supply) where
  abbrev merged : Module
  merged = replay_module m supply fragment

  abbrev global_type : Global → GlobalType
  global_type g = g.ty

  pub globals_of : all_globals merged ≡ all_globals m ++ map global_type fragment.globals
  globals_of =
      let imported = map supplied_global (zip (imported_globals m) supply.globals) in
      let kept = map (constant_global supply.globals) m.globals in
      map-append global_type imported (kept ++ fragment.globals)
      ∙ ap (λ l. map global_type imported ++ l) (map-append global_type kept fragment.globals)
      ∙ ap (λ l. l ++ (map global_type kept ++ map global_type fragment.globals))
      (supplied_types (func_count m) (imported_globals m) supply.globals supplied.globals)
      ∙ ap (λ l. imported_globals m ++ (l ++ map global_type fragment.globals)) (constant_types supply.globals m.globals)
      ∙ sym (append_assoc (imported_globals m) (map global_type m.globals) (map global_type fragment.globals))

  pub tables_of : length (all_tables m) ≡ length (all_tables merged)
  tables_of =
      as_many MAX_ENTRIES (of_kind table_import m.imports) m.tables supply.table supplied.table valid.outside.one_table

  pub memories_of : length (all_memories m) ≡ length (all_memories merged)
  memories_of =
      as_many MAX_PAGES (of_kind memory_import m.imports) m.memories supply.memory supplied.memory
      valid.outside.one_memory
      ∙ sym (mapped_length memory_written (limits_of (of_kind memory_import m.imports) supply.memory m.memories))

  -- a function of the original to which bodies refer is declared
  abbrev pub DeclaresReferred : Type 0
  DeclaresReferred =
      (func : ℕ) → func < start_index m → list_any (nat_eq func) (referred_funcs merged.funcs) ≡ true
      → (nat_lt func (length (func_indices merged)) && list_any (nat_eq func) (declared_funcs merged)) ≡ true

  module _ (kept : KeepsOriginals m merged) (declares : DeclaresReferred) where
    extends : (ty : FuncType) (f : Func) → Extends (body_context m ty f) (body_context merged ty f)
    extends ty f =
        record {
          types = kept.types;
          funcs = kept.signatures;
          tables = λ x. there_alike (all_tables m) (all_tables merged) x tables_of;
          memory = there_alike (all_memories m) (all_memories merged) 0 memories_of;
          globals = λ x g h.
              ap (λ l. slice_get l x) globals_of
              ∙ get_front (all_globals m) (map global_type fragment.globals) x
              (slice_get_within (all_globals m) x g h)
              ∙ h;
          locals = λ x t h. h;
          labels = λ l x h. h;
          results = refl;
        }

    known : (ty : FuncType) (f : Func) (code : List Instr)
        → AllByRecursion (IsReferred (referred_funcs merged.funcs)) code
        → AllByRecursion (IsKnown (body_context m ty f) (body_context merged ty f)) code
    known ty f [] r = tt
    known ty f (i ∷ code) r = (
      (λ func e is.
          let first = (and_parts (nat_lt func (start_index m)) _ is).0 in
          declares func (grind (arith, nat_tests, first)) (r.0 func e)),
      known ty f code r.1,
    )

    original_typed : (f : Func) → AllByRecursion (IsReferred (referred_funcs merged.funcs)) f.body → IsTypedFunc m f
        → IsTypedFunc merged f
    original_typed f referred t =
        let parts =
        both_parts (IsReferred (referred_funcs merged.funcs)) (flat t.nest) (End ∷ [])
        (subst (AllByRecursion (IsReferred (referred_funcs merged.funcs))) (sym t.is_body.written) referred) in
        record {
          ty = t.ty;
          nest = t.nest;
          has_type = kept.types f.ty t.ty t.has_type;
          is_body = t.is_body;
          typed =
              typed_known t.nest (body_context m t.ty f) (body_context merged t.ty f) [] (reverse t.ty.results)
              (extends t.ty f) (known t.ty f (flat t.nest) parts.0) t.typed;
        }

    each_typed : (funcs : List Func)
        → AllByRecursion (λ (f : Func). AllByRecursion (IsReferred (referred_funcs merged.funcs)) f.body) funcs
        → AllByRecursion (IsTypedFunc m) funcs → AllByRecursion (IsTypedFunc merged) funcs
    each_typed [] referred typed = tt
    each_typed (f ∷ funcs) referred typed =
        (original_typed f referred.0 typed.0, each_typed funcs referred.1 typed.1)

    pub kept_typed : All (IsTypedFunc merged) m.funcs
    kept_typed =
        All-from_recursion (IsTypedFunc merged) m.funcs
        (each_typed m.funcs (refers_among fragment.bodies m.funcs fragment.helpers)
        (recursion_from_All (IsTypedFunc m) m.funcs valid.bodies))

-- ---- the replay module of a plan

module _ (law : ReplayModulesHaveCode) (m : Module) (supply : Supply) (plan : Plan) (valid : IsValid m)
    (supplied : IsSupply m supply) (many : length plan.imports ≡ imported_funcs m) where
  abbrev replay : Module
  replay = replay_module m supply (fragment_of m plan)

  abbrev own_globals : List Global
  own_globals = replicate (imported_funcs m) counter

  pub globals_are : all_globals replay ≡ all_globals m ++ map (λ (g : Global). g.ty) own_globals
  globals_are = globals_of m supply (fragment_of m plan) valid supplied

  pub tables_many : length (all_tables m) ≡ length (all_tables replay)
  tables_many = tables_of m supply (fragment_of m plan) valid supplied

  pub memories_many : length (all_memories m) ≡ length (all_memories replay)
  memories_many = memories_of m supply (fragment_of m plan) valid supplied

  -- a function of the original to which bodies refer is declared
  pub declared_there : (func : ℕ) → func < start_index m → list_any (nat_eq func) (referred_funcs replay.funcs) ≡ true
      → (nat_lt func (length (func_indices replay)) && list_any (nat_eq func) (declared_funcs replay)) ≡ true
  declared_there func small referred =
      let more = functions_more law m supply plan valid many in
      let within : func < length (func_indices replay) = omega (arith, small, more) in
      and_true (nat_lt func (length (func_indices replay))) _ (grind (arith, nat_tests, within))
      (declared_among func (start_index m) replay.funcs (map (constant_elem supply.globals) m.elems)
      (filter_map (λ (e : Export). exported_func e.kind) replay.exports) small referred)

  pub originals_typed : All (IsTypedFunc replay) m.funcs
  originals_typed =
      kept_typed m supply (fragment_of m plan) valid supplied (originals_kept law m supply plan valid many) declared_there
