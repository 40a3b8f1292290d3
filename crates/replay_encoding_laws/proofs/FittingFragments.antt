-- The generated parts of a plan that fits a module fit it.
use Rattle.std.proofs.Common.{◌≡◌, ℕ, ◌+◌, ◌^◌, ◌<◌, ◌≤◌, List, [], ◌∷◌, ◌++◌, length, map, Option, Some, None, true, refl, sym, ap, ◌∙◌, subst, arith, slice_get}
use Rattle.std.specs.Prelude.{◌&&◌, nat_le, replicate, IfSome}
use Rattle.std.specs.List.{AllByRecursion, AllZip, cons_option, zip}
use Rattle.std.proofs.lemmas.Bool.Decides.{nat_tests}
use Rattle.std.proofs.lemmas.List.Elements.{All-from_recursion, recursion_from_All}
use Rattle.base.proofs.Booleans.{and_parts, and_true}
use Rattle.base.proofs.Lists.{get_after_by, get_front, item_there, joined_all}
use Rattle.wasm_syntax.specs.declared.limits.TheConstants.{MAX_ENTRIES, MAX_LOCALS, MAX_PAGES, MAX_PARAMETERS}
use Rattle.wasm_syntax.specs.declared.signatures.FuncType.{FuncType}
use Rattle.wasm_syntax.specs.declared.signatures.GlobalType.{GlobalType}
use Rattle.wasm_syntax.specs.declared.signatures.Limits.{Limits}
use Rattle.wasm_syntax.specs.declared.modules.Func.{Func}
use Rattle.wasm_syntax.specs.declared.modules.Import.{Import}
use Rattle.wasm_syntax.specs.declared.modules.ImportKind.{ImportKind}
use Rattle.wasm_syntax.specs.declared.modules.ImportKind.TheVariants as kinds
use Rattle.wasm_syntax.specs.declared.modules.Module.{Module}
use Rattle.wasm_syntax.specs.Index.{all_globals, all_memories, all_tables, imported_funcs, imported_globals, memory_import, of_kind, table_import}
use Rattle.wasm_syntax.specs.Profile.{IsSupported, count_of_locals}
use Rattle.wasm_syntax.specs.Validity.{IsDeclaredFunc, IsFuncType, IsGlobal, IsImport, IsLimits, IsTypedFunc, IsValid}
use Rattle.host_script.specs.declared.scripts.Supply.{Supply}
use Rattle.host_script.specs.Supply.{is_within, keeps_max, limits_match}
use Rattle.history_spec.specs.Code.{zero_of}
use Rattle.type_safety.specs.Supplies.{IsSupply, Match}
use Rattle.type_safety.specs.Stores.{func_count}
use Rattle.type_safety.specs.Values.{AreValues}
use Rattle.type_safety.proofs.Quantities.{small_memories, small_tables}
use Rattle.type_safety.proofs.Values.{zero_values}
use Rattle.type_safety.proofs.Supplies.{max_kept}
use Rattle.replay_module_spec.specs.declared.plans.Plan.{Plan}
use Rattle.replay_module_spec.specs.Functions.{appended_types, group_count, group_func, group_funcs, groups, import_funcs, start_func}
use Rattle.replay_module_spec.specs.Fragments.{counter, fragment_of, helper_funcs, import_bodies, import_types, start_index}
use Rattle.replay_module_spec.specs.Fits.{FitsModule, HasImportType, IsAppendedType, IsGeneratedFunc, declared_supply, unsupplied_module}
use Rattle.replay_module_spec.specs.Merge.{constant_global, supplied_global}
use Rattle.replay_module_laws.specs.Laws.{StatesMaximum}
use Rattle.replay_module_laws.specs.Plans.{PlanFits}
use Rattle.replay_module_laws.proofs.Outside.{types_imported}
use Rattle.replay_module_laws.proofs.References.{referred_below}
use Rattle.trace_model.specs.declared.tapes.Segment.{Segment}
use Rattle.replay_encoding_laws.proofs.Declared.{declared_are}
use Rattle.replay_encoding_laws.proofs.FragmentReferences.{replay_refers}

-- ---- each import as it is declared

max_within : (range least : ℕ) (max : Option ℕ) → IfSome max (λ max. (max ≤ range) × (least ≤ max))
    → is_within least max ≡ true
max_within range least None h = refl
max_within range least (Some max) h = let low = h.1 in grind (arith, nat_tests, low)

-- the first of some limits begins with at most this number
abbrev FirstIsSmall : ℕ → List Limits → Type 0
FirstIsSmall most [] = Unit {0}
FirstIsSmall most (limits ∷ more) = limits.min ≤ most

same_matches : (most range : ℕ) (limits : Limits) → IsLimits range limits → limits.min ≤ most
    → limits_match most limits limits ≡ true
same_matches most range limits valid small =
    let least : nat_le limits.min limits.min ≡ true = grind (arith, nat_tests) in
    let few : nat_le limits.min most ≡ true = grind (arith, nat_tests, small) in
    and_true (nat_le limits.min limits.min && keeps_max limits.max limits.max && is_within limits.min limits.max)
    (nat_le limits.min most)
    (and_true (nat_le limits.min limits.min && keeps_max limits.max limits.max) (is_within limits.min limits.max)
    (and_true (nat_le limits.min limits.min) (keeps_max limits.max limits.max) least (max_kept limits.max))
    (max_within range limits.min limits.max valid.max))
    few

first_matches : (most range : ℕ) (imports : List Limits) → AllByRecursion (IsLimits range) imports
    → FirstIsSmall most imports → Match most imports (slice_get imports 0)
first_matches most range [] valid small = tt
first_matches most range (limits ∷ more) valid small = same_matches most range limits valid.0 small

all_small : (most : ℕ) (imports : List Limits) → AllByRecursion (λ (limits : Limits). limits.min ≤ most) imports
    → FirstIsSmall most imports
all_small most [] small = tt
all_small most (limits ∷ more) small = small.0

supplied_small : (most : ℕ) (imports : List Limits) (given : Option Limits) → Match most imports given
    → FirstIsSmall most imports
supplied_small most [] given match' = tt
supplied_small most (limits ∷ more) None match' = absurd match'
supplied_small most (limits ∷ more) (Some given) match' =
    let p = and_parts (nat_le limits.min given.min && keeps_max given.max limits.max && is_within given.min given.max)
    (nat_le given.min most) match' in
    let q = and_parts (nat_le limits.min given.min && keeps_max given.max limits.max) (is_within given.min given.max)
    p.0 in
    let first = (and_parts (nat_le limits.min given.min) (keeps_max given.max limits.max) q.0).0 in
    let last = p.1 in
    let least : limits.min ≤ given.min = grind (arith, nat_tests, first) in
    let few : given.min ≤ most = grind (arith, nat_tests, last) in
    omega (arith, least, few)

front_all : {X : Type 0} (P : X → Type 0) (xs ys : List X) → AllByRecursion P (xs ++ ys) → AllByRecursion P xs
front_all P [] ys all = tt
front_all P (x ∷ xs) ys all = (all.0, front_all P xs ys all.1)

after_all : {X : Type 0} (P : X → Type 0) (xs ys : List X) → AllByRecursion P (xs ++ ys) → AllByRecursion P ys
after_all P [] ys all = all
after_all P (x ∷ xs) ys all = after_all P xs ys all.1

-- a property of the picked part of each kind of import is one of all picked parts
picked_all : {K : Type 0} (pick : ImportKind → Option K) (P : K → Type 0) (m : Module)
    → ((kind : ImportKind) → IsImport m kind → IfSome (pick kind) P) → (imports : List Import)
    → AllByRecursion (λ i. IsImport m i.kind) imports → AllByRecursion P (of_kind pick imports)
picked_all pick P m each [] all = tt
picked_all {K} pick P m each (i ∷ imports) all =
    one (pick i.kind) (each i.kind all.0) (picked_all pick P m each imports all.1)
  where
    one : (o : Option K) → IfSome o P → AllByRecursion P (of_kind pick imports)
        → AllByRecursion P (cons_option o (of_kind pick imports))
    one None own later = later
    one (Some x) own later = (own, later)

table_valid : (m : Module) (kind : ImportKind) → IsImport m kind → IfSome (table_import kind) (IsLimits (2 ^ 32))
table_valid m (kinds.Func ty) own = tt
table_valid m (kinds.Table limits) own = own
table_valid m (kinds.Memory limits) own = tt
table_valid m (kinds.Global ty) own = tt

memory_valid : (m : Module) (kind : ImportKind) → IsImport m kind → IfSome (memory_import kind) (IsLimits (2 ^ 16))
memory_valid m (kinds.Func ty) own = tt
memory_valid m (kinds.Table limits) own = tt
memory_valid m (kinds.Memory limits) own = own
memory_valid m (kinds.Global ty) own = tt

imported_tables : (m : Module) (imports : List Import) → AllByRecursion (λ i. IsImport m i.kind) imports
    → AllByRecursion (IsLimits (2 ^ 32)) (of_kind table_import imports)
imported_tables m = picked_all table_import (IsLimits (2 ^ 32)) m (table_valid m)

imported_memories : (m : Module) (imports : List Import) → AllByRecursion (λ i. IsImport m i.kind) imports
    → AllByRecursion (IsLimits (2 ^ 16)) (of_kind memory_import imports)
imported_memories m = picked_all memory_import (IsLimits (2 ^ 16)) m (memory_valid m)

types_twice : (globals : List GlobalType)
    → map (λ (g : GlobalType). zero_of g.ty) globals ≡ map zero_of (map (λ (g : GlobalType). g.ty) globals)
types_twice [] = refl
types_twice (g ∷ globals) = ap (λ l. zero_of g.ty ∷ l) (types_twice globals)

declared_supply_matches : (m : Module) → IsValid m → FirstIsSmall MAX_PAGES (of_kind memory_import m.imports)
    → FirstIsSmall MAX_ENTRIES (of_kind table_import m.imports) → IsSupply m (declared_supply m)
declared_supply_matches m valid pages entries =
    let imports = recursion_from_All (λ (i : Import). IsImport m i.kind) m.imports valid.outside.imports in
    record {
      memory =
          first_matches MAX_PAGES (2 ^ 16) (of_kind memory_import m.imports) (imported_memories m m.imports imports)
          pages;
      table =
          first_matches MAX_ENTRIES (2 ^ 32) (of_kind table_import m.imports) (imported_tables m m.imports imports)
          entries;
      globals =
          subst (λ l. AreValues (func_count m) (map (λ (g : GlobalType). g.ty) (imported_globals m)) l)
          (sym (types_twice (imported_globals m)))
          (zero_values (func_count m) (map (λ (g : GlobalType). g.ty) (imported_globals m)));
    }

-- if a module can be run, or some supply matches its imports, the declared one does
pub runnable_supplies : (m : Module) → IsValid m → IsSupported m → IsSupply m (declared_supply m)
runnable_supplies m valid supported =
    declared_supply_matches m valid
    (all_small MAX_PAGES (of_kind memory_import m.imports)
    (front_all (λ (limits : Limits). limits.min ≤ MAX_PAGES) (of_kind memory_import m.imports) m.memories
    (recursion_from_All (λ (limits : Limits). limits.min ≤ MAX_PAGES) (all_memories m) (small_memories m supported))))
    (all_small MAX_ENTRIES (of_kind table_import m.imports)
    (front_all (λ (limits : Limits). limits.min ≤ MAX_ENTRIES) (of_kind table_import m.imports) m.tables
    (recursion_from_All (λ (limits : Limits). limits.min ≤ MAX_ENTRIES) (all_tables m) (small_tables m supported))))

pub declared_supplies : (m : Module) (supply : Supply) → IsValid m → IsSupply m supply → IsSupply m (declared_supply m)
declared_supplies m supply valid supplied =
    declared_supply_matches m valid
    (supplied_small MAX_PAGES (of_kind memory_import m.imports) supply.memory supplied.memory)
    (supplied_small MAX_ENTRIES (of_kind table_import m.imports) supply.table supplied.table)

first_states : (imports : List Limits) → AllByRecursion (IsLimits (2 ^ 32)) imports
    → StatesMaximum (slice_get imports 0)
first_states [] all = tt
first_states (limits ∷ more) all = of_max limits.max all.0.max
  where
    of_max : (max : Option ℕ) → IfSome max (λ max. (max ≤ 2 ^ 32) × (limits.min ≤ max))
        → IfSome max (λ max. max ≤ 2 ^ 32)
    of_max None h = tt
    of_max (Some max) h = h.0

pub declared_states : (m : Module) → IsValid m → StatesMaximum (declared_supply m).table
declared_states m valid =
    first_states (of_kind table_import m.imports)
    (imported_tables m m.imports
    (recursion_from_All (λ (i : Import). IsImport m i.kind) m.imports valid.outside.imports))

-- ---- bodies

imports_typed : (m : Module) (plan : Plan) (counter first : ℕ) (types : List ℕ) (calls : List (List (List Segment)))
    → length calls ≡ length types → AllByRecursion (λ ty. ty < length m.types) types
    → AllZip (HasImportType m (fragment_of m plan)) types (import_funcs m counter first types calls)
imports_typed m plan counter first [] calls long there = tt
imports_typed m plan counter first (ty ∷ types) [] long there = absurd (omega (arith, long))
imports_typed m plan counter first (ty ∷ types) (own ∷ calls) long there =
    let item = item_there m.types ty there.0 in (
      record {
        ty = item.0;
        of_import = item.1;
        of_body = get_front m.types appended_types ty there.0 ∙ item.1;
      },
      imports_typed m plan (counter + 1) (first + group_count (length own)) types calls (omega (arith, long)) there.1,
    )

-- ---- locals

abbrev HasFewLocals : Func → Type 0
HasFewLocals func = count_of_locals func ≤ MAX_LOCALS

imports_few : (m : Module) (counter first : ℕ) (types : List ℕ) (calls : List (List (List Segment)))
    → AllByRecursion HasFewLocals (import_funcs m counter first types calls)
imports_few m counter first [] calls = tt
imports_few m counter first (ty ∷ types) [] = tt
imports_few m counter first (ty ∷ types) (own ∷ calls) =
    (omega arith, imports_few m (counter + 1) (first + group_count (length own)) types calls)

parts_few : (m : Module) (ty : ℕ) (parts : List (List (List Segment)))
    → AllByRecursion HasFewLocals (map (group_func m ty) parts)
parts_few m ty [] = tt
parts_few m ty (part ∷ parts) = (omega arith, parts_few m ty parts)

groups_few : (m : Module) (types : List ℕ) (calls : List (List (List Segment)))
    → AllByRecursion HasFewLocals (group_funcs m types calls)
groups_few m [] calls = tt
groups_few m (ty ∷ types) [] = tt
groups_few m (ty ∷ types) (own ∷ calls) =
    joined_all HasFewLocals (map (group_func m ty) (groups own)) (group_funcs m types calls)
    (parts_few m ty (groups own)) (groups_few m types calls)

-- ---- the whole module

generated_are : (m : Module) (plan : Plan) (funcs : List Func)
    → AllByRecursion (IsDeclaredFunc (unsupplied_module m (fragment_of m plan))) funcs
    → AllByRecursion (IsTypedFunc (unsupplied_module m (fragment_of m plan))) funcs
    → AllByRecursion HasFewLocals funcs → AllByRecursion (IsGeneratedFunc m (fragment_of m plan)) funcs
generated_are m plan [] declared typed few = tt
generated_are m plan (func ∷ funcs) declared typed few = (
  record { declared = declared.0; typed = typed.0; locals = few.0 },
  generated_are m plan funcs declared.1 typed.1 few.1,
)

-- a property of three lists is one of the first and the last of them
around_all : {X : Type 0} (P : X → Type 0) (xs ys zs : List X) → AllByRecursion P (xs ++ (ys ++ zs))
    → AllByRecursion P (xs ++ zs)
around_all P xs ys zs all =
    joined_all P xs zs (front_all P xs (ys ++ zs) all) (after_all P ys zs (after_all P xs (ys ++ zs) all))

appended_fit : (m : Module) (types : List FuncType) → AllByRecursion IsFuncType types
    → AllByRecursion (λ (ty : FuncType). length ty.params ≤ MAX_PARAMETERS) types → AllByRecursion IsAppendedType types
appended_fit m [] valid few = tt
appended_fit m (ty ∷ types) valid few = (record { valid = valid.0; params = few.0 }, appended_fit m types valid.1 few.1)

pub fragment_fits : (m : Module) (plan : Plan) → IsValid m → length plan.imports ≡ imported_funcs m
    → PlanFits m plan → IsValid (unsupplied_module m (fragment_of m plan)) → FitsModule m (fragment_of m plan)
fragment_fits m plan valid many fits whole =
    let r = unsupplied_module m (fragment_of m plan) in
    let bodies = import_bodies m plan in
    let helpers = helper_funcs m plan in
    let own = map (constant_global (declared_supply m).globals) m.globals in
    let imported = map supplied_global (zip (imported_globals m) (declared_supply m).globals) in
    record {
      types =
          All-from_recursion IsAppendedType appended_types
          (appended_fit m appended_types
          (after_all IsFuncType m.types appended_types (recursion_from_All IsFuncType r.types whole.outside.types))
          (omega arith, (omega arith, (omega arith, (omega arith, (omega arith, (omega arith, tt)))))));
      globals =
          All-from_recursion (IsGlobal r) (replicate (imported_funcs m) counter)
          (after_all (IsGlobal r) own (replicate (imported_funcs m) counter)
          (after_all (IsGlobal r) imported (own ++ replicate (imported_funcs m) counter)
          (recursion_from_All (IsGlobal r) r.globals whole.outside.globals)));
      bodies =
          imports_typed m plan (length (all_globals m)) (start_index m + 1) (import_types m) plan.imports many
          (types_imported m m.imports
          (recursion_from_All (λ (i : Import). IsImport m i.kind) m.imports valid.outside.imports));
      start =
          record {
            place = 0;
            func = start_func m plan.begin;
            found = refl;
            index = omega arith;
            has_type = get_after_by m.types appended_types (length m.types) 0 (omega arith);
          };
      declared =
          declared_are (start_index m) (bodies ++ (m.funcs ++ helpers))
          (referred_below (start_index m) (bodies ++ (m.funcs ++ helpers)) (replay_refers m plan valid fits));
      generated =
          All-from_recursion (IsGeneratedFunc m (fragment_of m plan)) (bodies ++ helpers)
          (generated_are m plan (bodies ++ helpers)
          (around_all (IsDeclaredFunc r) bodies m.funcs helpers
          (recursion_from_All (IsDeclaredFunc r) r.funcs whole.outside.funcs))
          (around_all (IsTypedFunc r) bodies m.funcs helpers
          (recursion_from_All (IsTypedFunc r) r.funcs whole.bodies))
          (joined_all HasFewLocals bodies helpers
          (imports_few m (length (all_globals m)) (start_index m + 1) (import_types m) plan.imports)
          (omega arith, groups_few m (import_types m) plan.imports)));
    }
