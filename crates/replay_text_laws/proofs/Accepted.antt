-- The replay module of an accepted module is accepted.
use Rattle.std.proofs.Common.{◌≡◌, ℕ, ◌+◌, ◌≤◌, length, map, List, [], ◌∷◌, ◌++◌, Option, Some, None, Bool, true, false, cond, refl, ap, ◌∙◌, arith}
use Rattle.std.specs.Prelude.{◌&&◌, nat_le, nat_lt, option_map, option_to_list}
use Rattle.std.specs.List.{AllByRecursion}
use Rattle.std.proofs.lemmas.Bool.Decides.{nat_tests}
use Rattle.base.proofs.Booleans.{and_parts}
use Rattle.base.proofs.Lists.{joined_all, nil_parts}
use Rattle.wasm_syntax.specs.declared.limits.TheConstants.{MAX_ENTRIES, MAX_PAGES}
use Rattle.wasm_syntax.specs.declared.profile.Which.{Which}
use Rattle.wasm_syntax.specs.declared.profile.Which.TheVariants.{Table, Memory}
use Rattle.wasm_syntax.specs.declared.signatures.Limits.{Limits}
use Rattle.wasm_syntax.specs.declared.modules.Func.{Func}
use Rattle.wasm_syntax.specs.declared.modules.Module.{Module}
use Rattle.wasm_syntax.specs.Index.{all_globals, imported_funcs, memory_import, of_kind, table_import}
use Rattle.wasm_syntax.specs.Profile.{Limit, past, quantities_past, refusals, refused_instructions, reserved_imports}
use Rattle.host_script.specs.declared.scripts.Supply.{Supply}
use Rattle.host_script.specs.Supply.{is_within, keeps_max, limits_match}
use Rattle.history_spec.specs.Instantiation.{limits_of, memory_limits, table_limits}
use Rattle.type_safety.specs.Supplies.{IsSupply, Match}
use Rattle.trace_model.specs.declared.tapes.Segment.{Segment}
use Rattle.replay_module_spec.specs.declared.plans.Plan.{Plan}
use Rattle.replay_module_spec.specs.Functions.{appended_types, group_count, group_func, group_funcs, groups, import_funcs}
use Rattle.replay_module_spec.specs.Fragments.{fragment_of, helper_funcs, import_bodies, import_types, start_index}
use Rattle.replay_module_spec.specs.Merge.{memory_written, replay_module}
use Rattle.pair_laws.proofs.LinkedAccepted.{AreUnrefused, FitsEntries, FitsPages, FitsParameters, HasFewLocals, are_within, funcs_named, funcs_unrefused, none_past}
use Rattle.replay_text_laws.proofs.UnrefusedCode.{in_groups, in_imports, in_start}
use Rattle.replay_text_laws.specs.Accepted.{ReplayModulesAreAccepted}

-- ---- limits

not_past : (most value : ℕ) (which : Which) → value ≤ most → past most which value ≡ None
not_past most value which few =
    let within : nat_lt most value ≡ false = grind (arith, nat_tests, few) in
    ap (λ b. cond b (Some (Limit which value)) None) within

-- the limits that an instance has are within what anything may begin with
abbrev FitsIn : ℕ → Which → Limits → Type 0
FitsIn most which limits = past most which limits.min ≡ None

chosen_fits : (most : ℕ) (which : Which) (imports defined : List Limits) (given : Option Limits)
    → Match most imports given → AllByRecursion (FitsIn most which) (imports ++ defined)
    → AllByRecursion (FitsIn most which) (option_to_list (limits_of imports given defined))
chosen_fits most which [] [] given matches all = tt
chosen_fits most which [] (own ∷ more) given matches all = (all.0, tt)
chosen_fits most which (import ∷ imports) defined None matches all = absurd matches
chosen_fits most which (import ∷ imports) defined (Some given) matches all =
    let parts =
    and_parts (nat_le import.min given.min && keeps_max given.max import.max && is_within given.min given.max)
    (nat_le given.min most) matches
    in
    let last = parts.1 in
    let few : given.min ≤ most = grind (arith, nat_tests, last) in (not_past most given.min which few, tt)

written_fits : (limits : Option Limits) → AllByRecursion FitsPages (option_to_list limits)
    → AllByRecursion FitsPages (option_to_list (option_map memory_written limits))
written_fits None all = tt
written_fits (Some limits) all = (all.0, tt)

-- ---- locals

imports_few : (m : Module) (counter first : ℕ) (types : List ℕ) (calls : List (List (List Segment)))
    → AllByRecursion (HasFewLocals false) (import_funcs m counter first types calls)
imports_few m counter first [] calls = tt
imports_few m counter first (ty ∷ types) [] = tt
imports_few m counter first (ty ∷ types) (own ∷ calls) =
    (refl, imports_few m (counter + 1) (first + group_count (length own)) types calls)

parts_few : (m : Module) (ty : ℕ) (parts : List (List (List Segment)))
    → AllByRecursion (HasFewLocals false) (map (group_func m ty) parts)
parts_few m ty [] = tt
parts_few m ty (part ∷ parts) = (refl, parts_few m ty parts)

groups_few : (m : Module) (types : List ℕ) (calls : List (List (List Segment)))
    → AllByRecursion (HasFewLocals false) (group_funcs m types calls)
groups_few m [] calls = tt
groups_few m (ty ∷ types) [] = tt
groups_few m (ty ∷ types) (own ∷ calls) =
    joined_all (HasFewLocals false) (map (group_func m ty) (groups own)) (group_funcs m types calls)
    (parts_few m ty (groups own)) (groups_few m types calls)

-- ---- the module

-- a property of the generated functions and of the original's is one of all
all_funcs : (P : Func → Type 0) (m : Module) (supply : Supply) (plan : Plan)
    → AllByRecursion P (import_bodies m plan) → AllByRecursion P m.funcs → AllByRecursion P (helper_funcs m plan)
    → AllByRecursion P (replay_module m supply (fragment_of m plan)).funcs
all_funcs P m supply plan bodies own helpers =
    joined_all P (import_bodies m plan) (m.funcs ++ helper_funcs m plan) bodies
    (joined_all P m.funcs (helper_funcs m plan) own helpers)

module _ (m : Module) (supply : Supply) (plan : Plan) (supplied : IsSupply m supply) where
  abbrev replay : Module
  replay = replay_module m supply (fragment_of m plan)

  instructions : refused_instructions m ≡ [] → refused_instructions replay ≡ []
  instructions none =
      funcs_named (imported_funcs replay) replay.funcs
      (all_funcs AreUnrefused m supply plan
      (in_imports m (length (all_globals m)) (start_index m + 1) (import_types m) plan.imports)
      (funcs_unrefused (imported_funcs m) m.funcs none)
      (in_start m plan.begin, in_groups m (import_types m) plan.imports))

  quantities : quantities_past false m ≡ [] → quantities_past false replay ≡ []
  quantities none =
      let own = are_within false m none in
      none_past false replay
      (record {
        types = joined_all FitsParameters m.types appended_types own.types (refl, (refl, (refl, (refl, (refl, (refl, tt))))));
        tables =
            chosen_fits MAX_ENTRIES Table (of_kind table_import m.imports) m.tables supply.table supplied.table own.tables;
        memories =
            written_fits (memory_limits m supply)
            (chosen_fits MAX_PAGES Memory (of_kind memory_import m.imports) m.memories supply.memory supplied.memory
            own.memories);
        locals =
            all_funcs (HasFewLocals false) m supply plan
            (imports_few m (length (all_globals m)) (start_index m + 1) (import_types m) plan.imports) own.locals
            (refl, groups_few m (import_types m) plan.imports);
      })

  none_refused : refusals false m ≡ [] → refusals false replay ≡ []
  none_refused none =
      let all : (refused_instructions m ++ quantities_past false m) ++ reserved_imports false m ≡ [] = none in
      let a = nil_parts (refused_instructions m ++ quantities_past false m) (reserved_imports false m) all in
      let b = nil_parts (refused_instructions m) (quantities_past false m) a.0 in
      let first = instructions b.0 in
      let second = quantities b.1 in (λ j. (first j ++ second j) ++ [])

pub replay_modules_are_accepted : ReplayModulesAreAccepted
replay_modules_are_accepted m supply plan accepted supplied valid =
    record { valid = valid; none_refused = none_refused m supply plan supplied accepted.none_refused }
