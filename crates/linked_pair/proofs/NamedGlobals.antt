-- The constant expressions by the ends of chains are those of the definition.
use Rattle.std.proofs.Common.{◌≡◌, ◌⊎◌, inl, inr, ℕ, zero, suc, ◌+◌, ◌-◌, ◌<◌, ◌≤◌, ◌^◌, List, [], ◌∷◌, map, filter, length, get_or, slice_get, Option, Some, None, IfNone, not, option_map, refl, sym, ap, ap₂, ◌∙◌, arith}
use Rattle.std.specs.Option.{option_map_or}
use Rattle.std.proofs.lemmas.List.{length-map}
use Rattle.std.proofs.lemmas.List.Filters.{length-filter_both}
use Rattle.std.proofs.lemmas.Option.{slice_get_cases}
use Rattle.base.proofs.Options.{none_some}
use Rattle.wasm_syntax.specs.declared.instructions.Instr.{Instr}
use Rattle.wasm_syntax.specs.declared.instructions.Instr.TheVariants as instr
use Rattle.wasm_syntax.specs.declared.modules.Module.{Module}
use Rattle.wasm_syntax.specs.declared.modules.Global.{Global}
use Rattle.wasm_syntax.specs.declared.modules.Import.{Import}
use Rattle.instance_spec.specs.declared.sides.Side.{Side}
use Rattle.instance_spec.specs.declared.sides.Side.TheVariants.{Left, Right}
use Rattle.instance_spec.specs.ForeignRuns.{count_from}
use Rattle.instance_laws.proofs.WidenedParts.{counted}
use Rattle.pair_spec.specs.Pairs.{ModulePair, module_of, Globals, is_in, imports_in, defined_in}
use Rattle.pair_spec.specs.Chains as chain
use Rattle.pair_spec.specs.Chains.{end_of}
use Rattle.pair_spec.specs.Numbers.{number_of, no_number, numbers_in}
use Rattle.pair_spec.specs.Linked.{linked_constant, constant_by}
use Rattle.pair_ends.specs.declared.jumps.End.{End}
use Rattle.pair_ends.specs.declared.jumps.End.TheVariants.{Defined, HostImport}
use Rattle.pair_ends.specs.declared.ends.Ends.{Ends}
use Rattle.pair_ends.specs.Ends.{AreEnds, chain_end, end_at}
use Rattle.linked_pair.specs.SideNumbers.{constants_in}
use Rattle.linked_pair.specs.GlobalConstants.{constant_of_end, constants_of_ends}
use Rattle.linked_pair.proofs.Law.{past_imports}

-- a side has as many numbers of globals as it has globals
pub all_numbered : (pair : ModulePair) (side : Side)
    → length (numbers_in pair Globals side)
    ≡ length (imports_in Globals (module_of pair side)) + defined_in Globals (module_of pair side)
all_numbered pair side =
    let m = module_of pair side in
    let all = length (imports_in Globals m) + defined_in Globals m in
    length-map (count_from 0 all) (λ index. option_map_or (number_of pair Globals) (end_of pair Globals side index) no_number)
    ∙ counted 0 all

-- of the globals of a side, all but the defined ones are imported
module _ (pair : ModulePair) (side : Side) (numbers : List ℕ) (globals : List Global) (given : Module)
    (are : numbers ≡ numbers_in pair Globals side) (own : globals ≡ given.globals) (same : given ≡ module_of pair side) where
  all_counted : length numbers ≡ length (imports_in Globals (module_of pair side)) + length globals
  all_counted =
      let defined : length globals ≡ length (module_of pair side).globals = ap length own ∙ ap (λ (m : Module). length m.globals) same in
      ap length are ∙ all_numbered pair side ∙ ap (λ n. length (imports_in Globals (module_of pair side)) + n) (sym defined)

  pub defined_within : length globals ≤ length numbers
  defined_within = let all = all_counted in omega (arith, all)

  pub others_imported : length numbers - length globals ≡ length (imports_in Globals (module_of pair side))
  others_imported = let all = all_counted in omega (arith, all)

-- a side imports no more globals than both modules import in all
few_passed : (is : List Import) → length (filter (λ (i : Import). is_in Globals i.kind) is) ≤ length is
few_passed is =
    let all = length-filter_both (λ (i : Import). is_in Globals i.kind) (λ (i : Import). not (is_in Globals i.kind)) (λ i. refl) is in
    omega (arith, all)

few_imports : (pair : ModulePair) (side : Side)
    → length (imports_in Globals (module_of pair side)) ≤ length pair.left.imports + length pair.right.imports
few_imports pair Left = let few = few_passed pair.left.imports in omega (arith, few)
few_imports pair Right = let few = few_passed pair.right.imports in omega (arith, few)

-- the constant of an end, with its number
of_end : (pair : ModulePair) (x : ℕ) (o : Option End)
    → constant_of_end pair x (option_map_or (number_of pair Globals) (option_map chain_end o) no_number) o
    ≡ constant_by pair (instr.GlobalGet x ∷ instr.End ∷ []) (option_map chain_end o)
of_end pair x None = refl
of_end pair x (Some (HostImport side y)) = refl
of_end pair x (Some (Defined side y)) = refl

module _ (pair : ModulePair) (ends : Ends) (side : Side) (are : AreEnds pair Globals ends) where
  abbrev number : ℕ → ℕ
  number x = option_map_or (number_of pair Globals) (end_of pair Globals side x) no_number

  abbrev constant : ℕ → List Instr
  constant x = linked_constant pair side (instr.GlobalGet x ∷ instr.End ∷ [])

  of_index : (x : ℕ) → constant_of_end pair x (number x) (end_at ends side x) ≡ constant x
  of_index x =
      let e = end_at ends side x in
      ap (λ o. constant_of_end pair x (option_map_or (number_of pair Globals) o no_number) e) (sym (are.are side x))
      ∙ of_end pair x e
      ∙ ap (constant_by pair (instr.GlobalGet x ∷ instr.End ∷ [])) (are.are side x)

  from : (first count : ℕ)
      → constants_of_ends pair ends side first (map number (count_from first count)) ≡ map constant (count_from first count)
  from first zero = refl
  from first (suc count) = ap₂ (λ c cs. c ∷ cs) (of_index first) (from (first + 1) count)

  pub constants_are : (numbers : List ℕ) → numbers ≡ numbers_in pair Globals side
      → constants_of_ends pair ends side 0 numbers ≡ constants_in pair side
  constants_are numbers same =
      ap (constants_of_ends pair ends side 0) same
      ∙ from 0 (length (imports_in Globals (module_of pair side)) + defined_in Globals (module_of pair side))

  -- only an import has a chain without an end
  import_without_end : length pair.left.imports + length pair.right.imports < 2 ^ 32 → (x : ℕ) → end_at ends side x ≡ None
      → x < 2 ^ 32
  import_without_end fewer x none = by (slice_get_cases own x).1
    where
      own : List Import
      own = imports_in Globals (module_of pair side)

      by : ((i : Import) × (x < length own) × (slice_get own x ≡ Some i) × (get_or own x i ≡ i))
          ⊎ ((length own ≤ x) × (slice_get own x ≡ None)) → x < 2 ^ 32
      by (inl (i, within, there, same)) =
          let few : length own ≤ length pair.left.imports + length pair.right.imports = few_imports pair side in
          omega (arith, within, few, fewer)
      by (inr (past, nothing)) =
          let no_end : end_of pair Globals side x ≡ None = sym (are.are side x) ∙ ap (option_map chain_end) none in
          absurd (none_some (end_of pair Globals side x) (chain.Defined side x) no_end (past_imports pair side x past))

  pub low_without_end : length pair.left.imports + length pair.right.imports < 2 ^ 32 → (x : ℕ) (o : Option End)
      → o ≡ end_at ends side x → IfNone o (x < 2 ^ 32)
  low_without_end fewer x None is = import_without_end fewer x (sym is)
  low_without_end fewer x (Some e) is = tt
