-- The ends of chains of imports, where a pair has no fault.
use Rattle.std.proofs.Common.{◌≡◌, ℕ, zero, suc, ◌+◌, List, [], ◌∷◌, length, filter, take, Option, Some, None, Bool, true, false, cond, ◌||◌, slice_get, option_and_then, refl, sym, ap, ◌∙◌, subst, arith}
use Rattle.std.specs.Option.{option_or}
use Rattle.std.proofs.lemmas.List.Elements.{filter_passes}
use Rattle.base.proofs.Lists.{all_at}
use Rattle.wasm_syntax.specs.declared.signatures.GlobalType.{GlobalType}
use Rattle.wasm_syntax.specs.declared.modules.Module.{Module}
use Rattle.wasm_syntax.specs.declared.modules.Import.{Import}
use Rattle.wasm_syntax.specs.declared.modules.ImportKind.{ImportKind}
use Rattle.wasm_syntax.specs.declared.modules.ImportKind.TheVariants as import
use Rattle.wasm_syntax.specs.Index.{imported_globals}
use Rattle.instance_spec.specs.declared.sides.Side.{Side}
use Rattle.instance_spec.specs.declared.sides.Side.TheVariants.{Left, Right}
use Rattle.pair_spec.specs.declared.faults.PairFault.{PairFault}
use Rattle.pair_spec.specs.declared.faults.PairFault.TheVariants.{Unresolved, Mismatch}
use Rattle.pair_spec.specs.Pairs.{ModulePair, module_of, other_side, is_from_other, Space, Funcs, Tables, Memories, Globals, is_in, imports_in, space_of, exported_index}
use Rattle.pair_spec.specs.Chains.{ChainEnd, Defined, HostImport, end_by, end_after, end_of}
use Rattle.pair_spec.specs.PairRuns.{init_at}
use Rattle.pair_spec.specs.Faults.{fault_unless, does_match, is_one_const, has_constant, fault_by_end, import_index, import_fault, first_import_fault, first_pair_fault}
use Rattle.pair_laws.proofs.Imports.{global_at}
use Rattle.pair_laws.proofs.Lists.{place_of}

-- ---- ends

-- an import of the host, by its index
abbrev pub IsHost : ModulePair → Space → Side → ℕ → Type 0
IsHost pair space side y =
    (i : Import) × (slice_get (imports_in space (module_of pair side)) y ≡ Some i) × (is_from_other side i ≡ false)

-- an end is an import of the host if it is said to be one, and else no import
abbrev pub IsEnd : ModulePair → Space → ChainEnd → Type 0
IsEnd pair space (Defined side y) = slice_get (imports_in space (module_of pair side)) y ≡ None
IsEnd pair space (HostImport side y) = IsHost pair space side y

-- the side of an end
abbrev pub end_side : ChainEnd → Side
end_side (Defined side y) = side
end_side (HostImport side y) = side

module _ (pair : ModulePair) (space : Space) where
  end_from : (later : Side → ℕ → Option ChainEnd)
      → ((side : Side) (x : ℕ) (e : ChainEnd) → later side x ≡ Some e → IsEnd pair space e)
      → (side : Side) (x : ℕ) (e : ChainEnd) (o : Option Import)
      → slice_get (imports_in space (module_of pair side)) x ≡ o → end_by later pair space side x o ≡ Some e
      → IsEnd pair space e
  end_from later known side x e None there is =
      let same : Defined side x ≡ e = cc in
      subst (IsEnd pair space) same there
  end_from later known side x e (Some i) there is = by (is_from_other side i) refl is
    where
      on : (o : Option ℕ) → option_and_then (later (other_side side)) o ≡ Some e → IsEnd pair space e
      on None is = cc
      on (Some y) is = known (other_side side) y e is

      by : (b : Bool) → is_from_other side i ≡ b
          → cond b
          (option_and_then (later (other_side side)) (exported_index space (module_of pair (other_side side)) i.name))
          (Some (HostImport side x))
          ≡ Some e
          → IsEnd pair space e
      by true from is = on (exported_index space (module_of pair (other_side side)) i.name) is
      by false own is =
          let same : HostImport side x ≡ e = cc in
          subst (IsEnd pair space) same (i, there, own)

  pub ends_are : (k : ℕ) (side : Side) (x : ℕ) (e : ChainEnd) → end_after k pair space side x ≡ Some e
      → IsEnd pair space e
  ends_are zero side x e is = cc
  ends_are (suc k) side x e is =
      end_from (end_after k pair space) (ends_are k) side x e (slice_get (imports_in space (module_of pair side)) x)
      refl is

  -- an import of the host is the end of its own chain
  pub own_end : (k : ℕ) (side : Side) (x : ℕ) (i : Import) → slice_get (imports_in space (module_of pair side)) x ≡ Some i
      → is_from_other side i ≡ false → end_after (suc k) pair space side x ≡ Some (HostImport side x)
  own_end k side x i there own =
      let later = end_after k pair space in
      ap (end_by later pair space side x) there
      ∙ ap
      (λ b. cond b
      (option_and_then (later (other_side side)) (exported_index space (module_of pair (other_side side)) i.name))
      (Some (HostImport side x)))
      own

-- an end of a chain of globals has a value that is known before the run: the host's, or one constant
abbrev pub HasValue : ModulePair → ChainEnd → Type 0
HasValue pair (Defined side y) = is_one_const (init_at pair side y) ≡ true
HasValue pair (HostImport side y) = IsHost pair Globals side y

-- ---- imports without a fault

pub or_none : {X : Type 0} (a b : Option X) → option_or a b ≡ None → (a ≡ None) × (b ≡ None)
or_none None b h = (refl, h)
or_none (Some x) b h = cc

pub passes : (b : Bool) (fault : PairFault) → fault_unless b fault ≡ None → b ≡ true
passes true fault h = refl
passes false fault h = cc

or_else : (a b : Bool) → (a || b) ≡ true → a ≡ false → b ≡ true
or_else true b h e = cc
or_else false b h e = h

pub no_import_fault : (pair : ModulePair) → first_pair_fault pair ≡ None → (side : Side)
    → first_import_fault pair side 0 (module_of pair side).imports ≡ None
no_import_fault pair none Left = (or_none (first_import_fault pair Left 0 pair.left.imports) _ none).0
no_import_fault pair none Right =
    (or_none (first_import_fault pair Right 0 pair.right.imports) _
    (or_none (first_import_fault pair Left 0 pair.left.imports) _ none).1).0

space_is : (space : Space) (kind : ImportKind) → is_in space kind ≡ true → space_of kind ≡ space
space_is Funcs (import.Func ty) h = refl
space_is Tables (import.Table limits) h = refl
space_is Memories (import.Memory limits) h = refl
space_is Globals (import.Global ty) h = refl
space_is space kind h = cc

module _ (pair : ModulePair) (side : Side) where
  abbrev m : Module
  m = module_of pair side

  no_fault_at : (imports : List Import) (at k : ℕ) (i : Import) → first_import_fault pair side at imports ≡ None
      → slice_get imports k ≡ Some i → import_fault pair side (at + k) i ≡ None
  no_fault_at [] at k i none there = cc
  no_fault_at (first ∷ imports) at zero i none there =
      let parts = or_none (import_fault pair side at first) (first_import_fault pair side (at + 1) imports) none in
      let same : first ≡ i = cc in
      let place : at + 0 ≡ at = omega arith in
      ap (λ n. import_fault pair side n i) place ∙ sym (ap (import_fault pair side at) same) ∙ parts.0
  no_fault_at (first ∷ imports) at (suc k) i none there =
      let parts = or_none (import_fault pair side at first) (first_import_fault pair side (at + 1) imports) none in
      let place : at + suc k ≡ at + 1 + k = omega arith in
      ap (λ n. import_fault pair side n i) place ∙ no_fault_at imports (at + 1) k i parts.1 there

  -- an end that has no fault
  pub record IsFaultless (kind : ImportKind) (o : Option ChainEnd) : Type 0 where
    pub found : ChainEnd
    pub is : o ≡ Some found
    pub constant : has_constant pair kind found ≡ true
    pub matches : does_match pair side kind found ≡ true

  faultless : (place : ℕ) (kind : ImportKind) (o : Option ChainEnd) → fault_by_end pair side place kind o ≡ None
      → IsFaultless kind o
  faultless place kind None h = cc
  faultless place kind (Some e) h =
      let constant = has_constant pair kind e in
      let matches = does_match pair side kind e in
      let parts = or_none (fault_unless constant (Unresolved side place)) (fault_unless matches (Mismatch side place)) h in
      record {
        found = e;
        is = refl;
        constant = passes constant (Unresolved side place) parts.0;
        matches = passes matches (Mismatch side place) parts.1;
      }

  -- an import from the other side, by its index
  pub import_end : first_import_fault pair side 0 m.imports ≡ None → (space : Space) (x : ℕ) (i : Import)
      → slice_get (imports_in space m) x ≡ Some i → is_from_other side i ≡ true
      → IsFaultless i.kind (end_of pair space side x)
  import_end none space x i there from =
      let own = place_of (λ (i : Import). is_in space i.kind) m.imports x i there in
      let zero : 0 + own.place ≡ own.place = omega arith in
      let fault = ap (λ n. import_fault pair side n i) (sym zero) ∙ no_fault_at m.imports 0 own.place i none own.there in
      let by_kind : fault_by_end pair side own.place i.kind
      (end_of pair (space_of i.kind) side (import_index m own.place i.kind)) ≡ None =
      ap (λ b. cond b (fault_by_end pair side own.place i.kind
      (end_of pair (space_of i.kind) side (import_index m own.place i.kind))) None) (sym from)
      ∙ fault in
      let passed = all_at (λ (i : Import). is_in space i.kind ≡ true) (imports_in space m) x i
      (filter_passes (λ (i : Import). is_in space i.kind) m.imports) there in
      let by_space = ap (λ (s : Space). fault_by_end pair side own.place i.kind
      (end_of pair s side (length (filter (λ (i : Import). is_in s i.kind) (take own.place m.imports)))))
      (sym (space_is space i.kind passed)) ∙ by_kind in
      faultless own.place i.kind (end_of pair space side x)
      (ap (λ n. fault_by_end pair side own.place i.kind (end_of pair space side n)) (sym own.before) ∙ by_space)

  -- ---- immutable imports of globals

  pub record IsKnown (x : ℕ) : Type 0 where
    pub found : ChainEnd
    pub is : end_of pair Globals side x ≡ Some found
    pub value : HasValue pair found

  value_by : (ty : GlobalType) → ty.mutable ≡ false → (e : ChainEnd) → has_constant pair (import.Global ty) e ≡ true
      → IsEnd pair Globals e → HasValue pair e
  value_by ty fixed (Defined s y) constant host = or_else ty.mutable (is_one_const (init_at pair s y)) constant fixed
  value_by ty fixed (HostImport s y) constant host = host

  pub known_end : first_import_fault pair side 0 m.imports ≡ None → (x : ℕ) (ty : GlobalType)
      → slice_get (imported_globals m) x ≡ Some ty → ty.mutable ≡ false → IsKnown x
  known_end none x ty there fixed =
      let own = global_at m.imports x ty there in
      by own.imported own.there own.kind_is (is_from_other side own.imported) refl
    where
      by : (i : Import) → slice_get (imports_in Globals m) x ≡ Some i → i.kind ≡ import.Global ty
          → (b : Bool) → is_from_other side i ≡ b → IsKnown x
      by i there kind_is true from =
          let own = import_end none Globals x i there from in
          let host = ends_are pair Globals (length pair.left.imports + length pair.right.imports + 1) side x own.found
          own.is in
          record {
            found = own.found;
            is = own.is;
            value = value_by ty fixed own.found
                (subst (λ kind. has_constant pair kind own.found ≡ true) kind_is own.constant) host;
          }
      by i there kind_is false own =
          let all = length pair.left.imports + length pair.right.imports in
          let more : all + 1 ≡ suc all = omega arith in
          record {
            found = HostImport side x;
            is = ap (λ k. end_after k pair Globals side x) more ∙ own_end pair Globals all side x i there own;
            value = (i, there, own);
          }

-- so each immutable global that a valid side imports has a known value
pub globals_known : (pair : ModulePair) → first_pair_fault pair ≡ None → (side : Side) (x : ℕ) (ty : GlobalType)
    → slice_get (imported_globals (module_of pair side)) x ≡ Some ty → ty.mutable ≡ false → IsKnown pair side x
globals_known pair none side x ty there fixed =
    known_end pair side (no_import_fault pair none side) x ty there fixed
