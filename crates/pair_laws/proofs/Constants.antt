-- The constant expressions of a linked module have the values that they have in the pair.
use Rattle.std.proofs.Common.{◌≡◌, ℕ, zero, suc, ◌+◌, ◌<◌, ◌≤◌, List, [], ◌∷◌, length, take, Option, Some, None, true, not, slice_get, option_map, option_and_then, unwrap_or, refl, sym, ap, ◌∙◌, subst, length-append, arith}
use Rattle.std.specs.Prelude.{Ok}
use Rattle.std.specs.List.{AllByRecursion, cons_option, slice_index_or}
use Rattle.std.proofs.lemmas.Option.{slice_get-map, slice_get_within}
use Rattle.base.proofs.Options.{and_then_some, cond_none_some}
use Rattle.wasm_syntax.specs.declared.values.Val.{Val}
use Rattle.wasm_syntax.specs.declared.values.ValType.{ValType}
use Rattle.wasm_syntax.specs.declared.values.ValType.TheVariants.{I32}
use Rattle.wasm_syntax.specs.declared.signatures.GlobalType.{GlobalType}
use Rattle.wasm_syntax.specs.declared.instructions.Instr.{Instr}
use Rattle.wasm_syntax.specs.declared.instructions.Instr.TheVariants.{Const, End, GlobalGet}
use Rattle.wasm_syntax.specs.declared.modules.Module.{Module}
use Rattle.wasm_syntax.specs.declared.modules.Import.{Import}
use Rattle.wasm_syntax.specs.declared.modules.ImportKind.{ImportKind}
use Rattle.wasm_syntax.specs.declared.modules.ImportKind.TheVariants as import
use Rattle.wasm_syntax.specs.declared.modules.Global.{Global}
use Rattle.wasm_syntax.specs.declared.modules.ElemSeg.{ElemSeg}
use Rattle.wasm_syntax.specs.declared.modules.ElemSeg.TheVariants.{Active, Declared}
use Rattle.wasm_syntax.specs.declared.modules.DataSeg.{DataSeg}
use Rattle.wasm_syntax.specs.Index.{of_kind, global_import, imported_globals}
use Rattle.wasm_syntax.specs.Validity.{IsConstant, IsData, IsElem, IsGlobal, IsValid, constant_type, immutable_type, single}
use Rattle.wasm_syntax.proofs.JoinedLists.{kinds_append}
use Rattle.wasm_syntax.proofs.ValidParts.{single_is}
use Rattle.host_script.specs.declared.scripts.Script.{Script}
use Rattle.host_script.specs.declared.scripts.Supply.{Supply}
use Rattle.host_script.specs.Supply.{Alike, first_fault, given_values, globals_in, import_match, match_of_value}
use Rattle.host_script.proofs.Faults.{no_fault, no_link_fault}
use Rattle.history_spec.specs.Code.{zero_of}
use Rattle.history_spec.specs.Instantiation.{constant}
use Rattle.instance_spec.specs.declared.sides.Side.{Side}
use Rattle.instance_spec.specs.declared.sides.Side.TheVariants.{Left, Right}
use Rattle.instance_spec.specs.ForeignRuns.{count_from}
use Rattle.instance_laws.proofs.Numbers.{counted_at}
use Rattle.pair_spec.specs.Pairs.{ModulePair, module_of, is_from_other, host_imports, Globals, imports_in}
use Rattle.pair_spec.specs.Chains.{ChainEnd, Defined, HostImport, end_of}
use Rattle.pair_spec.specs.Numbers.{all_hosts, host_count, number_of}
use Rattle.pair_spec.specs.PairRuns.{init_at, pair_hosts, pair_supply, value_of, values_of}
use Rattle.pair_spec.specs.Linked.{constant_by, linked_constant}
use Rattle.pair_spec.specs.Faults.{is_one_const}
use Rattle.pair_laws.specs.Laws.{AreLinkable}
use Rattle.pair_laws.proofs.Lists.{index_there, one_by_one, passed_at}
use Rattle.pair_laws.proofs.Imports.{is_global, hosts_counted, global_at}
use Rattle.pair_laws.proofs.Chains.{IsHost, HasValue, IsKnown, globals_known}

-- ---- values of the host

-- a value is given
abbrev IsGiven : List (Option Val) → ℕ → Type 0
IsGiven given k = (value : Val) × (slice_get given k ≡ Some (Some value))

matched_value : (o : Option (Option Val)) (ty : GlobalType) → match_of_value (option_and_then (λ value. value) o) ty ≡ Alike
    → (value : Val) × (o ≡ Some (Some value))
matched_value None ty h = cc
matched_value (Some None) ty h = cc
matched_value (Some (Some value)) ty h = (value, refl)

-- a value is given for each import of a global
values_given : (script : Script) (imports : List Import) (at globals : ℕ) → first_fault script imports at globals ≡ None
    → (k : ℕ) → k < length (of_kind global_import imports) → IsGiven script.globals (globals + k)
values_given script [] at globals h k low = absurd (omega (arith, low))
values_given script (i ∷ imports) at globals h k low =
    let parts = no_fault (import_match script globals i.kind) at
    (first_fault script imports (at + 1) (globals + globals_in i.kind)) h in
    by i.kind parts.0 (values_given script imports (at + 1) (globals + globals_in i.kind) parts.1) k low
  where
    same : (k : ℕ) → IsGiven script.globals (globals + 0 + k) → IsGiven script.globals (globals + k)
    same k given = let number : globals + 0 + k ≡ globals + k = omega arith in subst (IsGiven script.globals) number given

    by : (kind : ImportKind) → import_match script globals kind ≡ Alike
        → ((j : ℕ) → j < length (of_kind global_import imports) → IsGiven script.globals (globals + globals_in kind + j))
        → (k : ℕ) → k < length (cons_option (global_import kind) (of_kind global_import imports))
        → IsGiven script.globals (globals + k)
    by (import.Func ty) own later k low = same k (later k low)
    by (import.Table limits) own later k low = same k (later k low)
    by (import.Memory limits) own later k low = same k (later k low)
    by (import.Global ty) own later zero low =
        let number : globals ≡ globals + 0 = omega arith in
        subst (IsGiven script.globals) number (matched_value (slice_get script.globals globals) ty own)
    by (import.Global ty) own later (suc k) low =
        let number : globals + 1 + k ≡ globals + suc k = omega arith in
        subst (IsGiven script.globals) number (later k (omega (arith, low)))

-- the values that are given have the places of their globals
given_at : (given : List (Option Val)) (k : ℕ) → ((j : ℕ) → j ≤ k → IsGiven given j)
    → (value : Val) × (slice_get (given_values given) k ≡ Some value)
given_at [] k each = let none = (each 0 (omega arith)).1 in cc
given_at (None ∷ given) k each = let none = (each 0 (omega arith)).1 in cc
given_at (Some value ∷ given) zero each = (value, refl)
given_at (Some value ∷ given) (suc k) each = given_at given k (λ j low. each (suc j) (omega (arith, low)))

-- ---- constant expressions

const_alike : (imported : List Val) (z : Val) (body : List Instr) → is_one_const body ≡ true
    → constant imported z body ≡ constant [] (zero_of I32) body
const_alike imported z (Const value ∷ End ∷ []) h = refl
const_alike imported z body h = cc

-- both modules are valid
pub valid_side : (pair : ModulePair) → AreLinkable pair → (side : Side) → IsValid (module_of pair side)
valid_side pair linkable Left = linkable.left
valid_side pair linkable Right = linkable.right

-- What holds of each constant expression of a side and of what it becomes, if it holds of one constant, which stays, and
-- of a global's, which becomes that of the end of the global's chain.
module _ (pair : ModulePair) (linkable : AreLinkable pair) (side : Side)
    (Holds : (before after : List Instr) → Type 0)
    (stays : (value : Val) → Holds (Const value ∷ End ∷ []) (Const value ∷ End ∷ []))
    (becomes : (x : ℕ) (e : ChainEnd) → HasValue pair e
    → Holds (GlobalGet x ∷ End ∷ []) (constant_by pair (GlobalGet x ∷ End ∷ []) (Some e))) where
  abbrev own_module : Module
  own_module = module_of pair side

  global_becomes : (x : ℕ) (ty : ValType) → constant_type own_module (GlobalGet x) ≡ Some ty
      → Holds (GlobalGet x ∷ End ∷ []) (linked_constant pair side (GlobalGet x ∷ End ∷ []))
  global_becomes x ty h =
      let body = GlobalGet x ∷ End ∷ [] in
      let own = and_then_some (slice_get (imported_globals own_module) x) immutable_type ty h in
      let fixed = cond_none_some own.0.mutable (Some own.0.ty) ty own.2 in
      let known = globals_known pair linkable.no_fault side x own.0 own.1 fixed.0 in
      subst (λ o. Holds body (constant_by pair body o)) (sym known.is) (becomes x known.found known.value)

  instr_becomes : (instr : Instr) (ty : ValType) → constant_type own_module instr ≡ Some ty
      → Holds (instr ∷ End ∷ []) (linked_constant pair side (instr ∷ End ∷ []))
  instr_becomes (Const value) ty h = stays value
  instr_becomes (GlobalGet x) ty h = global_becomes x ty h
  instr_becomes instr ty h = cc

  pub constant_becomes : (ty : ValType) (body : List Instr) → IsConstant own_module ty body
      → Holds body (linked_constant pair side body)
  constant_becomes ty body h =
      let own = and_then_some (single body) (constant_type own_module) ty h in
      subst (λ body. Holds body (linked_constant pair side body)) (sym (single_is body own.0 own.1))
      (instr_becomes own.0 ty own.2)

module _ (pair : ModulePair) where
  pub hosts_whole : length (of_kind global_import (pair_hosts pair)) ≡ all_hosts pair Globals
  hosts_whole =
      let left = host_imports Left pair.left.imports in
      let right = host_imports Right pair.right.imports in
      ap length (kinds_append global_import left right)
      ∙ length-append (of_kind global_import left) (of_kind global_import right)
      ∙ (λ j. hosts_counted global_import Globals is_global Left pair.left.imports j
      + hosts_counted global_import Globals is_global Right pair.right.imports j)

  -- the number of an import of the host is one of theirs
  host_low : (side : Side) (y : ℕ) → IsHost pair Globals side y
      → length (host_imports side (take y (imports_in Globals (module_of pair side)))) < host_count pair Globals side
  host_low side y (i, there, own) =
      let imports = imports_in Globals (module_of pair side) in
      slice_get_within (host_imports side imports) (length (host_imports side (take y imports))) i
      (passed_at (λ i. not (is_from_other side i)) imports y i there (ap not own))

  pub number_low : (side : Side) (y : ℕ) → IsHost pair Globals side y
      → number_of pair Globals (HostImport side y) < all_hosts pair Globals
  number_low Left y host = let low = host_low Left y host in omega (arith, low)
  number_low Right y host = let low = host_low Right y host in omega (arith, low)

module _ (pair : ModulePair) (script : Script) (supply : Supply) (is : pair_supply pair script ≡ Ok supply) where
  -- the host's value of each number
  host_given : (k : ℕ) → k < all_hosts pair Globals → (value : Val) × (slice_get supply.globals k ≡ Some value)
  host_given k low =
      let parts = no_link_fault (first_fault script (pair_hosts pair) 0 0) _ supply is in
      let each : (j : ℕ) → j ≤ k → IsGiven script.globals j =
      λ j below.
      let zero : 0 + j ≡ j = omega arith in
      subst (IsGiven script.globals) zero
      (values_given script (pair_hosts pair) 0 0 parts.0 j (omega (arith, below, low, hosts_whole pair))) in
      let own = given_at script.globals k each in
      (own.0, ap (λ (s : Supply). slice_get s.globals k) (sym parts.1) ∙ own.1)

  host_alike : (side : Side) (y : ℕ) → IsHost pair Globals side y → (z : Val)
      → unwrap_or (slice_get supply.globals (number_of pair Globals (HostImport side y))) z
      ≡ slice_index_or supply.globals (number_of pair Globals (HostImport side y)) (zero_of I32)
  host_alike side y host z =
      let number = number_of pair Globals (HostImport side y) in
      let own = host_given number (number_low pair side y host) in
      ap (λ o. unwrap_or o z) own.1 ∙ sym (index_there supply.globals number (zero_of I32) own.0 own.1)

  end_alike : (body : List Instr) (e : ChainEnd) → HasValue pair e → (z : Val)
      → constant supply.globals z (constant_by pair body (Some e)) ≡ value_of pair supply (Some e)
  end_alike body (Defined s y) known z = const_alike supply.globals z (init_at pair s y) known
  end_alike body (HostImport s y) known z = host_alike s y known z

  module _ (side : Side) where
    abbrev m : Module
    m = module_of pair side

    -- a constant expression has the value in the linked module that it has in the pair
    abbrev pub IsAlike : List Instr → Type 0
    IsAlike body =
        (z : Val) → constant supply.globals z (linked_constant pair side body) ≡ constant (values_of pair supply side) z body

    abbrev pub IsAlikeElem : ElemSeg → Type 0
    IsAlikeElem (Active table offset funcs) = IsAlike offset
    IsAlikeElem (Declared funcs) = Unit {0}

    -- the value of an import of a global, by its index
    value_there : (x : ℕ) → x < length (imports_in Globals m) → (z : Val)
        → unwrap_or (slice_get (values_of pair supply side) x) z ≡ value_of pair supply (end_of pair Globals side x)
    value_there x low z =
        let count = length (imports_in Globals m) in
        let value : ℕ → Val = λ x. value_of pair supply (end_of pair Globals side x) in
        let zero : 0 + x ≡ x = omega arith in
        ap (λ o. unwrap_or o z) (slice_get-map value (count_from 0 count) x)
        ∙ ap (λ o. unwrap_or (option_map value o) z) (counted_at 0 count x low)
        ∙ ap value zero

    global_alike : (x : ℕ) → x < length (imports_in Globals m) → IsKnown pair side x → IsAlike (GlobalGet x ∷ End ∷ [])
    global_alike x low known z =
        let body = GlobalGet x ∷ End ∷ [] in
        ap (λ o. constant supply.globals z (constant_by pair body o)) known.is
        ∙ end_alike body known.found known.value z
        ∙ ap (value_of pair supply) (sym known.is)
        ∙ sym (value_there x low z)

    module _ (linkable : AreLinkable pair) where
      instr_alike : (i : Instr) (ty : ValType) → constant_type m i ≡ Some ty → IsAlike (i ∷ End ∷ [])
      instr_alike (Const value) ty h z = refl
      instr_alike (GlobalGet x) ty h z =
          let own = and_then_some (slice_get (imported_globals m) x) immutable_type ty h in
          let fixed = cond_none_some own.0.mutable (Some own.0.ty) ty own.2 in
          let there = global_at m.imports x own.0 own.1 in
          let low = slice_get_within (imports_in Globals m) x there.imported there.there in
          global_alike x low (globals_known pair linkable.no_fault side x own.0 own.1 fixed.0) z
      instr_alike i ty h z = cc

      body_alike : (ty : ValType) (body : List Instr) → IsConstant m ty body → IsAlike body
      body_alike ty body h =
          let own = and_then_some (single body) (constant_type m) ty h in
          subst IsAlike (sym (single_is body own.0 own.1)) (instr_alike own.0 ty own.2)

      elem_alike : (e : ElemSeg) → IsElem m e → IsAlikeElem e
      elem_alike (Active table offset funcs) h = body_alike I32 offset h.1
      elem_alike (Declared funcs) h = tt

    -- all constant expressions of a side have the values that they have in the pair
    pub record AreAlike : Type 0 where
      pub globals : AllByRecursion (λ (g : Global). IsAlike g.init) m.globals
      pub elems : AllByRecursion IsAlikeElem m.elems
      pub datas : AllByRecursion (λ (d : DataSeg). IsAlike d.offset) m.datas

    pub are_alike : AreLinkable pair → AreAlike
    are_alike linkable =
        let outside = (valid_side pair linkable side).outside in
        record {
          globals =
              one_by_one (IsGlobal m) (λ (g : Global). IsAlike g.init)
              (λ g h. body_alike linkable g.ty.ty g.init h.init) m.globals outside.globals;
          elems = one_by_one (IsElem m) IsAlikeElem (elem_alike linkable) m.elems outside.elems;
          datas =
              one_by_one (IsData m) (λ (d : DataSeg). IsAlike d.offset)
              (λ d h. body_alike linkable I32 d.offset h.offset) m.datas outside.datas;
        }
