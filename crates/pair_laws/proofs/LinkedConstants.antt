-- The constant expressions of a linked module are constant, and have their types.
use Rattle.std.proofs.Common.{◌≡◌, ℕ, ◌-◌, List, [], ◌∷◌, length, map, Some, true, slice_get, option_and_then, sym, ap, ◌∙◌, subst, arith}
use Rattle.std.specs.Option.{option_map_or}
use Rattle.std.proofs.lemmas.Option.{slice_get-map, slice_get_within}
use Rattle.base.proofs.Lists.{all_at, get_front}
use Rattle.base.proofs.Options.{and_then_some, cond_none_some, map_some, same_some}
use Rattle.wasm_syntax.specs.declared.values.ValType.{ValType}
use Rattle.wasm_syntax.specs.declared.signatures.GlobalType.{GlobalType}
use Rattle.wasm_syntax.specs.declared.instructions.Instr.{Instr}
use Rattle.wasm_syntax.specs.declared.instructions.Instr.TheVariants.{Const, End, GlobalGet}
use Rattle.wasm_syntax.specs.declared.modules.Module.{Module}
use Rattle.wasm_syntax.specs.declared.modules.Global.{Global}
use Rattle.wasm_syntax.specs.Index.{imported_globals, all_globals}
use Rattle.wasm_syntax.specs.Validity.{IsConstant, IsGlobal, constant_type, immutable_type, single}
use Rattle.wasm_syntax.proofs.ValidParts.{single_is}
use Rattle.instance_spec.specs.declared.sides.Side.{Side}
use Rattle.pair_spec.specs.Pairs.{ModulePair, module_of, Globals, imports_in}
use Rattle.pair_spec.specs.Chains.{ChainEnd, Defined, HostImport, end_module, end_index, end_of}
use Rattle.pair_spec.specs.Numbers.{number_of}
use Rattle.pair_spec.specs.PairRuns.{init_at}
use Rattle.pair_spec.specs.Linked.{constant_by, linked_constant, linked}
use Rattle.pair_spec.specs.Faults.{is_one_const}
use Rattle.pair_laws.specs.Laws.{AreLinkable}
use Rattle.pair_laws.proofs.Chains.{IsEnd, HasValue, globals_known}
use Rattle.pair_laws.proofs.Constants.{hosts_whole, number_low, valid_side}
use Rattle.pair_laws.proofs.LinkedItems.{at_end, own_item}
use Rattle.pair_laws.proofs.LinkedSpaces.{global_space, global_found, globals_whole, imported_globals_whole, kept}

-- one constant is a constant expression of its type in every module
const_kept : (m other : Module) (ty : ValType) (body : List Instr) → is_one_const body ≡ true → IsConstant m ty body
    → IsConstant other ty body
const_kept m other ty (Const value ∷ End ∷ []) one h = h
const_kept m other ty body one h = cc

module _ (pair : ModulePair) (linkable : AreLinkable pair) where
  abbrev whole : Module
  whole = linked pair

  -- the host's global, by its number
  host_global : (s : Side) (y : ℕ) (g : GlobalType) → IsEnd pair Globals (HostImport s y)
      → slice_get (all_globals (module_of pair s)) y ≡ Some g
      → slice_get (imported_globals whole) (number_of pair Globals (HostImport s y)) ≡ Some g
  host_global s y g host there =
      let number = number_of pair Globals (HostImport s y) in
      let low = number_low pair s y host in
      let long = ap length (imported_globals_whole pair) ∙ hosts_whole pair in
      sym (get_front (imported_globals whole) (map (λ (g : Global). g.ty) whole.globals) number (omega (arith, low, long)))
      ∙ ap (λ l. slice_get l number) (globals_whole pair)
      ∙ at_end GlobalType Globals global_space pair kept (HostImport s y) g host there

  end_constant : (body : List Instr) (ty : ValType) (g : GlobalType) (e : ChainEnd) → HasValue pair e
      → IsEnd pair Globals e → slice_get (all_globals (end_module pair e)) (end_index e) ≡ Some g → g.ty ≡ ty
      → immutable_type g ≡ Some ty → IsConstant whole ty (constant_by pair body (Some e))
  end_constant body ty g (HostImport s y) value host there same fixed =
      ap (option_and_then immutable_type) (host_global s y g host there) ∙ fixed
  end_constant body ty g (Defined s y) value none there same fixed =
      let m = module_of pair s in
      let k = y - length (imports_in Globals m) in
      let item = sym (slice_get-map (λ (g : Global). g.ty) m.globals k)
      ∙ sym (own_item GlobalType Globals global_space m y none) ∙ there in
      let own = map_some (λ (g : Global). g.ty) (slice_get m.globals k) g item in
      let init : init_at pair s y ≡ own.0.init = ap (λ o. option_map_or (λ (g : Global). g.init) o []) own.1 in
      let valid = all_at (IsGlobal m) m.globals k own.0 (valid_side pair linkable s).outside.globals own.1 in
      let typed : own.0.ty.ty ≡ ty = ap (λ (g : GlobalType). g.ty) own.2 ∙ same in
      subst (IsConstant whole ty) (sym init)
      (const_kept m whole ty own.0.init (sym (ap is_one_const init) ∙ value)
      (subst (λ t. IsConstant m t own.0.init) typed valid.init))

  module _ (side : Side) where
    abbrev m : Module
    m = module_of pair side

    global_constant : (x : ℕ) (ty : ValType) → constant_type m (GlobalGet x) ≡ Some ty
        → IsConstant whole ty (linked_constant pair side (GlobalGet x ∷ End ∷ []))
    global_constant x ty h =
        let body = GlobalGet x ∷ End ∷ [] in
        let own = and_then_some (slice_get (imported_globals m) x) immutable_type ty h in
        let g = own.0 in
        let low = slice_get_within (imported_globals m) x g own.1 in
        let fixed = cond_none_some g.mutable (Some g.ty) ty own.2 in
        let there = get_front (imported_globals m) (map (λ (g : Global). g.ty) m.globals) x low ∙ own.1 in
        let known = globals_known pair linkable.no_fault side x g own.1 fixed.0 in
        let found = global_found pair linkable.no_fault side x g there in
        let same = same_some (end_of pair Globals side x) known.found found.found known.is found.is in
        let typed : g.ty ≡ ty = cc in
        let item : found.item ≡ g = found.related in
        subst (λ o. IsConstant whole ty (constant_by pair body o)) (sym found.is)
        (end_constant body ty found.item found.found (subst (HasValue pair) same known.value) found.is_end found.there
        (ap (λ (g : GlobalType). g.ty) item ∙ typed) (ap immutable_type item ∙ own.2))

    instr_constant : (i : Instr) (ty : ValType) → constant_type m i ≡ Some ty
        → IsConstant whole ty (linked_constant pair side (i ∷ End ∷ []))
    instr_constant (Const value) ty h = h
    instr_constant (GlobalGet x) ty h = global_constant x ty h
    instr_constant i ty h = cc

    pub constant_linked : (ty : ValType) (body : List Instr) → IsConstant m ty body
        → IsConstant whole ty (linked_constant pair side body)
    constant_linked ty body h =
        let own = and_then_some (single body) (constant_type m) ty h in
        subst (λ body. IsConstant whole ty (linked_constant pair side body)) (sym (single_is body own.0 own.1))
        (instr_constant own.0 ty own.2)
