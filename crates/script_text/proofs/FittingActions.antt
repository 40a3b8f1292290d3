-- Actions that were read fit the module.
use Rattle.std.proofs.Common.{◌≡◌, ℕ, ◌<◌, ◌≤◌, List, [], ◌∷◌, length, map, codes, All, Option, Some, None, IfSome, Ok, Err, Bool, true, false, cond, nat_lt, slice_get, refl, ap, subst}
use Rattle.std.specs.Bool.{⊤}
use Rattle.std.specs.List.{list_all}
use Rattle.std.proofs.lemmas.Bool.{ltb-false}
use Rattle.std.proofs.lemmas.List.Elements.{All-nil}
use Rattle.wasm_syntax.specs.declared.values.ValType.{ValType}
use Rattle.wasm_syntax.specs.declared.values.ValType.TheVariants.{I32}
use Rattle.wasm_syntax.specs.declared.values.Val.{Val}
use Rattle.wasm_syntax.specs.declared.signatures.FuncType.{FuncType}
use Rattle.wasm_syntax.specs.declared.modules.Module.{Module}
use Rattle.wasm_syntax.specs.Alike.{same_types}
use Rattle.wasm_syntax.specs.Index.{imported_funcs, func_indices, func_type}
use Rattle.wasm_syntax.specs.Typing.{is_constant}
use Rattle.wasm_syntax.specs.Validity.{IsValid}
use Rattle.host_script.specs.declared.scripts.Address.{Address}
use Rattle.host_script.specs.declared.scripts.Address.TheVariants.{Fixed, Arg}
use Rattle.host_script.specs.declared.scripts.Action.{Action}
use Rattle.host_script.specs.declared.scripts.Action.TheVariants as actions
use Rattle.host_script.specs.Fits.{AreConstants, FitsAddress, IsCallable, FitsAction, FitActions}
use Rattle.serde_json.specs.Data.{Data}
use Rattle.script_text.specs.declared.faults.ScriptFault.TheVariants.{WrongType, CallsOwn}
use Rattle.script_text.specs.declared.action_keys.Lead.{Lead}
use Rattle.script_text.specs.declared.action_keys.Lead.TheVariants.{Write, Copy, SetTable, SetGlobal, Grow, GrowTable, Call, CallTable}
use Rattle.script_text.specs.Walk.{only, under}
use Rattle.script_text.specs.Values.{u32_of, value_of, values_under, text_of, text_or_null, bytes_of}
use Rattle.script_text.specs.Actions.{Place, InMain, InResponse, is_i32, takes_i32, address_of, fits_address, memory_access, table_access, write_of, copy_of, func_named, entry_named, set_table_of, target_of, global_at, name_of, fits_global, set_global_of, grow_of, grow_table_of, is_defined, are_arguments, fits_params, call_of, call_table_of, leads_in, action_with, action_by, action_of, actions_under}
use Rattle.script_text.proofs.Steps.{ok_one, both_ok, passed, under_holds, under_or_holds, list_holds}
use Rattle.script_text.proofs.Tests.{Among}
use Rattle.wasm_syntax.proofs.ValTypes.{type_same, types_same}
use Rattle.script_text.proofs.FittingValues.{value_in_range, bytes_below}
use Rattle.script_text.proofs.Reach.{has_memory, has_table, func_named_there, settable}

-- ---- addresses

-- at this place each address that passes fits a call with these parameters
abbrev pub Serves : Place → List ValType → Type 0
Serves place params = (address : Address) (t : ⊤) → fits_address place address ≡ Ok t → FitsAddress params address

pub serves_main : Serves InMain []
unfolding fits_address
serves_main (Fixed address) t h = tt
serves_main (Arg number plus) t h = cc h

is_i32_type : (o : Option ValType) → is_i32 o ≡ true → o ≡ Some I32
is_i32_type None h = cc h
is_i32_type (Some ty) h = ap Some (type_same ty I32 h)

pub serves_response : (name : List ℕ) (types : List FuncType) (ty : FuncType) → Among ty types
    → Serves (InResponse name types) ty.params
unfolding fits_address
serves_response name types ty among (Fixed address) t h = tt
serves_response name types ty among (Arg number plus) t h =
    is_i32_type (slice_get ty.params number) (among (takes_i32 number) (passed (list_all (takes_i32 number) types) (Ok tt) (WrongType name) t h).0)

-- ---- functions and values

pub values_in_range : (key : List ℕ) (d : Data) (values : List Val) → values_under key d ≡ Ok values
    → AreConstants values
values_in_range key d values h =
    under_or_holds AreConstants _ (list_holds (λ v. is_constant v ≡ true) value_of value_in_range) key [] d values (All-nil (λ v. is_constant v ≡ true)) h

entry_there : (m : Module) (name : Option (List ℕ)) (func : Option ℕ) → IsValid m → entry_named m name ≡ Ok func
    → IfSome func (λ f. f < length (func_indices m))
unfolding entry_named
entry_there m None func valid h = subst (λ o. IfSome o (λ f. f < length (func_indices m))) (ok_one None func h) tt
entry_there m (Some name) func valid h =
    let p = both_ok (func_named m name) _ func h in
    subst (λ o. IfSome o (λ f. f < length (func_indices m))) (ok_one (Some p.0) func p.2) (func_named_there m name p.0 valid p.1)

defined_is : (m : Module) (func : ℕ) (name : List ℕ) (t : ⊤) → is_defined m func name ≡ Ok t → imported_funcs m ≤ func
unfolding is_defined
defined_is m func name t h = by (nat_lt func (imported_funcs m)) refl h
  where
    by : (b : Bool) → nat_lt func (imported_funcs m) ≡ b → cond b (Err (CallsOwn name)) (Ok tt) ≡ Ok t
        → imported_funcs m ≤ func
    by true is h = cc h
    by false is h = ltb-false func (imported_funcs m) is

callable : (m : Module) (func : ℕ) (name : List ℕ) (args : List Val) (t : ⊤) → imported_funcs m ≤ func
    → AreConstants args → fits_params m func name args ≡ Ok t → IsCallable m func args
unfolding fits_params
callable m func name args t defined constants h = by (func_type m func) refl h
  where
    by : (o : Option FuncType) → func_type m func ≡ o → are_arguments o name args ≡ Ok t → IsCallable m func args
    by None is h = cc h
    by (Some ty) is h =
        let typed = passed (same_types (map (λ arg. arg.ty) args) ty.params) (Ok tt) (WrongType name) t h in
        record {
          defined = defined;
          ty = ty;
          has_type = is;
          fit = record { in_range = constants; typed = types_same (map (λ arg. arg.ty) args) ty.params typed.0 };
        }

-- ---- actions

module _ (m : Module) (place : Place) (params : List ValType) (valid : IsValid m) (serves : Serves place params)
    (d : Data) (action : Action) where
  write_fits : write_of m place d ≡ Ok action → FitsAction m params action
  unfolding write_of
  write_fits h =
      let listed = both_ok (only (codes "write" ∷ codes "bytes" ∷ []) d) _ action h in
      let to = both_ok (under (codes "write") (address_of place) d) _ action listed.2 in
      let bytes = both_ok (under (codes "bytes") bytes_of d) _ action to.2 in
      let access = both_ok (memory_access m) _ action bytes.2 in
      let fits = both_ok (fits_address place to.0) _ action access.2 in
      subst (FitsAction m params) (ok_one (actions.Write to.0 bytes.0) action fits.2) (
        has_memory m access.0 valid access.1,
        serves to.0 fits.0 fits.1,
        under_holds (All (λ byte. byte < 256)) bytes_of bytes_below (codes "bytes") d bytes.0 bytes.1,
      )

  copy_fits : copy_of m place d ≡ Ok action → FitsAction m params action
  unfolding copy_of
  copy_fits h =
      let listed = both_ok (only (codes "copy" ∷ codes "from" ∷ codes "count" ∷ []) d) _ action h in
      let to = both_ok (under (codes "copy") (address_of place) d) _ action listed.2 in
      let source = both_ok (under (codes "from") (address_of place) d) _ action to.2 in
      let count = both_ok (under (codes "count") u32_of d) _ action source.2 in
      let access = both_ok (memory_access m) _ action count.2 in
      let fits = both_ok (fits_address place to.0) _ action access.2 in
      let fits_too = both_ok (fits_address place source.0) _ action fits.2 in
      subst (FitsAction m params) (ok_one (actions.Copy to.0 source.0 count.0) action fits_too.2)
      (has_memory m access.0 valid access.1, serves to.0 fits.0 fits.1, serves source.0 fits_too.0 fits_too.1)

  set_table_fits : set_table_of m d ≡ Ok action → FitsAction m params action
  unfolding set_table_of
  set_table_fits h =
      let listed = both_ok (only (codes "set_table" ∷ codes "func" ∷ []) d) _ action h in
      let index = both_ok (under (codes "set_table") u32_of d) _ action listed.2 in
      let name = both_ok (under (codes "func") text_or_null d) _ action index.2 in
      let access = both_ok (table_access m) _ action name.2 in
      let func = both_ok (entry_named m name.0) _ action access.2 in
      subst (FitsAction m params) (ok_one (actions.SetTable index.0 func.0) action func.2)
      (has_table m access.0 valid access.1, entry_there m name.0 func.0 valid func.1)

  set_global_fits : set_global_of m d ≡ Ok action → FitsAction m params action
  unfolding set_global_of
  set_global_fits h =
      let listed = both_ok (only (codes "set_global" ∷ codes "value" ∷ []) d) _ action h in
      let target = both_ok (under (codes "set_global") target_of d) _ action listed.2 in
      let value = both_ok (under (codes "value") value_of d) _ action target.2 in
      let global = both_ok (global_at m target.0) _ action value.2 in
      let fits = both_ok (fits_global m global.0 (name_of target.0) value.0) _ action global.2 in
      subst (FitsAction m params) (ok_one (actions.SetGlobal global.0 value.0) action fits.2)
      (settable m global.0 (name_of target.0) value.0 fits.0
      (under_holds (λ v. is_constant v ≡ true) value_of value_in_range (codes "value") d value.0 value.1) fits.1)

  grow_fits : grow_of m d ≡ Ok action → FitsAction m params action
  unfolding grow_of
  grow_fits h =
      let listed = both_ok (only (codes "grow" ∷ []) d) _ action h in
      let pages = both_ok (under (codes "grow") u32_of d) _ action listed.2 in
      let access = both_ok (memory_access m) _ action pages.2 in
      subst (FitsAction m params) (ok_one (actions.Grow pages.0) action access.2) (has_memory m access.0 valid access.1)

  grow_table_fits : grow_table_of m d ≡ Ok action → FitsAction m params action
  unfolding grow_table_of
  grow_table_fits h =
      let listed = both_ok (only (codes "grow_table" ∷ []) d) _ action h in
      let entries = both_ok (under (codes "grow_table") u32_of d) _ action listed.2 in
      let access = both_ok (table_access m) _ action entries.2 in
      subst (FitsAction m params) (ok_one (actions.GrowTable entries.0) action access.2) (has_table m access.0 valid access.1)

  call_fits : call_of m d ≡ Ok action → FitsAction m params action
  unfolding call_of
  call_fits h =
      let listed = both_ok (only (codes "call" ∷ codes "args" ∷ []) d) _ action h in
      let name = both_ok (under (codes "call") text_of d) _ action listed.2 in
      let args = both_ok (values_under (codes "args") d) _ action name.2 in
      let func = both_ok (func_named m name.0) _ action args.2 in
      let defined = both_ok (is_defined m func.0 name.0) _ action func.2 in
      let fits = both_ok (fits_params m func.0 name.0 args.0) _ action defined.2 in
      subst (FitsAction m params) (ok_one (actions.Call func.0 args.0) action fits.2)
      (callable m func.0 name.0 args.0 fits.0 (defined_is m func.0 name.0 defined.0 defined.1) (values_in_range (codes "args") d args.0 args.1) fits.1)

  call_table_fits : call_table_of m d ≡ Ok action → FitsAction m params action
  unfolding call_table_of
  call_table_fits h =
      let listed = both_ok (only (codes "call_table" ∷ codes "args" ∷ []) d) _ action h in
      let index = both_ok (under (codes "call_table") u32_of d) _ action listed.2 in
      let args = both_ok (values_under (codes "args") d) _ action index.2 in
      let access = both_ok (table_access m) _ action args.2 in
      subst (FitsAction m params) (ok_one (actions.CallTable index.0 args.0) action access.2)
      (has_table m access.0 valid access.1, values_in_range (codes "args") d args.0 args.1)

  with_fits : (lead : Lead) → action_with m place lead d ≡ Ok action → FitsAction m params action
  with_fits Write h = write_fits h
  with_fits Copy h = copy_fits h
  with_fits SetTable h = set_table_fits h
  with_fits SetGlobal h = set_global_fits h
  with_fits Grow h = grow_fits h
  with_fits GrowTable h = grow_table_fits h
  with_fits Call h = call_fits h
  with_fits CallTable h = call_table_fits h

  pub action_fits : action_of m place d ≡ Ok action → FitsAction m params action
  unfolding action_of
  action_fits h = by (leads_in d) h
    where
      by : (leads : List Lead) → action_by m place leads d ≡ Ok action → FitsAction m params action
      by [] h = cc h
      by (lead ∷ []) h = with_fits lead h
      by (lead ∷ other ∷ rest) h = cc h

pub actions_fit : (m : Module) (place : Place) (params : List ValType) → IsValid m → Serves place params
    → (key : List ℕ) (d : Data) (found : List Action) → actions_under m place key d ≡ Ok found → FitActions m params found
actions_fit m place params valid serves key d found h =
    under_or_holds (FitActions m params) _
    (list_holds (FitsAction m params) (action_of m place) (action_fits m place params valid serves)) key [] d found
    (All-nil (FitsAction m params)) h
