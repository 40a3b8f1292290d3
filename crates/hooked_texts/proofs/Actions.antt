-- An action's text for a module and for its instrumented module.
use Rattle.std.proofs.Common.{◌≡◌, ℕ, ◌+◌, List, [], ◌∷◌, map, codes, Option, Some, None, option_map, slice_get, Result, Ok, Err, Bool, cond, nat_lt, ◌||◌, refl, sym, ap, ◌∙◌}
use Rattle.std.specs.Prelude.{⊤}
use Rattle.wasm_syntax.specs.declared.values.Val.{Val}
use Rattle.wasm_syntax.specs.declared.signatures.FuncType.{FuncType}
use Rattle.wasm_syntax.specs.declared.signatures.GlobalType.{GlobalType}
use Rattle.wasm_syntax.specs.declared.modules.Import.{Import}
use Rattle.wasm_syntax.specs.declared.modules.Module.{Module}
use Rattle.wasm_syntax.specs.Index.{func_type, imported_funcs, memory_import, table_import}
use Rattle.wasm_syntax.specs.Validity.{IsValid}
use Rattle.host_script.specs.declared.scripts.Action.{Action}
use Rattle.serde_json.specs.Data.{Data}
use Rattle.module_names.specs.Names.{exported_func, first_named, is_from, reaches_memory, reaches_table}
use Rattle.module_names.specs.declared.index_spaces.Space.TheVariants.{Memories, Tables}
use Rattle.std.specs.List.{list_any}
use Rattle.script_text.specs.declared.faults.ScriptFault.{ScriptFault}
use Rattle.script_text.specs.declared.faults.ScriptFault.TheVariants.{CallsOwn}
use Rattle.script_text.specs.declared.action_keys.Lead.{Lead}
use Rattle.script_text.specs.declared.action_keys.Lead.TheVariants.{Write, Copy, SetTable, SetGlobal, Grow, GrowTable, Call, CallTable}
use Rattle.script_text.specs.Actions.{Place, Target, address_of, fits_address, name_of, target_of, Exported, Imported, access_to, action_by, action_of, action_with, actions_under, are_arguments, call_of, call_table_of, copy_of, entry_named, fits_global, fits_params, func_named, global_at, global_from, grow_of, grow_table_of, index_or_unknown, is_defined, is_set_by, leads_in, memory_access, set_global_of, set_table_of, table_access, write_of}
use Rattle.script_text.specs.Walk.{list_of, only, under}
use Rattle.script_text.specs.Values.{bytes_of, text_of, text_or_null, u32_of, value_of, values_under}
use Rattle.record_replay_spec.specs.Hooks.{renumber}
use Rattle.record_replay_spec.specs.HookedRuns.{renumbered_action}
use Rattle.record_replay_spec.specs.Instrumented.{instrumented_module}
use Rattle.record_replay_spec.specs.HookLaws.{InstrumentedKeepIndices}
use Rattle.record_replay_spec.proofs.Indices.{below_renumbered}
use Rattle.hooked_texts.proofs.Names.{exports_kept, func_renumbered, func_there, global_kept, globals_imported, imports_kept}
use Rattle.hooked_texts.proofs.Steps.{bind_alike, bind_own, bind_same, list_alike, mapped, under_or_alike}

-- the check that a function is defined: an imported function is a fault
abbrev defined_or : (is_imported : Bool) → List ℕ → Result ⊤ ScriptFault
defined_or is_imported name = cond is_imported (Err (CallsOwn name)) (Ok tt)

module _ (keep : InstrumentedKeepIndices) (m : Module) (digest : List ℕ) (valid : IsValid m) where
  abbrev hooked : Module
  hooked = instrumented_module m digest

  abbrev n : ℕ
  n = imported_funcs m

  abbrev acting : Action → Action
  acting = renumbered_action n

  -- ---- access

  memory_kept : reaches_memory hooked ≡ reaches_memory m
  memory_kept = (λ i. imports_kept m digest memory_import refl i || exports_kept m digest Memories i)

  table_kept : reaches_table hooked ≡ reaches_table m
  table_kept = (λ i. imports_kept m digest table_import refl i || exports_kept m digest Tables i)

  memory_same : memory_access hooked ≡ memory_access m
  unfolding memory_access
  memory_same = ap (λ b. access_to b (codes "memory")) memory_kept

  table_same : table_access hooked ≡ table_access m
  unfolding table_access
  table_same = ap (λ b. access_to b (codes "table")) table_kept

  -- ---- the functions that names denote

  func_alike : (name : List ℕ) → func_named hooked name ≡ mapped (renumber n) (func_named m name)
  unfolding func_named
  func_alike name = ap (index_or_unknown name) (func_renumbered m digest name) ∙ go (exported_func m name)
    where
      go : (o : Option ℕ) → index_or_unknown name (option_map (renumber n) o) ≡ mapped (renumber n) (index_or_unknown name o)
      go None = refl
      go (Some f) = refl

  -- a function that a name denotes has a type
  named_there : (name : List ℕ) (func : ℕ) → func_named m name ≡ Ok func → (ty : FuncType) × (func_type m func ≡ Some ty)
  unfolding func_named
  named_there name func is = func_there m digest valid name func (go (exported_func m name) is)
    where
      go : (o : Option ℕ) → index_or_unknown name o ≡ Ok func → o ≡ Some func
      go None h = cc
      go (Some f) h = let same : f ≡ func = cc h in ap Some same

  entry_alike : (name : Option (List ℕ)) → entry_named hooked name ≡ mapped (option_map (renumber n)) (entry_named m name)
  unfolding entry_named
  entry_alike None = refl
  entry_alike (Some name) =
      bind_alike (renumber n) (option_map (renumber n)) (func_named m name) (func_named hooked name) (λ func. Ok (Some func))
      (λ func. Ok (Some func)) (func_alike name)
      (λ func is. refl)

  global_same : (target : Target) → global_at hooked target ≡ global_at m target
  unfolding global_at
  global_same (Exported name) = ap (index_or_unknown name) (global_kept m digest name)
  global_same (Imported from name) =
      ap (λ (list : List Import). global_from (list_any (is_from from) list) from name (first_named from name 0 list))
      (globals_imported m digest)

  settable_same : (global : ℕ) (name : List ℕ) (value : Val) → fits_global hooked global name value ≡ fits_global m global name value
  unfolding fits_global
  settable_same global name value =
      ap (λ (list : List GlobalType). is_set_by (slice_get list global) name value) (keep m digest).globals

  below_hooked : (func : ℕ) → nat_lt (renumber n func) (imported_funcs hooked) ≡ nat_lt func n
  below_hooked func =
      let more : imported_funcs hooked ≡ n + 15 = (keep m digest).imports in
      ap (nat_lt (renumber n func)) more ∙ below_renumbered n func

  defined_same : (func : ℕ) (name : List ℕ) → is_defined hooked (renumber n func) name ≡ is_defined m func name
  unfolding is_defined
  defined_same func name = ap (λ b. defined_or b name) (below_hooked func)

  params_same : (func : ℕ) (name : List ℕ) (args : List Val) → (ty : FuncType) × (func_type m func ≡ Some ty)
      → fits_params hooked (renumber n func) name args ≡ fits_params m func name args
  unfolding fits_params
  params_same func name args typed =
      ap (λ (o : Option FuncType). are_arguments o name args) ((keep m digest).type_of func typed.0 typed.1 ∙ sym typed.1)

  -- ---- actions

  write_alike : (place : Place) (d : Data) → write_of hooked place d ≡ mapped acting (write_of m place d)
  unfolding write_of
  write_alike place d =
      bind_own acting (only (codes "write" ∷ codes "bytes" ∷ []) d) _ _ (λ a.
      bind_own acting (under (codes "write") (address_of place) d) _ _ (λ to.
      bind_own acting (under (codes "bytes") bytes_of d) _ _ (λ bytes.
      bind_same acting (memory_access m) (memory_access hooked) _ _ memory_same (λ a is.
      bind_own acting (fits_address place to) _ _ (λ a. refl)))))

  copy_alike : (place : Place) (d : Data) → copy_of hooked place d ≡ mapped acting (copy_of m place d)
  unfolding copy_of
  copy_alike place d =
      bind_own acting (only (codes "copy" ∷ codes "from" ∷ codes "count" ∷ []) d) _ _ (λ a.
      bind_own acting (under (codes "copy") (address_of place) d) _ _ (λ to.
      bind_own acting (under (codes "from") (address_of place) d) _ _ (λ source.
      bind_own acting (under (codes "count") u32_of d) _ _ (λ count.
      bind_same acting (memory_access m) (memory_access hooked) _ _ memory_same (λ a is.
      bind_own acting (fits_address place to) _ _ (λ a.
      bind_own acting (fits_address place source) _ _ (λ a. refl)))))))

  set_table_alike : (d : Data) → set_table_of hooked d ≡ mapped acting (set_table_of m d)
  unfolding set_table_of
  set_table_alike d =
      bind_own acting (only (codes "set_table" ∷ codes "func" ∷ []) d) _ _ (λ a.
      bind_own acting (under (codes "set_table") u32_of d) _ _ (λ index.
      bind_own acting (under (codes "func") text_or_null d) _ _ (λ name.
      bind_same acting (table_access m) (table_access hooked) _ _ table_same (λ a is.
      bind_alike (option_map (renumber n)) acting (entry_named m name) (entry_named hooked name) _ _ (entry_alike name)
      (λ func is. refl)))))

  set_global_alike : (d : Data) → set_global_of hooked d ≡ mapped acting (set_global_of m d)
  unfolding set_global_of
  set_global_alike d =
      bind_own acting (only (codes "set_global" ∷ codes "value" ∷ []) d) _ _ (λ a.
      bind_own acting (under (codes "set_global") target_of d) _ _ (λ target.
      bind_own acting (under (codes "value") value_of d) _ _ (λ value.
      bind_same acting (global_at m target) (global_at hooked target) _ _ (global_same target) (λ global is.
      bind_same acting (fits_global m global (name_of target) value) (fits_global hooked global (name_of target) value) _ _
      (settable_same global (name_of target) value) (λ a is. refl)))))

  grow_alike : (d : Data) → grow_of hooked d ≡ mapped acting (grow_of m d)
  unfolding grow_of
  grow_alike d =
      bind_own acting (only (codes "grow" ∷ []) d) _ _ (λ a.
      bind_own acting (under (codes "grow") u32_of d) _ _ (λ pages.
      bind_same acting (memory_access m) (memory_access hooked) _ _ memory_same (λ a is. refl)))

  grow_table_alike : (d : Data) → grow_table_of hooked d ≡ mapped acting (grow_table_of m d)
  unfolding grow_table_of
  grow_table_alike d =
      bind_own acting (only (codes "grow_table" ∷ []) d) _ _ (λ a.
      bind_own acting (under (codes "grow_table") u32_of d) _ _ (λ entries.
      bind_same acting (table_access m) (table_access hooked) _ _ table_same (λ a is. refl)))

  call_alike : (d : Data) → call_of hooked d ≡ mapped acting (call_of m d)
  unfolding call_of
  call_alike d =
      bind_own acting (only (codes "call" ∷ codes "args" ∷ []) d) _ _ (λ a.
      bind_own acting (under (codes "call") text_of d) _ _ (λ name.
      bind_own acting (values_under (codes "args") d) _ _ (λ args.
      bind_alike (renumber n) acting (func_named m name) (func_named hooked name) _ _ (func_alike name) (λ func found.
      bind_same acting (is_defined m func name) (is_defined hooked (renumber n func) name) _ _ (defined_same func name) (λ a is.
      bind_same acting (fits_params m func name args) (fits_params hooked (renumber n func) name args) _ _
      (params_same func name args (named_there name func found)) (λ a is. refl))))))

  call_table_alike : (d : Data) → call_table_of hooked d ≡ mapped acting (call_table_of m d)
  unfolding call_table_of
  call_table_alike d =
      bind_own acting (only (codes "call_table" ∷ codes "args" ∷ []) d) _ _ (λ a.
      bind_own acting (under (codes "call_table") u32_of d) _ _ (λ index.
      bind_own acting (values_under (codes "args") d) _ _ (λ args.
      bind_same acting (table_access m) (table_access hooked) _ _ table_same (λ a is. refl))))

  with_alike : (place : Place) (lead : Lead) (d : Data)
      → action_with hooked place lead d ≡ mapped acting (action_with m place lead d)
  with_alike place Write d = write_alike place d
  with_alike place Copy d = copy_alike place d
  with_alike place SetTable d = set_table_alike d
  with_alike place SetGlobal d = set_global_alike d
  with_alike place Grow d = grow_alike d
  with_alike place GrowTable d = grow_table_alike d
  with_alike place Call d = call_alike d
  with_alike place CallTable d = call_table_alike d

  by_alike : (place : Place) (leads : List Lead) (d : Data)
      → action_by hooked place leads d ≡ mapped acting (action_by m place leads d)
  by_alike place [] d = refl
  by_alike place (lead ∷ []) d = with_alike place lead d
  by_alike place (lead ∷ other ∷ leads) d = refl

  action_alike : (place : Place) (d : Data) → action_of hooked place d ≡ mapped acting (action_of m place d)
  unfolding action_of
  action_alike place d = by_alike place (leads_in d) d

  pub actions_alike : (place : Place) (key : List ℕ) (d : Data)
      → actions_under hooked place key d ≡ mapped (map acting) (actions_under m place key d)
  actions_alike place key d =
      under_or_alike (map acting) (list_of (action_of m place)) (list_of (action_of hooked place))
      (list_alike acting (action_of m place) (action_of hooked place) (action_alike place)) key [] d
