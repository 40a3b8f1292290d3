-- An action of the host with its functions renumbered does in the instrumented module's store what the action does in
-- the original's.
use Rattle.std.proofs.Common.{◌≡◌, ℕ, ◌+◌, List, ◌∷◌, ◌++◌, length, map, replicate, zero, suc, Option, Some, None, Bool, true, false, cond, ◌&&◌, nat_lt, nat_le, slice_get, slice_set, option_map, refl, sym, ap, ◌∙◌, subst}
use Rattle.std.proofs.lemmas.List.{length-map, map-append, map-set}
use Rattle.std.proofs.lemmas.Option.{slice_get-map}
use Rattle.wasm_syntax.specs.declared.values.Val.{Val}
use Rattle.wasm_syntax.specs.declared.limits.TheConstants.{MAX_ENTRIES}
use Rattle.wasm_syntax.specs.declared.modules.Module.{Module}
use Rattle.wasm_syntax.specs.Alike.{same_types}
use Rattle.host_script.specs.Supply.{is_within}
use Rattle.host_script.specs.declared.scripts.Action.{Action}
use Rattle.host_script.specs.declared.scripts.Action.TheVariants.{Write, Copy, SetTable, SetGlobal, Grow, GrowTable, Call, CallTable}
use Rattle.host_script.specs.declared.scripts.Script.{Script}
use Rattle.history_spec.specs.declared.entries.FaultKind.{FaultKind}
use Rattle.history_spec.specs.declared.entries.FaultKind.TheVariants.{Outside, TableOutside, GrowRefused}
use Rattle.history_spec.specs.Store.{Store, Memory, Table, bytes_at, with_bytes_at, with_entry, grown_memory, grown_table, grown_table_if}
use Rattle.history_spec.specs.Code.{signature, types_of}
use Rattle.history_spec.specs.Action.{ActionResult, Enters, on, or_fault, if_fits, address_of, with_new_bytes, calls_defined, calls_entry, perform}
use Rattle.record_replay_spec.specs.Hooks.{renumber, renumbered_table, renumbered_view}
use Rattle.record_replay_spec.specs.HookedRuns.{renumbered_action}
use Rattle.instrumented_run_laws.proofs.FoundAlike as found
use Rattle.instrumented_run_laws.proofs.HookedProgram.{codes, HookedFacts}
use Rattle.instrumented_run_laws.proofs.PieceFacts.{IsActedAlike}

-- ---- entries with functions renumbered

module _ (n : ℕ) where
  abbrev renumbered_entries : List (Option ℕ) → List (Option ℕ)
  renumbered_entries entries = map (option_map (renumber n)) entries

  entry_set : (entries : List (Option ℕ)) (index : ℕ) (func : Option ℕ)
      → with_entry (renumbered_entries entries) index (option_map (renumber n) func)
      ≡ option_map renumbered_entries (with_entry entries index func)
  entry_set entries index func =
      ap
      (λ k. cond (nat_lt index k) (Some (slice_set (renumbered_entries entries) index (option_map (renumber n) func)))
      None)
      (length-map entries (option_map (renumber n)))
      ∙ ap (λ l. cond (nat_lt index (length entries)) (Some l) None)
      (sym (map-set (option_map (renumber n)) entries index func))
      ∙ by (nat_lt index (length entries))
    where
      by : (b : Bool)
          → cond b (Some (renumbered_entries (slice_set entries index func))) None
          ≡ option_map renumbered_entries (cond b (Some (slice_set entries index func)) None)
      by true = refl
      by false = refl

  none_renumbered : (by : ℕ) → renumbered_entries (replicate by None) ≡ replicate by None
  none_renumbered zero = refl
  none_renumbered (suc by) = ap (λ l. None ∷ l) (none_renumbered by)

  table_grown : (table : Table) (by : ℕ)
      → grown_table (renumbered_table n table) by None ≡ option_map (renumbered_table n) (grown_table table by None)
  table_grown table by =
      ap
      (λ k. grown_table_if (is_within (k + by) table.max && nat_le (k + by) MAX_ENTRIES) (renumbered_table n table) by
      None)
      (length-map table.entries (option_map (renumber n)))
      ∙ go (is_within (length table.entries + by) table.max && nat_le (length table.entries + by) MAX_ENTRIES)
    where
      go : (b : Bool)
          → grown_table_if b (renumbered_table n table) by None
          ≡ option_map (renumbered_table n) (grown_table_if b table by None)
      go false = refl
      go true =
          ap (λ entries. Some (record table { entries = entries }))
          (ap (λ l. renumbered_entries table.entries ++ l) (sym (none_renumbered by))
          ∙ sym (map-append (option_map (renumber n)) table.entries (replicate by None)))

module _ (m : Module) (digest : List ℕ) (script : Script) (facts : HookedFacts m digest script) (store : Store)
    (args : List Val) where
  open (codes m digest script) use {n, code, hooked}

  abbrev AreAlike : ActionResult → ActionResult → Type 0
  AreAlike = IsActedAlike n

  -- two results are alike if what the first looks up is found by the second
  found_alike : {X Y : Type 0} (o : Option X) (other : Option Y) (f : X → Y) (go : X → ActionResult)
      (go_other : Y → ActionResult) → ((x : X) → o ≡ Some x → other ≡ Some (f x))
      → ((x : X) → AreAlike (go x) (go_other (f x))) → AreAlike (on o go) (on other go_other)
  found_alike o other f go go_other there alike =
      found.found_alike AreAlike (λ o. on o go) (λ o. on o go_other) f o other there tt alike

  same_alike : {X : Type 0} (o : Option X) (go go_other : X → ActionResult)
      → ((x : X) → AreAlike (go x) (go_other x)) → AreAlike (on o go) (on o go_other)
  same_alike o go go_other alike = found_alike o o (λ x. x) go go_other (λ x there. there) alike

  -- both look-ups fail, or both succeed
  fault_alike : {X Y : Type 0} (kind : FaultKind) (o : Option X) (other : Option Y) (f : X → Y) (go : X → ActionResult)
      (go_other : Y → ActionResult) → other ≡ option_map f o → ((x : X) → AreAlike (go x) (go_other (f x)))
      → AreAlike (or_fault kind o go) (or_fault kind other go_other)
  fault_alike {X = X} kind o other f go go_other same alike =
      subst (λ given. AreAlike (or_fault kind o go) (or_fault kind given go_other)) (sym same) (by o)
    where
      by : (o : Option X) → AreAlike (or_fault kind o go) (or_fault kind (option_map f o) go_other)
      by None = refl
      by (Some x) = alike x

  same_fault : {X : Type 0} (kind : FaultKind) (o : Option X) (go go_other : X → ActionResult)
      → ((x : X) → AreAlike (go x) (go_other x)) → AreAlike (or_fault kind o go) (or_fault kind o go_other)
  same_fault kind None go go_other alike = refl
  same_fault kind (Some x) go go_other alike = alike x

  written : (memory : Memory) (address : ℕ) (bytes : List ℕ)
      → AreAlike (or_fault Outside (with_bytes_at memory.bytes address bytes) (with_new_bytes store memory))
      (or_fault Outside (with_bytes_at memory.bytes address bytes) (with_new_bytes (renumbered_view n store) memory))
  written memory address bytes =
      same_fault Outside (with_bytes_at memory.bytes address bytes) _ _ (λ all. refl)

  entered : (given : List Val) (func : ℕ) (b : Bool)
      → AreAlike (calls_defined code func given b) (calls_defined hooked (renumber n func) given b)
  entered given func true = refl
  entered given func false =
      found_alike (signature code func) (signature hooked (renumber n func)) (λ ty. ty) _ _ (facts.signed func) (λ ty.
      fits (same_types ty.params (types_of given)))
    where
      fits : (b : Bool)
          → AreAlike (if_fits b (Enters func given)) (if_fits b (Enters (renumber n func) given))
      fits true = refl
      fits false = refl

  entry_called : (given : List Val) (o : Option ℕ)
      → AreAlike (calls_entry code given o) (calls_entry hooked given (option_map (renumber n) o))
  entry_called given None = refl
  entry_called given (Some func) =
      subst
      (λ b. AreAlike (calls_defined code func given (nat_lt func code.imported))
      (calls_defined hooked (renumber n func) given b))
      (sym (facts.own func)) (entered given func (nat_lt func code.imported))

  pub acted_alike : (action : Action)
      → AreAlike (perform code store args action)
      (perform hooked (renumbered_view n store) args (renumbered_action n action))
  acted_alike (Write to bytes) =
      same_alike store.memory _ _ (λ memory.
      same_alike (address_of args to) _ _ (λ address. written memory address bytes))
  acted_alike (Copy to source count) =
      same_alike store.memory _ _ (λ memory.
      same_alike (address_of args to) _ _ (λ address.
      same_alike (address_of args source) _ _ (λ from.
      same_fault Outside (bytes_at memory.bytes from count) _ _ (λ bytes. written memory address bytes))))
  acted_alike (SetTable index func) =
      found_alike store.table (option_map (renumbered_table n) store.table) (renumbered_table n) _ _
      (λ table there. ap (option_map (renumbered_table n)) there) (λ table.
      fault_alike TableOutside (with_entry table.entries index func) _ (renumbered_entries n) _ _
      (entry_set n table.entries index func) (λ entries. refl))
  acted_alike (SetGlobal global value) = same_alike (slice_get store.globals global) _ _ (λ old. refl)
  acted_alike (Grow by) =
      same_alike store.memory _ _ (λ memory.
      same_fault GrowRefused (grown_memory memory by) _ _ (λ larger. refl))
  acted_alike (GrowTable by) =
      found_alike store.table (option_map (renumbered_table n) store.table) (renumbered_table n) _ _
      (λ table there. ap (option_map (renumbered_table n)) there) (λ table.
      fault_alike GrowRefused (grown_table table by None) _ (renumbered_table n) _ _ (table_grown n table by)
      (λ larger. refl))
  acted_alike (Call func given) = refl
  acted_alike (CallTable index given) =
      found_alike store.table (option_map (renumbered_table n) store.table) (renumbered_table n) _ _
      (λ table there. ap (option_map (renumbered_table n)) there) (λ table.
      fault_alike TableOutside (slice_get table.entries index) _ (option_map (renumber n)) _ _
      (slice_get-map (option_map (renumber n)) table.entries index) (λ entry. entry_called given entry))
