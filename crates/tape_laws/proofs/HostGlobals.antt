-- What an action of the host keeps of immutable globals.
use Rattle.std.proofs.Common.{◌≡◌, ℕ, zero, suc, List, [], ◌∷◌, Option, Some, None, Bool, true, false, nat_eq, nat_lt, slice_get, slice_set, refl, sym, ap, ◌∙◌, subst, arith}
use Rattle.std.proofs.lemmas.Bool.Decides.{nat_tests}
use Rattle.wasm_syntax.specs.declared.values.ValType.{ValType}
use Rattle.wasm_syntax.specs.declared.values.Val.{Val}
use Rattle.wasm_syntax.specs.declared.modules.Module.{Module}
use Rattle.wasm_syntax.specs.Alike.{same_types}
use Rattle.wasm_syntax.specs.Index.{all_globals}
use Rattle.host_script.specs.declared.scripts.Action.{Action}
use Rattle.host_script.specs.declared.scripts.Action.TheVariants.{Write, Copy, SetTable, SetGlobal, Grow, GrowTable, Call, CallTable}
use Rattle.host_script.specs.Fits.{FitsAction}
use Rattle.history_spec.specs.declared.entries.FaultKind.{FaultKind}
use Rattle.history_spec.specs.Store.{Store, bytes_at, with_bytes_at, with_entry, with_global, grown_memory, grown_table}
use Rattle.history_spec.specs.Code.{Code, signature, types_of}
use Rattle.history_spec.specs.Action.{ActionResult, Changes, Enters, on, or_fault, if_fits, address_of, calls_defined, calls_entry, perform}
use Rattle.record_replay_spec.specs.ReportedCalls.{store_performed}
use Rattle.tape_laws.specs.ReportedObservations.{is_mutable}
use Rattle.tape_laws.proofs.Trails.{KeepsImmutables}

-- an action leaves a store with the same globals
record KeepsGlobals (store : Store) (r : ActionResult) : Type 0 where
  pub kept : (store_performed store r).globals ≡ store.globals

module _ (store : Store) where
  on_kept : {X : Type 0} (o : Option X) (go : X → ActionResult) → ((x : X) → KeepsGlobals store (go x))
      → KeepsGlobals store (on o go)
  on_kept None go each = record { kept = refl }
  on_kept (Some x) go each = each x

  fault_kept : {X : Type 0} (kind : FaultKind) (o : Option X) (go : X → ActionResult)
      → ((x : X) → KeepsGlobals store (go x)) → KeepsGlobals store (or_fault kind o go)
  fault_kept kind None go each = record { kept = refl }
  fault_kept kind (Some x) go each = each x

  entry_kept : (code : Code) (given : List Val) (o : Option ℕ) → KeepsGlobals store (calls_entry code given o)
  entry_kept code given None = record { kept = refl }
  entry_kept code given (Some func) = go (nat_lt func code.imported)
    where
      fits : (b : Bool) → KeepsGlobals store (if_fits b (Enters func given))
      fits true = record { kept = refl }
      fits false = record { kept = refl }

      go : (b : Bool) → KeepsGlobals store (calls_defined code func given b)
      go true = record { kept = refl }
      go false = on_kept (signature code func) _ (λ ty. fits (same_types ty.params (types_of given)))

slice_get_other : (values : List Val) (i at : ℕ) (value : Val) → nat_eq i at ≡ false
    → slice_get (slice_set values i value) at ≡ slice_get values at
slice_get_other [] i at value e = refl
slice_get_other (v ∷ values) zero zero value e = cc
slice_get_other (v ∷ values) zero (suc at) value e = refl
slice_get_other (v ∷ values) (suc i) zero value e = refl
slice_get_other (v ∷ values) (suc i) (suc at) value e =
    slice_get_other values i at value (grind (arith, nat_tests, e))

-- an immutable global is not a global that is set
set_kept : (m : Module) (store : Store) (global : ℕ) (value : Val) (params : List ValType)
    → FitsAction m params (SetGlobal global value) → (o : Option Val)
    → KeepsImmutables (all_globals m) store
    (store_performed store (on o (λ old. Changes (with_global store global value))))
set_kept m store global value params fits None at i = refl
set_kept m store global value params fits (Some old) at i = go (nat_eq global at) refl
  where
    go : (b : Bool) → nat_eq global at ≡ b
        → slice_get (slice_set store.globals global value) at ≡ slice_get store.globals at
    go true e =
        let same : global ≡ at = grind (arith, nat_tests, e) in
        let mutable : is_mutable (slice_get (all_globals m) at) ≡ true =
        subst (λ x. is_mutable (slice_get (all_globals m) x) ≡ true) same
        (ap is_mutable fits.there ∙ fits.mutable) in
        let no : true ≡ false = sym mutable ∙ i in cc
    go false e = slice_get_other store.globals global at value e

pub action_keeps : (m : Module) (params : List ValType) (code : Code) (store : Store) (args : List Val)
    (action : Action) → FitsAction m params action
    → KeepsImmutables (all_globals m) store (store_performed store (perform code store args action))
action_keeps m params code store args (SetGlobal global value) fits =
    set_kept m store global value params fits (slice_get store.globals global)
action_keeps m params code store args (Write to bytes) fits = λ at i. ap (λ l. slice_get l at)
    (on_kept store store.memory _ (λ memory.
    on_kept store (address_of args to) _ (λ address.
    fault_kept store _ (with_bytes_at memory.bytes address bytes) _ (λ all. record { kept = refl })))).kept
action_keeps m params code store args (Copy to source count) fits = λ at i. ap (λ l. slice_get l at)
    (on_kept store store.memory _ (λ memory.
    on_kept store (address_of args to) _ (λ address.
    on_kept store (address_of args source) _ (λ from.
    fault_kept store _ (bytes_at memory.bytes from count) _ (λ bytes.
    fault_kept store _ (with_bytes_at memory.bytes address bytes) _ (λ all. record { kept = refl })))))).kept
action_keeps m params code store args (SetTable index func) fits = λ at i. ap (λ l. slice_get l at)
    (on_kept store store.table _ (λ table.
    fault_kept store _ (with_entry table.entries index func) _ (λ all. record { kept = refl }))).kept
action_keeps m params code store args (Grow by) fits = λ at i. ap (λ l. slice_get l at)
    (on_kept store store.memory _ (λ memory.
    fault_kept store _ (grown_memory memory by) _ (λ all. record { kept = refl }))).kept
action_keeps m params code store args (GrowTable by) fits = λ at i. ap (λ l. slice_get l at)
    (on_kept store store.table _ (λ table.
    fault_kept store _ (grown_table table by None) _ (λ all. record { kept = refl }))).kept
action_keeps m params code store args (Call func given) fits = λ at i. refl
action_keeps m params code store args (CallTable index given) fits = λ at i. ap (λ l. slice_get l at)
    (on_kept store store.table _ (λ table.
    fault_kept store _ (slice_get table.entries index) _ (entry_kept store code given))).kept
