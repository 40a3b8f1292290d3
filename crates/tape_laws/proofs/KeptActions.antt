-- An action of the host that fits changes no immutable global, and keeps all that each step keeps.
use Rattle.std.proofs.Common.{◌≡◌, ℕ, List, Some, None, false, cond, slice_get, sym, ap, ◌∙◌, subst}
use Rattle.std.specs.Prelude.{unwrap_or}
use Rattle.std.proofs.lemmas.Option.{slice_get_within}
use Rattle.wasm_syntax.specs.declared.values.ValType.{ValType}
use Rattle.wasm_syntax.specs.declared.values.Val.{Val}
use Rattle.wasm_syntax.specs.declared.signatures.GlobalType.{GlobalType}
use Rattle.wasm_syntax.specs.declared.modules.Module.{Module}
use Rattle.wasm_syntax.specs.Index.{all_globals}
use Rattle.host_script.specs.declared.scripts.Action.{Action}
use Rattle.host_script.specs.declared.scripts.Action.TheVariants.{Write, Copy, SetTable, SetGlobal, Grow, GrowTable, Call, CallTable}
use Rattle.host_script.specs.Fits.{FitsAction}
use Rattle.history_spec.specs.Store.{Store, bytes_at, with_bytes_at, with_entry, with_global, grown_memory, grown_table}
use Rattle.history_spec.specs.Code.{Code}
use Rattle.history_spec.specs.Action.{Changes, address_of, perform}
use Rattle.record_replay_spec.specs.Known.{Known}
use Rattle.type_safety.specs.Stores.{IsStore}
use Rattle.tape_laws.proofs.Changes.{gives_global}
use Rattle.tape_laws.proofs.HostStores.{on_changes, fault_changes, same_changes, no_call, host_change, known_of_change}
use Rattle.tape_laws.proofs.KeptStores.{AreDeclared, IsKept}
use Rattle.tape_laws.proofs.MutableGlobals.{other_global}

-- an immutable global is unchanged by the action
host_immutable : (m : Module) (code : Code) (store : Store) (params : List ValType) (args : List Val) (action : Action)
    (after : Store) → FitsAction m params action → perform code store args action ≡ Changes after
    → (at : ℕ) (ty : GlobalType) → slice_get (all_globals m) at ≡ Some ty → ty.mutable ≡ false
    → slice_get after.globals at ≡ slice_get store.globals at
host_immutable m code store params args (Write to bytes) after fits h at ty there fixed =
    let p = on_changes store.memory _ after h in
    let a = on_changes (address_of args to) _ after p.2 in
    let w = fault_changes _ (with_bytes_at p.0.bytes a.0 bytes) _ after a.2 in
    ap (λ (s : Store). slice_get s.globals at) (sym (same_changes _ after w.2))
host_immutable m code store params args (Copy to source count) after fits h at ty there fixed =
    let p = on_changes store.memory _ after h in
    let a = on_changes (address_of args to) _ after p.2 in
    let s = on_changes (address_of args source) _ after a.2 in
    let r = fault_changes _ (bytes_at p.0.bytes s.0 count) _ after s.2 in
    let w = fault_changes _ (with_bytes_at p.0.bytes a.0 r.0) _ after r.2 in
    ap (λ (s : Store). slice_get s.globals at) (sym (same_changes _ after w.2))
host_immutable m code store params args (SetTable index func) after fits h at ty there fixed =
    let t = on_changes store.table _ after h in
    let w = fault_changes _ (with_entry t.0.entries index func) _ after t.2 in
    ap (λ (s : Store). slice_get s.globals at) (sym (same_changes _ after w.2))
host_immutable m code store params args (SetGlobal global value) after fits h at ty there fixed =
    let g = on_changes (slice_get store.globals global) _ after h in
    let below = slice_get_within store.globals global g.0 g.1 in
    ap (λ (s : Store). slice_get s.globals at) (sym (same_changes (with_global store global value) after g.2))
    ∙ (gives_global store global value below).global at
    ∙ ap (λ b. unwrap_or (cond b (Some (Some value)) None) (slice_get store.globals at))
    (other_global m global at ty (fits.ty, fits.there, fits.mutable) there fixed)
host_immutable m code store params args (Grow by) after fits h at ty there fixed =
    let p = on_changes store.memory _ after h in
    let w = fault_changes _ (grown_memory p.0 by) _ after p.2 in
    ap (λ (s : Store). slice_get s.globals at) (sym (same_changes _ after w.2))
host_immutable m code store params args (GrowTable by) after fits h at ty there fixed =
    let t = on_changes store.table _ after h in
    let w = fault_changes _ (grown_table t.0 by None) _ after t.2 in
    ap (λ (s : Store). slice_get s.globals at) (sym (same_changes _ after w.2))
host_immutable m code store params args (Call func given) after fits h at ty there fixed = cc
host_immutable m code store params args (CallTable index given) after fits h at ty there fixed =
    let t = on_changes store.table _ after h in
    let w = fault_changes _ (slice_get t.0.entries index) _ after t.2 in
    absurd (no_call code given w.0 after w.2)

-- the action keeps what each step keeps
pub host_keeps : (m : Module) (known : Known) (code : Code) (store : Store) (params : List ValType) (args : List Val)
    (action : Action) (after : Store) → IsKept m known store → IsStore m after → FitsAction m params action
    → perform code store args action ≡ Changes after → IsKept m known after
host_keeps m known code store params args action after kept next fits h =
    let change = host_change code store args action after h in
    record {
      is = next;
      of = known_of_change m known store after kept.is next change kept.of;
      declared = subst (AreDeclared m) (sym change.same) kept.declared;
      immutable = λ at ty there fixed.
          kept.immutable at ty there fixed
          ∙ sym (host_immutable m code store params args action after fits h at ty there fixed);
    }
