-- An action of a script that fits the module succeeds, or fails for a named cause.
use Rattle.std.proofs.Common.{◌≡◌, ℕ, ◌+◌, ◌<◌, List, Option, Some, None, Bool, true, false, slice_get, option_map, refl, sym, ap, ◌∙◌, subst}
use Rattle.std.specs.Prelude.{nat_lt, IfSome}
use Rattle.std.proofs.lemmas.Bool.{ltb-false}
use Rattle.std.proofs.lemmas.Option.{slice_get-map}
use Rattle.base.proofs.Lists.{all_at, first_there}
use Rattle.wasm_syntax.proofs.ValTypes.{types_same}
use Rattle.wasm_syntax.specs.declared.values.ValType.{ValType}
use Rattle.wasm_syntax.specs.declared.values.ValType.TheVariants.{I32}
use Rattle.wasm_syntax.specs.declared.values.Val.{Val}
use Rattle.wasm_syntax.specs.declared.signatures.FuncType.{FuncType}
use Rattle.wasm_syntax.specs.declared.modules.Module.{Module}
use Rattle.wasm_syntax.specs.Alike.{same_types}
use Rattle.wasm_syntax.specs.Index.{imported_funcs, all_tables, all_memories, all_globals}
use Rattle.host_script.specs.declared.scripts.Address.{Address}
use Rattle.host_script.specs.declared.scripts.Address.TheVariants.{Fixed, Arg}
use Rattle.host_script.specs.declared.scripts.Action.{Action}
use Rattle.host_script.specs.declared.scripts.Action.TheVariants.{Write, Copy, SetTable, SetGlobal, Grow, GrowTable, Call, CallTable}
use Rattle.host_script.specs.Fits.{AreConstants, FitsAddress, FitsAction}
use Rattle.history_spec.specs.declared.entries.FaultKind.{FaultKind}
use Rattle.history_spec.specs.declared.entries.FaultKind.TheVariants.{Outside, TableOutside, GrowRefused}
use Rattle.history_spec.specs.Store.{Store, Memory, Table, grown_memory, grown_table, bytes_at, with_bytes_at, with_entry, with_memory, with_table, with_global}
use Rattle.history_spec.specs.Code.{code_of, signature, types_of}
use Rattle.history_spec.specs.Action.{ActionResult, Changes, Enters, on, or_fault, if_fits, address_of, with_new_bytes, calls_defined, calls_entry, perform}
use Rattle.type_safety.specs.Values.{IsValue, AreValues}
use Rattle.type_safety.specs.Stores.{func_count, global_types, IsStore}
use Rattle.type_safety.specs.Results.{IsActionResult}
use Rattle.type_safety.proofs.Values.{value_at, set_value}
use Rattle.type_safety.proofs.Constants.{constant_value, constants_values}
use Rattle.type_safety.proofs.Memories.{memory_there, bytes_at_fits, store_written, memory_grown}
use Rattle.type_safety.proofs.Tables.{table_there, entry_set_fits, table_grown}

on_acted : {X : Type 0} (m : Module) (o : Option X) (x : X) (go : X → ActionResult) → o ≡ Some x
    → IsActionResult m (go x) → IsActionResult m (on o go)
on_acted m o x go is p = subst (λ it. IsActionResult m (on it go)) (sym is) p

or_acted : {X : Type 0} (m : Module) (kind : FaultKind) (o : Option X) (go : X → ActionResult)
    → ((x : X) → o ≡ Some x → IsActionResult m (go x)) → IsActionResult m (or_fault kind o go)
or_acted m kind None go each = tt
or_acted m kind (Some x) go each = each x refl

address_there : (n : ℕ) (params : List ValType) (args : List Val) (to : Address) → AreValues n params args
    → FitsAddress params to → (address : ℕ) × (address_of args to ≡ Some address)
address_there n params args (Fixed address) p fits = (address, refl)
address_there n params args (Arg number plus) p fits =
    let v = value_at n params args number I32 p fits in
    (v.0.bits + plus, ap (option_map (λ (value : Val). value.bits + plus)) v.1)

module _ (m : Module)
    (have : (func : ℕ) → func < func_count m → (ty : FuncType) × (signature (code_of m) func ≡ Some ty))
    (store : Store) (is_store : IsStore m store) (params : List ValType) (args : List Val)
    (values : AreValues (func_count m) params args) where
  defined_acted : (func : ℕ) (given : List Val) → AreConstants given → func < func_count m → (b : Bool)
      → nat_lt func (imported_funcs m) ≡ b → IsActionResult m (calls_defined (code_of m) func given b)
  defined_acted func given fits there true own = tt
  defined_acted func given fits there false own =
      let found = have func there in
      on_acted m (signature (code_of m) func) found.0
      (λ ty. if_fits (same_types ty.params (types_of given)) (Enters func given)) found.1
      (by found.0 found.1 (same_types found.0.params (types_of given)) refl)
    where
      by : (ty : FuncType) → signature (code_of m) func ≡ Some ty → (b : Bool)
          → same_types ty.params (types_of given) ≡ b → IsActionResult m (if_fits b (Enters func given))
      by ty is true e = (
        ty,
        is,
        ltb-false func (imported_funcs m) own,
        subst (λ ts. AreValues (func_count m) ts given)
            (sym (types_same ty.params (types_of given) e)) (constants_values (func_count m) given fits),
      )
      by ty is false e = tt

  entry_acted : (given : List Val) (entry : Option ℕ) → AreConstants given
      → IfSome entry (λ func. func < func_count m) → IsActionResult m (calls_entry (code_of m) given entry)
  entry_acted given None fits named = tt
  entry_acted given (Some func) fits named = defined_acted func given fits named (nat_lt func (imported_funcs m)) refl

  pub act_fine : (action : Action) → FitsAction m params action
      → IsActionResult m (perform (code_of m) store args action)
  act_fine (Write to bytes) fits =
      let there = memory_there (all_memories m) store.memory (first_there (all_memories m) fits.0) is_store.memory in
      let address = address_there (func_count m) params args to values fits.1 in
      on_acted m store.memory there.memory
      (λ memory. on (address_of args to)
      (λ a. or_fault Outside (with_bytes_at memory.bytes a bytes) (with_new_bytes store memory))) there.is
      (on_acted m (address_of args to) address.0
      (λ a. or_fault Outside (with_bytes_at there.memory.bytes a bytes) (with_new_bytes store there.memory))
      address.1
      (or_acted m Outside (with_bytes_at there.memory.bytes address.0 bytes) (with_new_bytes store there.memory)
      (λ new is. store_written m store is_store there address.0 bytes new fits.2 is)))
  act_fine (Copy to source count) fits =
      let there = memory_there (all_memories m) store.memory (first_there (all_memories m) fits.0) is_store.memory in
      let address = address_there (func_count m) params args to values fits.1 in
      let from = address_there (func_count m) params args source values fits.2 in
      let last = λ (memory : Memory) (a : ℕ) (bytes : List ℕ).
      or_fault Outside (with_bytes_at memory.bytes a bytes) (with_new_bytes store memory) in
      let go = λ (memory : Memory) (a f : ℕ). or_fault Outside (bytes_at memory.bytes f count) (last memory a) in
      on_acted m store.memory there.memory
      (λ memory. on (address_of args to) (λ a. on (address_of args source) (go memory a))) there.is
      (on_acted m (address_of args to) address.0 (λ a. on (address_of args source) (go there.memory a)) address.1
      (on_acted m (address_of args source) from.0 (go there.memory address.0) from.1
      (or_acted m Outside (bytes_at there.memory.bytes from.0 count) (last there.memory address.0)
      (λ bytes read. let b = bytes_at_fits there.memory.bytes from.0 count bytes there.good.bytes read in
      or_acted m Outside (with_bytes_at there.memory.bytes address.0 bytes) (with_new_bytes store there.memory)
      (λ new is. store_written m store is_store there address.0 bytes new b.0 is)))))
  act_fine (SetTable index func) fits =
      let there = table_there (func_count m) (all_tables m) store.table (first_there (all_tables m) fits.0)
      is_store.table in
      let go = λ (table : Table) (entries : List (Option ℕ)).
      Changes (with_table store (record table { entries = entries })) in
      on_acted m store.table there.table
      (λ table. or_fault TableOutside (with_entry table.entries index func) (go table)) there.is
      (or_acted m TableOutside (with_entry there.table.entries index func) (go there.table)
      (λ entries is.
      record {
        memory = is_store.memory;
        table =
            there.change (record there.table { entries = entries })
            (λ l good. entry_set_fits (func_count m) l there.table index func entries good fits.1 is);
        globals =
            is_store.globals;
      }))
  act_fine (SetGlobal global value) fits =
      let is : slice_get (global_types m) global ≡ Some fits.ty.ty = slice_get-map (λ g. g.ty) (all_globals m) global
      ∙ ap (option_map (λ g. g.ty)) fits.there in
      let old = value_at (func_count m) (global_types m) store.globals global fits.ty.ty is_store.globals is in
      let own : IsValue (func_count m) fits.ty.ty value =
      subst (λ t. IsValue (func_count m) t value) fits.typed
      (constant_value (func_count m) value fits.in_range) in
      on_acted m (slice_get store.globals global) old.0 (λ it. Changes (with_global store global value)) old.1
      (record {
        memory = is_store.memory;
        table = is_store.table;
        globals =
            set_value (func_count m) (global_types m) store.globals global fits.ty.ty value is_store.globals is own;
      })
  act_fine (Grow by) fits =
      let there = memory_there (all_memories m) store.memory (first_there (all_memories m) fits) is_store.memory in
      let go = λ (larger : Memory). Changes (with_memory store larger) in
      on_acted m store.memory there.memory (λ memory. or_fault GrowRefused (grown_memory memory by) go) there.is
      (or_acted m GrowRefused (grown_memory there.memory by) go
      (λ new is. record {
        memory = there.change new (λ l good. memory_grown l there.memory by new good is);
        table = is_store.table;
        globals = is_store.globals;
      }))
  act_fine (GrowTable by) fits =
      let there = table_there (func_count m) (all_tables m) store.table (first_there (all_tables m) fits)
      is_store.table in
      let go = λ (larger : Table). Changes (with_table store larger) in
      on_acted m store.table there.table (λ table. or_fault GrowRefused (grown_table table by None) go) there.is
      (or_acted m GrowRefused (grown_table there.table by None) go
      (λ new is. record {
        memory = is_store.memory;
        table = there.change new (λ l good. table_grown (func_count m) l there.table by None new good tt is);
        globals = is_store.globals;
      }))
  act_fine (Call func given) fits = (
    fits.ty,
    fits.has_type,
    fits.defined,
    subst (λ ts. AreValues (func_count m) ts given) fits.fit.typed
        (constants_values (func_count m) given fits.fit.in_range),
  )
  act_fine (CallTable index given) fits =
      let there = table_there (func_count m) (all_tables m) store.table (first_there (all_tables m) fits.0)
      is_store.table in
      on_acted m store.table there.table
      (λ table. or_fault TableOutside (slice_get table.entries index) (calls_entry (code_of m) given)) there.is
      (or_acted m TableOutside (slice_get there.table.entries index) (calls_entry (code_of m) given)
      (λ entry is.
      entry_acted given entry fits.1
      (all_at (λ e. IfSome e (λ func. func < func_count m)) there.table.entries index entry there.good.entries
      is)))
