-- Stores of modules are stores of their instrumented modules, with functions renumbered.
use Rattle.std.proofs.Common.{◌≡◌, ℕ, ◌+◌, ◌<◌, List, [], ◌∷◌, map, Option, Some, None, Bool, true, false, cond, nat_lt, option_map, IsTrue, sym, subst, arith}
use Rattle.std.specs.Prelude.{IfSome}
use Rattle.std.proofs.lemmas.List.{length-map}
use Rattle.std.proofs.lemmas.List.Elements.{All-map, All-weaker}
use Rattle.wasm_syntax.specs.declared.values.Val.{Val}
use Rattle.wasm_syntax.specs.declared.values.ValType.{ValType}
use Rattle.wasm_syntax.specs.declared.values.ValType.TheVariants.{I32, I64, F32, F64, FuncRef}
use Rattle.wasm_syntax.specs.declared.signatures.GlobalType.{GlobalType}
use Rattle.wasm_syntax.specs.declared.signatures.Limits.{Limits}
use Rattle.wasm_syntax.specs.Index.{all_globals, all_tables, imported_funcs}
use Rattle.host_script.specs.Supply.{is_within}
use Rattle.history_spec.specs.Store.{Table}
use Rattle.type_safety.specs.Stores.{func_count, IsTable, MayBeMemory, MayBeTable}
use Rattle.type_safety.specs.Values.{AreValues, count_of}
use Rattle.record_replay_spec.specs.Hooks.{renumber, renumbered_table}
use Rattle.record_replay_spec.specs.Instrumented.{instrumented_module}
use Rattle.record_replay_spec.specs.HookLaws.{InstrumentedKeepsIndices, InstrumentedKeepIndices}
use Rattle.instrumented_module_laws.specs.SizeLaws.{InstrumentedHaveStores}
use Rattle.instrumented_module_laws.proofs.ShortParts.{more_funcs}

-- ---- with 15 more functions

module _ (funcs more : ℕ) (are : more ≡ funcs + 15) where
  in_range : (ty : ValType) (bits : ℕ) → bits < count_of funcs ty → bits < count_of more ty
  in_range I32 bits h = h
  in_range I64 bits h = h
  in_range F32 bits h = h
  in_range F64 bits h = h
  in_range FuncRef bits h = omega (arith, h, are)

  values_kept : (types : List ValType) (values : List Val) → AreValues funcs types values → AreValues more types values
  values_kept [] [] h = h
  values_kept [] (value ∷ values) h = h
  values_kept (ty ∷ types) [] h = h
  values_kept (ty ∷ types) (value ∷ values) h =
      (record { typed = h.0.typed; in_range = in_range ty value.bits h.0.in_range }, values_kept types values h.1)

  module _ (n : ℕ) where
    renumbered_within : (func : ℕ) → func < funcs → renumber n func < more
    renumbered_within func h = by (nat_lt func n)
      where
        by : (b : Bool) → cond b func (func + 15) < more
        by true = omega (arith, h, are)
        by false = omega (arith, h, are)

    entry_kept : (entry : Option ℕ) → IfSome entry (λ func. func < funcs)
        → IfSome (option_map (renumber n) entry) (λ func. func < more)
    entry_kept None h = h
    entry_kept (Some func) h = renumbered_within func h

    table_kept : (limits : Limits) (table : Table) → IsTable funcs limits table
        → IsTable more limits (renumbered_table n table)
    table_kept limits table is =
        let long = length-map table.entries (option_map (renumber n)) in
        let least = is.least in
        let few = is.most in
        record {
          entries =
              All-map (λ (entry : Option ℕ). IfSome entry (λ func. func < more)) (option_map (renumber n)) table.entries
              (All-weaker (λ (entry : Option ℕ). IfSome entry (λ func. func < funcs))
              (λ (entry : Option ℕ). IfSome (option_map (renumber n) entry) (λ func. func < more)) entry_kept
              table.entries is.entries);
          least = omega (arith, long, least);
          within = subst (λ count. IsTrue (is_within count table.max)) (sym long) is.within;
          most = omega (arith, long, few);
        }

    stored_kept : (limits : List Limits) (table : Option Table) → MayBeTable funcs limits table
        → MayBeTable more limits (option_map (renumbered_table n) table)
    stored_kept [] None h = h
    stored_kept [] (Some table) h = h
    stored_kept (limits ∷ others) None h = h
    stored_kept (limits ∷ others) (Some table) h = table_kept limits table h

pub instrumented_have_stores : InstrumentedKeepIndices → InstrumentedHaveStores
instrumented_have_stores keep m digest store is =
    let hooked = instrumented_module m digest in
    let keeps : InstrumentedKeepsIndices m digest = keep m digest in
    let are = more_funcs keep m digest in
    let types = λ (globals : List GlobalType). map (λ (global : GlobalType). global.ty) globals in
    record {
      memory = subst (λ limits. MayBeMemory limits store.memory) (sym keeps.memories) is.memory;
      table =
          subst
          (λ limits. MayBeTable (func_count hooked) limits
          (option_map (renumbered_table (imported_funcs m)) store.table))
          (sym keeps.tables)
          (stored_kept (func_count m) (func_count hooked) are (imported_funcs m) (all_tables m) store.table is.table);
      globals =
          subst (λ globals. AreValues (func_count hooked) (types globals) store.globals) (sym keeps.globals)
          (values_kept (func_count m) (func_count hooked) are (types (all_globals m)) store.globals is.globals);
    }
