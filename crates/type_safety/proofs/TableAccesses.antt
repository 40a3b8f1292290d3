-- The instructions on tables in a well-typed activation have rules, and their results are well typed.
use Rattle.std.proofs.Common.{◌≡◌, ℕ, suc, zero, ◌^◌, ◌<◌, ◌≤◌, List, [], ◌∷◌, length, Option, Some, None, true, slice_get, refl, arith}
use Rattle.std.specs.Prelude.{is_some, IfSome}
use Rattle.wasm_syntax.specs.declared.values.ValType.{ValType}
use Rattle.wasm_syntax.specs.declared.values.ValType.TheVariants.{I32, FuncRef}
use Rattle.wasm_syntax.specs.declared.values.Val.{Val}
use Rattle.wasm_syntax.specs.declared.signatures.Limits.{Limits}
use Rattle.wasm_syntax.specs.declared.instructions.Instr.{Instr}
use Rattle.wasm_syntax.specs.declared.instructions.Instr.TheVariants.{TableSet, TableGrow, TableSize}
use Rattle.wasm_syntax.specs.Index.{all_tables}
use Rattle.wasm_syntax.specs.Typing.{Moves, has_table}
use Rattle.history_spec.specs.Store.{Store, Table, grown_table, with_entry, with_table}
use Rattle.history_spec.specs.Code.{i32_value}
use Rattle.history_spec.specs.Configuration.{Place, Frame}
use Rattle.history_spec.specs.Instruction.{bits_at, gives, referent, table_result, table_grow_result, takes}
use Rattle.type_safety.specs.Values.{AreValues}
use Rattle.type_safety.specs.Stores.{func_count, IsStore}
use Rattle.type_safety.specs.Frames.{Scope, context, IsCode, base_of, IsAround}
use Rattle.type_safety.proofs.Tables.{table_there, entry_set_fits, table_grown, referred_fits}
use Rattle.type_safety.proofs.InstrTypes.{cond_leads, ready}
use Rattle.type_safety.specs.Results.{HasRule}
use Rattle.type_safety.proofs.Fine.{IsFine, on_fine, takes_fine, gives_fine, changes_fine}

no_second : (t : ℕ) (tables : List Limits) → is_some (slice_get tables (suc t)) ≡ true → length tables ≤ 1 → ⊥
no_second t [] there one = cc
no_second t (l ∷ []) there one = cc
no_second t (l ∷ k ∷ more) there one = omega arith

module _ (s : Scope) (one : length (all_tables s.m) ≤ 1) (store : Store) (is_store : IsStore s.m store) (frame : Frame)
    (labels : List (List ValType)) (given : List ValType) (around : IsAround s labels given frame) (next : Place) where
  abbrev n : ℕ
  n = func_count s.m

  abbrev Fine : Instr → Type 0
  Fine = IsFine s store frame labels given next

  -- ---- results

  entry_set_fine : (table : Table) (below : List ValType) (operands rest : List Val)
      (entries : Option (List (Option ℕ)))
      → ((new : List (Option ℕ)) → entries ≡ Some new
      → IsStore s.m (with_table store (record table { entries = new }))) → AreValues n below rest
      → IsCode s labels next (base_of frame.labels) below given
      → HasRule s (table_result store frame next table operands rest entries)
  entry_set_fine table below operands rest entries changed q code =
      changes_fine s (λ (new : List (Option ℕ)). with_table store (record table { entries = new })) frame next labels
      given below operands rest (table_result store frame next table operands rest) entries tt (λ new. refl) changed
      around q code

  table_grown_fine : (table : Table) (below : List ValType) (operands rest : List Val) (larger : Option Table)
      → ((new : Table) → larger ≡ Some new → IsStore s.m (with_table store new)) → length table.entries < 2 ^ 32
      → AreValues n below rest → IsCode s labels next (base_of frame.labels) (I32 ∷ below) given
      → HasRule s (table_grow_result store frame next table operands rest larger)
  table_grown_fine table below operands rest None changed few q code =
      gives_fine s store frame next labels given (I32 ∷ []) below operands rest (i32_value 0xFFFFFFFF ∷ []) None
      is_store around (record { typed = refl; in_range = omega arith }, tt) q code
  table_grown_fine table below operands rest (Some new) changed few q code =
      gives_fine s (with_table store new) frame next labels given (I32 ∷ []) below operands rest
      (i32_value (length table.entries) ∷ []) None (changed new refl) around
      (record { typed = refl; in_range = few }, tt) q code

  -- ---- the instructions

  pub table_set_fine : (t : ℕ) → Fine (TableSet t)
  table_set_fine zero before middle p leads supported code =
      let c = cond_leads (context s labels) before middle (has_table (context s labels) 0)
      (Some (Moves (FuncRef ∷ I32 ∷ []) [])) leads in
      let r = ready s labels given (FuncRef ∷ I32 ∷ []) [] before middle frame.values next (base_of frame.labels) c.1
      p code in
      let there = table_there n (all_tables s.m) store.table c.0 is_store.table in
      let go = λ (table : Table) (operands rest : List Val).
      table_result store frame next table operands rest
      (with_entry table.entries (bits_at operands 0) (referent (bits_at operands 1))) in
      on_fine s store.table there.table (λ table. takes frame (I32 ∷ FuncRef ∷ []) (go table)) there.is
      (takes_fine s frame (I32 ∷ FuncRef ∷ []) r.below (go there.table) r.had
      (λ operands rest of_operands of_rest.
      entry_set_fine there.table r.below operands rest
      (with_entry there.table.entries (bits_at operands 0) (referent (bits_at operands 1)))
      (λ new is. record {
        memory = is_store.memory;
        table =
            there.change (record there.table { entries = new })
            (λ l good. entry_set_fits n l there.table (bits_at operands 0) (referent (bits_at operands 1)) new good
            (second operands of_operands) is);
        globals = is_store.globals;
      }) of_rest r.code))
    where
      second : (operands : List Val) → AreValues n (I32 ∷ FuncRef ∷ []) operands
          → IfSome (referent (bits_at operands 1)) (λ func. func < n)
      second [] h = absurd h
      second (a ∷ []) h = absurd h.1
      second (a ∷ b ∷ vs) h = referred_fits n b.bits h.1.0.in_range
  table_set_fine (suc t) before middle p leads supported code =
      let c = cond_leads (context s labels) before middle (has_table (context s labels) (suc t))
      (Some (Moves (FuncRef ∷ I32 ∷ []) [])) leads in
      absurd (no_second t (all_tables s.m) c.0 one)

  pub table_size_fine : (t : ℕ) → Fine (TableSize t)
  table_size_fine zero before middle p leads supported code =
      let c = cond_leads (context s labels) before middle (has_table (context s labels) 0)
      (Some (Moves [] (I32 ∷ []))) leads in
      let r = ready s labels given [] (I32 ∷ []) before middle frame.values next (base_of frame.labels) c.1 p code in
      let there = table_there n (all_tables s.m) store.table c.0 is_store.table in
      let few : length there.table.entries < 2 ^ 32 = omega (arith, there.good.most) in
      on_fine s store.table there.table
      (λ table. gives store frame next [] frame.values (i32_value (length table.entries) ∷ [])) there.is
      (gives_fine s store frame next labels given (I32 ∷ []) r.below [] frame.values
      (i32_value (length there.table.entries) ∷ []) None is_store around
      (record { typed = refl; in_range = few }, tt) r.had r.code)
  table_size_fine (suc t) before middle p leads supported code =
      let c = cond_leads (context s labels) before middle (has_table (context s labels) (suc t))
      (Some (Moves [] (I32 ∷ []))) leads in
      absurd (no_second t (all_tables s.m) c.0 one)

  pub table_grow_fine : (t : ℕ) → Fine (TableGrow t)
  table_grow_fine zero before middle p leads supported code =
      let c = cond_leads (context s labels) before middle (has_table (context s labels) 0)
      (Some (Moves (I32 ∷ FuncRef ∷ []) (I32 ∷ []))) leads in
      let r = ready s labels given (I32 ∷ FuncRef ∷ []) (I32 ∷ []) before middle frame.values next
      (base_of frame.labels) c.1 p code in
      let there = table_there n (all_tables s.m) store.table c.0 is_store.table in
      let few : length there.table.entries < 2 ^ 32 = omega (arith, there.good.most) in
      let go = λ (table : Table) (operands rest : List Val).
      table_grow_result store frame next table operands rest
      (grown_table table (bits_at operands 1) (referent (bits_at operands 0))) in
      on_fine s store.table there.table (λ table. takes frame (FuncRef ∷ I32 ∷ []) (go table)) there.is
      (takes_fine s frame (FuncRef ∷ I32 ∷ []) r.below (go there.table) r.had
      (λ operands rest of_operands of_rest.
      table_grown_fine there.table r.below operands rest
      (grown_table there.table (bits_at operands 1) (referent (bits_at operands 0)))
      (λ new is. record {
        memory = is_store.memory;
        table =
            there.change new
            (λ l good. table_grown n l there.table (bits_at operands 1) (referent (bits_at operands 0)) new good
            (first operands of_operands) is);
        globals = is_store.globals;
      }) few of_rest r.code))
    where
      first : (operands : List Val) → AreValues n (FuncRef ∷ I32 ∷ []) operands
          → IfSome (referent (bits_at operands 0)) (λ func. func < n)
      first [] h = absurd h
      first (a ∷ vs) h = referred_fits n a.bits h.0.in_range
  table_grow_fine (suc t) before middle p leads supported code =
      let c = cond_leads (context s labels) before middle (has_table (context s labels) (suc t))
      (Some (Moves (I32 ∷ FuncRef ∷ []) (I32 ∷ []))) leads in
      absurd (no_second t (all_tables s.m) c.0 one)
