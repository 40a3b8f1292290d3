-- The store in which the run of a replay module begins.
use Rattle.std.proofs.Common.{◌≡◌, ℕ, zero, suc, ◌+◌, List, [], ◌∷◌, ◌++◌, length, Option, Some, None, Bool, true, false, Ok, refl, sym, ap, ◌∙◌, replicate, option_map}
use Rattle.std.specs.Prelude.{fold, map, nat_le, option_to_list}
use Rattle.std.specs.List.{zip}
use Rattle.std.proofs.lemmas.List.{append_assoc, map-append}
use Rattle.std.proofs.lemmas.Option.{none-some}
use Rattle.wasm_syntax.specs.declared.values.Val.{Val}
use Rattle.wasm_syntax.specs.declared.signatures.GlobalType.{GlobalType}
use Rattle.wasm_syntax.specs.declared.signatures.Limits.{Limits}
use Rattle.wasm_syntax.specs.declared.modules.DataSeg.{DataSeg}
use Rattle.wasm_syntax.specs.declared.modules.ElemSeg.{ElemSeg}
use Rattle.wasm_syntax.specs.declared.modules.ElemSeg.TheVariants.{Active, Declared}
use Rattle.wasm_syntax.specs.declared.modules.Global.{Global}
use Rattle.wasm_syntax.specs.declared.modules.Module.{Module}
use Rattle.wasm_syntax.specs.Index.{imported_funcs, imported_globals}
use Rattle.host_script.specs.declared.scripts.Supply.{Supply}
use Rattle.history_spec.specs.Code.{i32_value}
use Rattle.history_spec.specs.Instantiation.{data_fits, elem_fits, first_false, first_unfit, global_value, instantiate, limits_of, memory_length, memory_limits, new_memory, new_store, new_table, offset_of, store_unless, table_limits, with_data, with_datas, with_elem, with_elems, with_segments}
use Rattle.history_spec.specs.Replay.{alone}
use Rattle.history_spec.specs.Store.{Memory, Store, Table}
use Rattle.replay_module_spec.specs.declared.plans.Plan.{Plan}
use Rattle.replay_module_spec.specs.Fragments.{counter, fragment_of}
use Rattle.replay_module_spec.specs.Merge.{constant_data, constant_elem, constant_global, declaration, memory_written, replay_module, supplied_global}
use Rattle.type_safety.specs.Supplies.{IsSupply}
use Rattle.type_safety.specs.Stores.{func_count}
use Rattle.type_safety.specs.Values.{AreValues}
use Rattle.replay_module_laws.specs.Stores.{counters, memory_cut, with_own}

-- ---- tests of segments

-- each test of a list passes
abbrev AllPass : List Bool → Type 0
AllPass [] = Unit {0}
AllPass (true ∷ tests) = AllPass tests
AllPass (false ∷ tests) = ⊥

pass : (at : ℕ) (tests : List Bool) → first_false at tests ≡ None → AllPass tests
pass at [] h = tt
pass at (true ∷ tests) h = pass (at + 1) tests h
pass at (false ∷ tests) h = absurd (none-some at (sym h))

none_fails : (at : ℕ) (tests : List Bool) → AllPass tests → first_false at tests ≡ None
none_fails at [] p = refl
none_fails at (true ∷ tests) p = none_fails (at + 1) tests p
none_fails at (false ∷ tests) p = absurd p

pass_between : (first between last : List Bool) → AllPass between → AllPass (first ++ last)
    → AllPass ((first ++ between) ++ last)
pass_between [] between last b p = pass_both between last b p
  where
    pass_both : (xs ys : List Bool) → AllPass xs → AllPass ys → AllPass (xs ++ ys)
    pass_both [] ys f s = s
    pass_both (true ∷ xs) ys f s = pass_both xs ys f s
    pass_both (false ∷ xs) ys f s = f
pass_between (true ∷ first) between last b p = pass_between first between last b p
pass_between (false ∷ first) between last b p = p

-- ---- lists

mapped_zip : (types : List GlobalType) (values : List Val) (funcs : ℕ)
    → AreValues funcs (map (λ (g : GlobalType). g.ty) types) values
    → map (global_value []) (map supplied_global (zip types values)) ≡ values
mapped_zip [] [] funcs h = refl
mapped_zip [] (value ∷ values) funcs h = absurd h
mapped_zip (ty ∷ types) [] funcs h = absurd h
mapped_zip (ty ∷ types) (value ∷ values) funcs h =
    ap (λ l. value ∷ l) (mapped_zip types values funcs h.1)

mapped_globals : (imported : List Val) (globals : List Global)
    → map (global_value []) (map (constant_global imported) globals) ≡ map (global_value imported) globals
mapped_globals imported [] = refl
mapped_globals imported (global ∷ globals) =
    ap (λ l. global_value imported global ∷ l) (mapped_globals imported globals)

mapped_counters : (count : ℕ) → map (global_value []) (replicate count counter) ≡ counters (replicate count 0)
mapped_counters zero = refl
mapped_counters (suc count) = ap (λ l. i32_value 0 ∷ l) (mapped_counters count)

-- ---- the parts

module _ (m : Module) (supply : Supply) (plan : Plan) where
  abbrev replay : Module
  replay = replay_module m supply (fragment_of m plan)

  abbrev own : List Val
  own = counters (replicate (imported_funcs m) 0)

  abbrev imported : List Val
  imported = supply.globals

  memory_is : (o : Option Limits)
      → option_map new_memory (limits_of [] None (option_to_list (option_map memory_written o)))
      ≡ option_map memory_cut (option_map new_memory o)
  memory_is None = refl
  memory_is (Some limits) = refl

  table_is : (o : Option Limits)
      → option_map new_table (limits_of [] None (option_to_list o)) ≡ option_map new_table o
  table_is None = refl
  table_is (Some limits) = refl

  globals_are : IsSupply m supply
      → map (global_value []) replay.globals ≡ (imported ++ map (global_value imported) m.globals) ++ own
  globals_are supplied =
      map-append (global_value []) (map supplied_global (zip (imported_globals m) imported))
      (map (constant_global imported) m.globals ++ replicate (imported_funcs m) counter)
      ∙ ap (λ l. l
      ++ map (global_value []) (map (constant_global imported) m.globals ++ replicate (imported_funcs m) counter))
      (mapped_zip (imported_globals m) imported (func_count m) supplied.globals)
      ∙ ap (λ l. imported ++ l)
      (map-append (global_value []) (map (constant_global imported) m.globals) (replicate (imported_funcs m) counter)
      ∙ ap (λ l. l ++ map (global_value []) (replicate (imported_funcs m) counter)) (mapped_globals imported m.globals)
      ∙ ap (λ l. map (global_value imported) m.globals ++ l) (mapped_counters (imported_funcs m)))
      ∙ sym (append_assoc imported (map (global_value imported) m.globals) own)

  -- the store before segments
  store_is : IsSupply m supply → new_store replay alone ≡ with_own own (new_store m supply)
  store_is supplied =
      ap (λ o. record {
        memory = o;
        table = option_map new_table (table_limits replay alone);
        globals = map (global_value []) replay.globals;
      }) (memory_is (memory_limits m supply))
      ∙ ap (λ o. record {
        memory = option_map memory_cut (option_map new_memory (memory_limits m supply));
        table = o;
        globals = map (global_value []) replay.globals;
      }) (table_is (table_limits m supply))
      ∙ ap (λ globals. record {
        memory = option_map memory_cut (option_map new_memory (memory_limits m supply));
        table = option_map new_table (table_limits m supply);
        globals = globals;
      }) (globals_are supplied)

  -- ---- segments fit

  module _ (store : Store) where
    memory_long : (o : Option Memory) → memory_length (option_map memory_cut o) ≡ memory_length o
    memory_long None = refl
    memory_long (Some memory) = refl

    elem_fit : (segment : ElemSeg)
        → elem_fits [] (with_own own store) (constant_elem imported segment) ≡ elem_fits imported store segment
    elem_fit (Active table offset funcs) = refl
    elem_fit (Declared funcs) = refl

    elems_fit : (elems : List ElemSeg)
        → map (elem_fits [] (with_own own store)) (map (constant_elem imported) elems)
        ≡ map (elem_fits imported store) elems
    elems_fit [] = refl
    elems_fit (segment ∷ elems) =
        ap (λ b. b ∷ map (elem_fits [] (with_own own store)) (map (constant_elem imported) elems)) (elem_fit segment)
        ∙ ap (λ l. elem_fits imported store segment ∷ l) (elems_fit elems)

    datas_fit : (datas : List DataSeg)
        → map (data_fits [] (with_own own store)) (map (constant_data imported) datas)
        ≡ map (data_fits imported store) datas
    datas_fit [] = refl
    datas_fit (segment ∷ datas) =
        ap (λ n. nat_le (offset_of imported segment.offset + length segment.bytes) n
        ∷ map (data_fits [] (with_own own store)) (map (constant_data imported) datas)) (memory_long store.memory)
        ∙ ap (λ l. data_fits imported store segment ∷ l) (datas_fit datas)

    declared_pass : (funcs : List ℕ) → AllPass (map (elem_fits [] (with_own own store)) (declaration funcs))
    declared_pass [] = tt
    declared_pass (func ∷ funcs) = tt

    all_fit : first_false 0 (map (elem_fits imported store) m.elems ++ map (data_fits imported store) m.datas) ≡ None
        → first_false 0 (map (elem_fits [] (with_own own store)) replay.elems
        ++ map (data_fits [] (with_own own store)) replay.datas) ≡ None
    all_fit h =
        let declared = declaration (fragment_of m plan).declared in
        let between = map (elem_fits [] (with_own own store)) declared in
        let tests = map (elem_fits imported store) m.elems in
        let more = map (data_fits imported store) m.datas in
        ap (λ l. first_false 0 (l ++ map (data_fits [] (with_own own store)) replay.datas))
        (map-append (elem_fits [] (with_own own store)) (map (constant_elem imported) m.elems) declared)
        ∙ ap (λ l. first_false 0 ((l ++ between) ++ map (data_fits [] (with_own own store)) replay.datas))
        (elems_fit m.elems)
        ∙ ap (λ l. first_false 0 ((tests ++ between) ++ l)) (datas_fit m.datas)
        ∙ none_fails 0 ((tests ++ between) ++ more)
        (pass_between tests between more (declared_pass (fragment_of m plan).declared) (pass 0 (tests ++ more) h))

    -- ---- segments are written

    datas_written : (datas : List DataSeg) (bytes : List ℕ)
        → fold (with_data []) bytes (map (constant_data imported) datas) ≡ fold (with_data imported) bytes datas
    datas_written [] bytes = refl
    datas_written (segment ∷ datas) bytes = datas_written datas (with_data imported bytes segment)

    declared_nothing : (funcs : List ℕ) (entries : List (Option ℕ))
        → fold (with_elem []) entries (declaration funcs) ≡ entries
    declared_nothing [] entries = refl
    declared_nothing (func ∷ funcs) entries = refl

    elems_written : (elems : List ElemSeg) (entries : List (Option ℕ))
        → fold (with_elem []) entries (map (constant_elem imported) elems ++ declaration (fragment_of m plan).declared)
        ≡ fold (with_elem imported) entries elems
    elems_written [] entries = declared_nothing (fragment_of m plan).declared entries
    elems_written (Active table offset funcs ∷ elems) entries =
        elems_written elems (with_elem imported entries (Active table offset funcs))
    elems_written (Declared funcs ∷ elems) entries = elems_written elems entries

    memory_written_same : (o : Option Memory)
        → option_map (with_datas [] replay.datas) (option_map memory_cut o)
        ≡ option_map memory_cut (option_map (with_datas imported m.datas) o)
    memory_written_same None = refl
    memory_written_same (Some memory) =
        ap (λ bytes. Some (record (memory_cut memory) { bytes = bytes })) (datas_written m.datas memory.bytes)

    table_written_same : (o : Option Table)
        → option_map (with_elems [] replay.elems) o ≡ option_map (with_elems imported m.elems) o
    table_written_same None = refl
    table_written_same (Some table) =
        ap (λ entries. Some (record table { entries = entries })) (elems_written m.elems table.entries)

    segments_same : with_segments replay [] (with_own own store) ≡ with_own own (with_segments m imported store)
    segments_same =
        ap (λ o. record {
          memory = o;
          table = option_map (with_elems [] replay.elems) store.table;
          globals = store.globals ++ own;
        }) (memory_written_same store.memory)
        ∙ ap (λ o. record {
          memory = option_map memory_cut (option_map (with_datas imported m.datas) store.memory);
          table = o;
          globals = store.globals ++ own;
        }) (table_written_same store.table)

  -- ---- the whole store

  opened : (store : Store) (o : Option ℕ) (s : Store) → store_unless o s ≡ Ok store → (o ≡ None) × (s ≡ store)
  opened store None s h = (refl, cc)
  opened store (Some number) s h = absurd (cc h)

  pub opens : (store : Store) → IsSupply m supply → instantiate m supply ≡ Ok store
      → instantiate replay alone ≡ Ok (with_own own store)
  opens store supplied h =
      let before = new_store m supply in
      let parts = opened store (first_unfit m imported before) (with_segments m imported before) h in
      ap (λ s. store_unless (first_unfit replay [] s) (with_segments replay [] s)) (store_is supplied)
      ∙ ap (λ o. store_unless o (with_segments replay [] (with_own own before))) (all_fit before parts.0)
      ∙ ap (λ s. Ok s) (segments_same before ∙ ap (with_own own) parts.1)
