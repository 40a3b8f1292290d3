-- The module of these tests links, and its store has no globals.
use Rattle.std.proofs.Common.{◌≡◌, ◌<◌, ◌≤◌, ◌^◌, List, [], ◌++◌, arith, length, map, Result, Ok, Err, IsOk, refl, sym, ap, ◌∙◌, subst}
use Rattle.std.proofs.lemmas.List.{length-map}
use Rattle.wasm_syntax.specs.declared.values.Val.{Val}
use Rattle.wasm_syntax.specs.declared.values.ValType.{ValType}
use Rattle.wasm_syntax.specs.declared.modules.Module.{Module}
use Rattle.wasm_syntax.specs.declared.modules.ElemSeg.{ElemSeg}
use Rattle.wasm_syntax.specs.declared.modules.DataSeg.{DataSeg}
use Rattle.wasm_syntax.specs.Index.{all_globals, func_import, func_indices, global_import, of_kind}
use Rattle.host_script.specs.declared.scripts.LinkFault.{LinkFault}
use Rattle.history_spec.specs.Store.{Store}
use Rattle.history_spec.specs.Instantiation.{data_fits, elem_fits, first_false, global_value, instantiate, new_store, store_unless, with_segments}
use Rattle.type_safety.specs.Stores.{func_count, global_types}
use Rattle.type_safety.specs.Values.{AreValues}
use Rattle.tests_recorder.specs.Modules.{IsBare, nothing}

module _ (m : Module) (bare : IsBare m) where
  opened : Store
  opened = with_segments m [] (new_store m nothing)

  is_opened : instantiate m nothing ≡ Ok opened
  unfolding opened
  is_opened =
      ap
      (λ elems. store_unless
      (first_false 0
      (map (elem_fits [] (new_store m nothing)) elems ++ map (data_fits [] (new_store m nothing)) m.datas))
      (with_segments m [] (new_store m nothing)))
      bare.elems
      ∙ ap
      (λ datas. store_unless (first_false 0 (map (data_fits [] (new_store m nothing)) datas))
      (with_segments m [] (new_store m nothing)))
      bare.datas

  pub links : IsOk (instantiate m nothing)
  links = subst IsOk (sym is_opened) refl

  pub few : length m.funcs ≤ 1000 → length (func_indices m) < 2 ^ 32
  few short =
      let same : length (func_indices m) ≡ length m.funcs =
      ap (λ imports. length (of_kind func_import imports ++ map (λ f. f.ty) m.funcs)) bare.imports
      ∙ length-map m.funcs (λ f. f.ty) in
      omega (arith, same, short)

  pub few_globals : length (all_globals m) ≤ 2 ^ 32
  few_globals =
      let none : all_globals m ≡ [] =
      ap (λ imports. of_kind global_import imports ++ map (λ global. global.ty) m.globals) bare.imports
      ∙ ap (map (λ global. global.ty)) bare.globals in
      omega (arith, ap length none)

  abbrev store_in : Result Store LinkFault → Store
  store_in (Ok store) = store
  store_in (Err fault) = opened

  none : AreValues (func_count m) [] []
  none = tt

  pub typed : (store : Store) → instantiate m nothing ≡ Ok store
      → AreValues (func_count m) (global_types m) store.globals
  unfolding opened
  typed store is =
      let same : opened ≡ store = ap store_in (sym is_opened ∙ is) in
      let values : store.globals ≡ [] =
      ap (λ s. s.globals) (sym same) ∙ ap (map (global_value [])) bare.globals in
      let types : global_types m ≡ [] =
      ap (λ imports. map (λ ty. ty.ty) (of_kind global_import imports ++ map (λ global. global.ty) m.globals)) bare.imports
      ∙ ap (λ globals. map (λ ty. ty.ty) (map (λ global. global.ty) globals)) bare.globals in
      subst (λ types. AreValues (func_count m) types store.globals) (sym types)
      (subst (AreValues (func_count m) []) (sym values) none)
