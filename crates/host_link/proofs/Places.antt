-- The place of the first segment that does not fit, element segments before data segments.
use Rattle.std.proofs.Common.{◌≡◌, ℕ, ◌+◌, List, [], ◌∷◌, ◌++◌, length, Option, Some, None, Bool, true, false, IsTrue, map, refl, sym, ap, subst, ◌∙◌, arith}
use Rattle.std.specs.Prelude.{All, option_map}
use Rattle.std.proofs.lemmas.List.{length-map}
use Rattle.wasm_syntax.specs.declared.values.Val.{Val}
use Rattle.wasm_syntax.specs.declared.modules.Module.{Module}
use Rattle.wasm_syntax.specs.declared.modules.ElemSeg.{ElemSeg}
use Rattle.wasm_syntax.specs.declared.modules.ElemSeg.TheVariants.{Active, Declared}
use Rattle.wasm_syntax.specs.declared.modules.DataSeg.{DataSeg}
use Rattle.history_spec.specs.Store.{Store}
use Rattle.history_spec.specs.Instantiation.{data_fits, elem_fits, first_false, first_unfit, memory_length, table_length}
use Rattle.instantiation_parts.proofs.Segments.{all_true}
use Rattle.host_link.specs.Link.{data_fits_in, elem_fits_in, with_elems_in}

-- the first false test of two lists, if the first list has one
first_before : (at place : ℕ) (xs ys : List Bool) → first_false at xs ≡ Some place
    → first_false at (xs ++ ys) ≡ Some place
first_before at place [] ys is = cc
first_before at place (true ∷ xs) ys is = first_before (at + 1) place xs ys is
first_before at place (false ∷ xs) ys is = is

-- the first false test of two lists, if the first list has no false test
first_after : (at : ℕ) (xs ys : List Bool) → first_false at xs ≡ None
    → first_false at (xs ++ ys) ≡ first_false (at + length xs) ys
first_after at [] ys is = ap (λ k. first_false k ys) (omega arith)
first_after at (true ∷ xs) ys is = first_after (at + 1) xs ys is ∙ ap (λ k. first_false k ys) (omega arith)
first_after at (false ∷ xs) ys is = cc

-- if two lists have no false test, the first of them has no false test
none_before : (at : ℕ) (xs ys : List Bool) → first_false at (xs ++ ys) ≡ None → first_false at xs ≡ None
none_before at [] ys is = refl
none_before at (true ∷ xs) ys is = none_before (at + 1) xs ys is
none_before at (false ∷ xs) ys is = is

-- counted from another place
first_later : (more at : ℕ) (ys : List Bool)
    → first_false (more + at) ys ≡ option_map (λ k. more + k) (first_false at ys)
first_later more at [] = refl
first_later more at (true ∷ ys) = ap (λ k. first_false k ys) (omega arith) ∙ first_later more (at + 1) ys
first_later more at (false ∷ ys) = refl

-- a segment fits within a store if it fits within sizes that are the store's
elems_fit_alike : (imported : List Val) (store : Store) (entries : ℕ) → entries ≡ table_length store.table
    → (elems : List ElemSeg) → map (elem_fits_in entries imported) elems ≡ map (elem_fits imported store) elems
elems_fit_alike imported store entries size elems =
    subst (λ n. map (elem_fits_in n imported) elems ≡ map (elem_fits imported store) elems) (sym size) (go elems) where
      go : (elems : List ElemSeg)
          → map (elem_fits_in (table_length store.table) imported) elems ≡ map (elem_fits imported store) elems
      go [] = refl
      go (Active table offset funcs ∷ elems) =
          ap (λ rest. elem_fits imported store (Active table offset funcs) ∷ rest) (go elems)
      go (Declared funcs ∷ elems) = ap (λ rest. true ∷ rest) (go elems)

datas_fit_alike : (imported : List Val) (store : Store) (bytes : ℕ) → bytes ≡ memory_length store.memory
    → (datas : List DataSeg) → map (data_fits_in bytes imported) datas ≡ map (data_fits imported store) datas
datas_fit_alike imported store bytes size datas =
    subst (λ n. map (data_fits_in n imported) datas ≡ map (data_fits imported store) datas) (sym size) (go datas) where
      go : (datas : List DataSeg)
          → map (data_fits_in (memory_length store.memory) imported) datas ≡ map (data_fits imported store) datas
      go [] = refl
      go (segment ∷ datas) = ap (λ rest. data_fits imported store segment ∷ rest) (go datas)

module _ (m : Module) (imported : List Val) (store : Store) (elems : List ElemSeg) (e : elems ≡ m.elems) where
  abbrev elem_tests : List Bool
  elem_tests = map (elem_fits imported store) elems

  abbrev data_tests : List DataSeg → List Bool
  data_tests datas = map (data_fits imported store) datas

  -- the segments of the module are these
  unfit_is : (datas : List DataSeg) → datas ≡ m.datas
      → first_unfit m imported store ≡ first_false 0 (elem_tests ++ data_tests datas)
  unfit_is datas f =
      sym (ap (λ es. first_false 0 (map (elem_fits imported store) es ++ data_tests datas)) e
      ∙ ap (λ ds. first_false 0 (map (elem_fits imported store) m.elems ++ data_tests ds)) f)

  -- an element segment does not fit
  pub elem_unfit : (entries place : ℕ) → entries ≡ table_length store.table
      → Some place ≡ first_false 0 (map (elem_fits_in entries imported) elems)
      → Some place ≡ first_unfit m imported store
  elem_unfit entries place size is =
      let found = is ∙ ap (first_false 0) (elems_fit_alike imported store entries size elems) in
      sym (unfit_is m.datas refl ∙ first_before 0 place elem_tests (data_tests m.datas) (sym found))

  -- all element segments fit, and so do the data segments, or one of the data segments does not
  pub data_unfit : (entries bytes : ℕ) (datas : List DataSeg) (place : Option ℕ) → datas ≡ m.datas
      → entries ≡ table_length store.table → None ≡ first_false 0 (map (elem_fits_in entries imported) elems)
      → bytes ≡ memory_length store.memory → place ≡ first_false 0 (map (data_fits_in bytes imported) datas)
      → option_map (λ k. length elems + k) place ≡ first_unfit m imported store
  data_unfit entries bytes datas place f table all_fit memory found =
      let none = all_fit ∙ ap (first_false 0) (elems_fit_alike imported store entries table elems) in
      let is = found ∙ ap (first_false 0) (datas_fit_alike imported store bytes memory datas) in
      ap (option_map (λ k. length elems + k)) is
      ∙ sym (unfit_is datas f
      ∙ first_after 0 elem_tests (data_tests datas) (sym none)
      ∙ ap (λ k. first_false k (data_tests datas)) (omega (arith, length-map elems (elem_fits imported store)))
      ∙ first_later (length elems) 0 (data_tests datas))

  -- each fits
  pub elems_fit : first_unfit m imported store ≡ None → All (λ elem. IsTrue (elem_fits imported store elem)) elems
  elems_fit none =
      all_true (elem_fits imported store) 0 elems
      (none_before 0 elem_tests (data_tests m.datas) (sym (unfit_is m.datas refl) ∙ none))

  -- data segments fit also after element segments are written, which leaves the memory as it is
  pub datas_fit : (datas : List DataSeg) (after : Store) → datas ≡ m.datas → after ≡ with_elems_in imported elems store
      → first_unfit m imported store ≡ None → All (λ segment. IsTrue (data_fits imported after segment)) datas
  datas_fit datas after f written none =
      let is = sym (unfit_is datas f) ∙ none in
      subst (λ s. All (λ segment. IsTrue (data_fits imported s segment)) datas) (sym written)
      (all_true (data_fits imported store) (0 + length elem_tests) datas
      (sym (first_after 0 elem_tests (data_tests datas) (none_before 0 elem_tests (data_tests datas) is)) ∙ is))
