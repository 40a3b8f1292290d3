-- All segments of an instantiated store fit.
use Rattle.std.proofs.Common.{◌≡◌, ℕ, ◌+◌, List, [], ◌∷◌, ◌++◌, Option, Some, None, Bool, true, false, IsTrue, Ok, map, refl, sym, ap}
use Rattle.std.specs.Prelude.{All}
use Rattle.std.proofs.lemmas.List.Elements.{All-nil, All-cons}
use Rattle.wasm_syntax.specs.declared.modules.Module.{Module}
use Rattle.host_script.specs.declared.scripts.Supply.{Supply}
use Rattle.history_spec.specs.Store.{Store}
use Rattle.history_spec.specs.Instantiation.{data_fits, elem_fits, first_false, first_unfit, instantiate, new_store, store_unless, with_segments}
use Rattle.instantiation_parts.specs.Parts.{HasParts}

-- if two lists have no false test together, each of them has no false test
none_false : (at : ℕ) (xs ys : List Bool) → first_false at (xs ++ ys) ≡ None
    → (first_false at xs ≡ None) × ((later : ℕ) × (first_false later ys ≡ None))
none_false at [] ys is = (refl, (at, is))
none_false at (true ∷ xs) ys is = none_false (at + 1) xs ys is
none_false at (false ∷ xs) ys is = cc

-- if no test is false, the test holds of all items
pub all_true : {X : Type 0} (test : X → Bool) (at : ℕ) (xs : List X) → first_false at (map test xs) ≡ None
    → All (λ x. IsTrue (test x)) xs
all_true test at [] is = All-nil (λ x. IsTrue (test x))
all_true test at (x ∷ xs) is = by (test x) refl is (all_true test (at + 1) xs)
  where
    by : (b : Bool) → test x ≡ b → first_false at (b ∷ map test xs) ≡ None
        → (first_false (at + 1) (map test xs) ≡ None → All (λ x. IsTrue (test x)) xs)
        → All (λ x. IsTrue (test x)) (x ∷ xs)
    by true e i later = All-cons (λ x. IsTrue (test x)) x xs e (later i)
    by false e i later = cc

module _ (m : Module) (supply : Supply) where
  parts : (store : Store) → first_unfit m supply.globals (new_store m supply) ≡ None
      → with_segments m supply.globals (new_store m supply) ≡ store → HasParts m supply store
  parts store fit is =
      let both = none_false 0 (map (elem_fits supply.globals (new_store m supply)) m.elems)
      (map (data_fits supply.globals (new_store m supply)) m.datas) fit in
      record {
        memory = ap (λ store. store.memory) (sym is);
        table = ap (λ store. store.table) (sym is);
        globals = ap (λ store. store.globals) (sym is);
        datas_fit = all_true (data_fits supply.globals (new_store m supply)) both.1.0 m.datas both.1.1;
        elems_fit = all_true (elem_fits supply.globals (new_store m supply)) 0 m.elems both.0;
      }

pub has_parts : (m : Module) (supply : Supply) (store : Store) → instantiate m supply ≡ Ok store
    → HasParts m supply store
has_parts m supply store is = by (first_unfit m supply.globals (new_store m supply)) refl is
  where
    by : (o : Option ℕ) → first_unfit m supply.globals (new_store m supply) ≡ o
        → store_unless o (with_segments m supply.globals (new_store m supply)) ≡ Ok store → HasParts m supply store
    by None e i = parts m supply store e cc
    by (Some number) e i = cc
