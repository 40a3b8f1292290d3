-- The element segments of entries are within these, and give them back if they are written into an empty table.
use Rattle.std.proofs.Common.{◌≡◌, ℕ, suc, ◌+◌, ◌≤◌, List, [], ◌∷◌, ◌++◌, length, Option, Some, None, map, refl, sym, ap, ◌∙◌, arith}
use Rattle.std.specs.Prelude.{fold, replicate, All}
use Rattle.std.proofs.lemmas.List.{append_assoc, length-append}
use Rattle.std.proofs.lemmas.List.Elements.{All-cons, All-head, All-nil, All-tail}
use Rattle.wasm_syntax.specs.declared.values.Val.{Val}
use Rattle.history_spec.specs.Store.{with_items_at}
use Rattle.history_spec.specs.Instantiation.{with_elem}
use Rattle.rest_spec.specs.StateSegments.{FuncRun, with_func, func_runs, run_segment}
use Rattle.state_laws.proofs.WrittenItems.{written_after, written_next}

-- ---- runs

-- if the first entry is there, the first run begins at its index
abbrev BeginsAt : ℕ → List (Option ℕ) → List FuncRun → Type 0
BeginsAt index [] runs = Unit {0}
BeginsAt index (None ∷ entries) runs = Unit {0}
BeginsAt index (Some func ∷ entries) [] = Unit {0}
BeginsAt index (Some func ∷ entries) (run ∷ runs) = run.index ≡ index

runs_begin : (index : ℕ) (entries : List (Option ℕ)) → BeginsAt index entries (func_runs index entries)
runs_begin index [] = tt
runs_begin index (None ∷ entries) = tt
runs_begin index (Some func ∷ entries) = go entries (func_runs (suc index) entries)
  where
    go : (later : List (Option ℕ)) (runs : List FuncRun)
        → BeginsAt index (Some func ∷ entries) (with_func index func later runs)
    go [] runs = refl
    go (None ∷ later) runs = refl
    go (Some next ∷ later) [] = refl
    go (Some next ∷ later) (run ∷ runs) = refl

module _ (imported : List Val) where
  -- entries with the segments of runs written
  abbrev runs_written : List (Option ℕ) → List FuncRun → List (Option ℕ)
  runs_written entries runs = fold (with_elem imported) entries (map run_segment runs)

  -- an entry that is there, written with the run after it or by itself
  func_written : (done rest later : List (Option ℕ)) (runs : List FuncRun) (func index : ℕ) → index ≡ length done
      → BeginsAt (suc index) later runs
      → runs_written (done ++ None ∷ rest) (with_func index func later runs)
      ≡ runs_written ((done ++ Some func ∷ []) ++ rest) runs
  func_written done rest later runs func index here begins = go later runs begins
    where
      alone : (runs : List FuncRun)
          → runs_written (done ++ None ∷ rest) (record { index = index; funcs = func ∷ [] } ∷ runs)
          ≡ runs_written ((done ++ Some func ∷ []) ++ rest) runs
      alone runs =
          ap (λ l. runs_written l runs)
          (written_after done (None ∷ rest) (Some func ∷ []) index here ∙ sym (append_assoc done (Some func ∷ []) rest))

      go : (later : List (Option ℕ)) (runs : List FuncRun) → BeginsAt (suc index) later runs
          → runs_written (done ++ None ∷ rest) (with_func index func later runs)
          ≡ runs_written ((done ++ Some func ∷ []) ++ rest) runs
      go [] runs begins = alone runs
      go (None ∷ later) runs begins = alone runs
      go (Some next ∷ later) [] begins = alone []
      go (Some next ∷ later) (run ∷ runs) begins =
          let funcs : List (Option ℕ) = map (λ f. Some f) run.funcs in
          ap (λ l. runs_written l runs)
          (written_next done rest funcs None (Some func) index here
          ∙ ap (λ at. with_items_at ((done ++ Some func ∷ []) ++ rest) at funcs) (sym begins))

  -- all runs, written behind other entries
  pub entries_written : (done entries : List (Option ℕ)) (index : ℕ) → index ≡ length done
      → runs_written (done ++ replicate (length entries) None) (func_runs index entries) ≡ done ++ entries
  entries_written done [] index here = refl
  entries_written done (None ∷ entries) index here =
      let longer : suc index ≡ length (done ++ None ∷ []) = omega (arith, here, length-append done (None ∷ [])) in
      ap (λ l. runs_written l (func_runs (suc index) entries))
      (sym (append_assoc done (None ∷ []) (replicate (length entries) None)))
      ∙ entries_written (done ++ None ∷ []) entries (suc index) longer
      ∙ append_assoc done (None ∷ []) entries
  entries_written done (Some func ∷ entries) index here =
      let own : List (Option ℕ) = Some func ∷ [] in
      let longer : suc index ≡ length (done ++ own) = omega (arith, here, length-append done own) in
      func_written done (replicate (length entries) None) entries (func_runs (suc index) entries) func index here
      (runs_begin (suc index) entries)
      ∙ entries_written (done ++ own) entries (suc index) longer
      ∙ append_assoc done own entries

-- ---- ends

-- a run ends at most at an index
abbrev pub EndsWithin : (most : ℕ) → FuncRun → Type 0
EndsWithin most run = run.index + length run.funcs ≤ most

-- all runs are within the entries
pub runs_within : (most index : ℕ) (entries : List (Option ℕ)) → index + length entries ≤ most
    → All (EndsWithin most) (func_runs index entries)
runs_within most index [] within = All-nil (EndsWithin most)
runs_within most index (None ∷ entries) within = runs_within most (suc index) entries (omega (arith, within))
runs_within most index (Some func ∷ entries) within =
    go entries (func_runs (suc index) entries) (runs_begin (suc index) entries)
    (runs_within most (suc index) entries (omega (arith, within)))
  where
    alone : (runs : List FuncRun) → All (EndsWithin most) runs
        → All (EndsWithin most) (record { index = index; funcs = func ∷ [] } ∷ runs)
    alone runs all =
        All-cons (EndsWithin most) (record { index = index; funcs = func ∷ [] }) runs (omega (arith, within)) all

    go : (later : List (Option ℕ)) (runs : List FuncRun) → BeginsAt (suc index) later runs
        → All (EndsWithin most) runs → All (EndsWithin most) (with_func index func later runs)
    go [] runs begins all = alone runs all
    go (None ∷ later) runs begins all = alone runs all
    go (Some next ∷ later) [] begins all = alone [] all
    go (Some next ∷ later) (run ∷ runs) begins all =
        let own : run.index + length run.funcs ≤ most = All-head (EndsWithin most) run runs all in
        All-cons (EndsWithin most) (record { index = index; funcs = func ∷ run.funcs }) runs
        (omega (arith, own, begins))
        (All-tail (EndsWithin most) run runs all)
