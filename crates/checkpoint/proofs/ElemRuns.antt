-- Element segments, entry by entry.
use Rattle.std.proofs.Common.{◌≡◌, ℕ, suc, ◌+◌, ◌<◌, List, [], ◌∷◌, ◌++◌, length, map, drop, Option, Some, None, refl, sym, ap, ap₂, ◌∙◌, arith, append_assoc, drop-cons}
use Rattle.std.specs.List.{range_with_len}
use Rattle.std.proofs.lemmas.List.{append-nil, drop_all, map-append}
use Rattle.std.proofs.lemmas.List.FromFn.{length-map-range_with_len, get_or-map-range_with_len}
use Rattle.wasm_syntax.specs.declared.modules.ElemSeg.{ElemSeg}
use Rattle.rest_spec.specs.StateSegments.{FuncRun, with_func, func_runs, run_segment}
use Rattle.checkpoint.specs.declared.elem_segments.ElemRuns.{ElemRuns}
use Rattle.checkpoint.specs.ElemRuns.{segments_by, segments_of_run}

-- entries with these functions
abbrev there : List ℕ → List (Option ℕ)
there funcs = map (λ func. Some func) funcs

-- the runs of a table with those of functions in front, before an empty entry
abbrev run_before : (index : ℕ) → List ℕ → List FuncRun → List FuncRun
run_before index [] runs = runs
run_before index (func ∷ funcs) runs = record { index = index; funcs = func ∷ funcs } ∷ runs

-- functions before an empty entry are a run
closed_runs : (index : ℕ) (funcs : List ℕ) (later : List (Option ℕ))
    → func_runs index (there funcs ++ None ∷ later)
    ≡ run_before index funcs (func_runs (suc (index + length funcs)) later)
closed_runs index [] later = let e : suc index ≡ suc (index + 0) = omega arith in ap (λ i. func_runs i later) e
closed_runs index (func ∷ []) later = let e : suc (suc index) ≡ suc (index + 1) = omega arith in
    ap (λ i. record { index = index; funcs = func ∷ [] } ∷ func_runs i later) e
closed_runs index (func ∷ next ∷ funcs) later =
    let e : suc (suc index + suc (length funcs)) ≡ suc (index + suc (suc (length funcs))) = omega arith in
    ap (with_func index func (there (next ∷ funcs) ++ None ∷ later)) (closed_runs (suc index) (next ∷ funcs) later)
    ∙ ap (λ i. record { index = index; funcs = func ∷ next ∷ funcs } ∷ func_runs i later) e

-- functions behind which there is nothing are a run
last_run : (index : ℕ) (funcs : List ℕ) → func_runs index (there funcs ++ []) ≡ run_before index funcs []
last_run index [] = refl
last_run index (func ∷ []) = refl
last_run index (func ∷ next ∷ funcs) =
    ap (with_func index func (there (next ∷ funcs) ++ [])) (last_run (suc index) (next ∷ funcs))

run_segments : (index : ℕ) (funcs : List ℕ) (runs : List FuncRun)
    → map run_segment (run_before index funcs runs) ≡ segments_of_run index funcs ++ map run_segment runs
run_segments index [] runs = refl
run_segments index (func ∷ funcs) runs = refl

-- at an empty entry the run is closed
pub closed : (index next : ℕ) (funcs : List ℕ) (elems : List ElemSeg) (later : List (Option ℕ))
    → index + length funcs + 1 ≡ next
    → (elems ++ segments_of_run index funcs) ++ map run_segment (func_runs next later)
    ≡ elems ++ map run_segment (func_runs index (there funcs ++ None ∷ later))
closed index next funcs elems later is =
    let e : next ≡ suc (index + length funcs) = omega (arith, is) in
    append_assoc elems (segments_of_run index funcs) (map run_segment (func_runs next later))
    ∙ ap (λ i. elems ++ (segments_of_run index funcs ++ map run_segment (func_runs i later))) e
    ∙ ap (λ segments. elems ++ segments)
    (sym (run_segments index funcs (func_runs (suc (index + length funcs)) later))
    ∙ sym (ap (map run_segment) (closed_runs index funcs later)))

-- behind the last entry the run is closed
closed_last : (index : ℕ) (funcs : List ℕ) (elems : List ElemSeg)
    → elems ++ segments_of_run index funcs ≡ elems ++ map run_segment (func_runs index (there funcs ++ []))
closed_last index funcs elems =
    ap (λ segments. elems ++ segments)
    (sym (append-nil (segments_of_run index funcs))
    ∙ sym (run_segments index funcs [])
    ∙ sym (ap (map run_segment) (last_run index funcs)))

-- the entries from an index on are that of the index and the others
next_item : {X : Type 0} (f : ℕ → X) (n i : ℕ) → i < n
    → drop i (map f (range_with_len 0 n)) ≡ f i ∷ drop (i + 1) (map f (range_with_len 0 n))
next_item f n i below =
    let items = map f (range_with_len 0 n) in
    let e : suc i ≡ i + 1 = omega arith in
    drop-cons items i (f i) (omega (arith, below, length-map-range_with_len f 0 n))
    ∙ ap₂ (λ item later. item ∷ later)
    (get_or-map-range_with_len f 0 n i i (f i) below (omega arith))
    (ap (λ k. drop k items) e)

-- behind the last entry no entries are left
no_items : {X : Type 0} (f : ℕ → X) (n : ℕ) → drop n (map f (range_with_len 0 n)) ≡ []
no_items f n =
    let long : length (map f (range_with_len 0 n)) ≡ n = length-map-range_with_len f 0 n in
    drop_all n (map f (range_with_len 0 n)) (omega (arith, long))

-- ---- the loop over entries

-- one more entry is taken
pub one_taken : (f : ℕ → Option ℕ) (n i : ℕ) (item : Option ℕ) (before after : ElemRuns) (all : List ElemSeg) → i < n
    → item ≡ f i → ((later : List (Option ℕ)) → segments_by after later ≡ segments_by before (item ∷ later))
    → segments_by before (drop i (map f (range_with_len 0 n))) ≡ all
    → segments_by after (drop (i + 1) (map f (range_with_len 0 n))) ≡ all
one_taken f n i item before after all below is taken made =
    let later = drop (i + 1) (map f (range_with_len 0 n)) in
    taken later
    ∙ ap (λ e. segments_by before (e ∷ later)) is
    ∙ ap (segments_by before) (sym (next_item f n i below))
    ∙ made

-- behind the last entry the segments are those that are made and that of the run
pub all_taken : (f : ℕ → Option ℕ) (n i : ℕ) (runs : ElemRuns) (made all : List ElemSeg) → i ≡ n
    → made ≡ runs.elems.items ++ segments_of_run runs.start runs.funcs.items
    → segments_by runs (drop i (map f (range_with_len 0 n))) ≡ all → made ≡ all
all_taken f n i runs made all is_last closing are =
    closing
    ∙ closed_last runs.start runs.funcs.items runs.elems.items
    ∙ ap (segments_by runs) (sym (no_items f n))
    ∙ ap (λ k. segments_by runs (drop k (map f (range_with_len 0 n)))) (sym is_last)
    ∙ are
