-- Element segments that are made entry by entry.
use Rattle.std.specs.Prelude.{ℕ, List, [], ◌∷◌, ◌++◌, map, Option, Some}
use Rattle.wasm_syntax.specs.declared.modules.ElemSeg.{ElemSeg}
use Rattle.rest_spec.specs.StateSegments.{func_runs, run_segment}
use Rattle.checkpoint.specs.declared.elem_segments.ElemRuns.{ElemRuns}

-- the segment of a run of functions from an index on, if there are any
abbrev pub segments_of_run : (index : ℕ) → List ℕ → List ElemSeg
segments_of_run index [] = []
segments_of_run index (func ∷ funcs) = run_segment (record { index = index; funcs = func ∷ funcs }) ∷ []

-- the segments of a table by those that are made, the run that still grows, and the entries that are left
abbrev pub segments_by : ElemRuns → (later : List (Option ℕ)) → List ElemSeg
segments_by runs later =
    runs.elems.items ++ map run_segment (func_runs runs.start (map (λ func. Some func) runs.funcs.items ++ later))
