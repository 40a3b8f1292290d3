-- Flat code run with the answers of a host, beside the run of the module under a script with exactly these answers.
use Rattle.std.specs.Prelude.{◌≡◌, ℕ, zero, suc, List, [], ◌∷◌, ◌++◌, Option, Some, None, Result, Ok, Err}
use Rattle.wasm_syntax.specs.declared.values.Val.{Val}
use Rattle.wasm_syntax.specs.declared.modules.Module.{Module}
use Rattle.host_script.specs.declared.scripts.Script.{Script}
use Rattle.host_script.specs.declared.scripts.LinkFault.{LinkFault}
use Rattle.history_spec.specs.declared.entries.Entry.{Entry}
use Rattle.history_spec.specs.declared.entries.Entry.TheVariants.{HostCall, ImportReturn}
use Rattle.history_spec.specs.Store.{Store}
use Rattle.history_spec.specs.Step.{Progress, Running, Finished, Faulted, Stuck, StepResult}
use Rattle.history_spec.specs.Run.{run_from, all_one, program_of, run_start}
use Rattle.wasm_flat.specs.declared.code.Flat.{Flat}
use Rattle.wasm_flat.specs.FlatCode.{flat_of}
use Rattle.flat_steps.specs.declared.frames.FlatFrame.{FlatFrame}
use Rattle.flat_steps.specs.FlatStep.{Pause, Stands, Imports, Returned, Trapped, Part, function_at, settle, turn, frame_at, invoked_slots, resumed_slots}

-- the activations below the topmost one
abbrev pub below : List FlatFrame → List FlatFrame
below [] = []
below (frame ∷ frames) = frames

-- the host's part at a call of an import: it returns the next of the answers
abbrev pub resume : Flat → Part → List Val → Part
resume flat p results = settle flat p.store (below p.frames) (resumed_slots p.frames p.slots results)

-- the entries of a number of parts, from a given part on
abbrev pub entries_from : Flat → (count : ℕ) → List (List Val) → Pause → Part → List Entry
entries_from flat zero answers pause p = p.entries
entries_from flat (suc k) answers Stands p =
    let next : Part = turn flat p.store p.frames p.slots in p.entries ++ entries_from flat k answers next.pause next
entries_from flat (suc k) [] (Imports index) p = p.entries
entries_from flat (suc k) (answer ∷ answers) (Imports index) p =
    let next : Part = resume flat p answer
    in p.entries ++ ImportReturn index answer ∷ entries_from flat k answers next.pause next
entries_from flat (suc k) answers Returned p = p.entries
entries_from flat (suc k) answers Trapped p = p.entries

-- the host calls a function
abbrev pub invoke : Flat → Store → ℕ → List Val → Part
invoke flat store func args =
    settle flat store (frame_at func 0 0 ∷ []) (invoked_slots flat (function_at flat func) [] [] args)

-- the entries of a call of a function in a module's flat code
abbrev pub entries_of : Module → Store → ℕ → List Val → List (List Val) → (count : ℕ) → List Entry
entries_of m store func args answers count =
    let flat : Flat = flat_of m
    in let initial : Part = invoke flat store func args
    in HostCall func args ∷ entries_from flat count answers initial.pause initial

-- the store in which a run begins
abbrev pub store_at : Progress → Option Store
store_at (Running config) = Some config.store
store_at (Finished outcome) = None
store_at (Faulted kind) = None
store_at Stuck = None

-- the entries of the flat code and of the run are equal
abbrev pub SameFrom : Module → Script → ℕ → List Val → List (List Val) → ℕ → StepResult → Option Store → Type 0
SameFrom m script func args answers count initial None = ⊥
SameFrom m script func args answers count initial (Some store) =
    entries_of m store func args answers count ≡ (run_from (program_of m script) all_one initial count).history

-- the entries of the flat code and of the run are equal, if the module links
abbrev pub Same : Module → Script → ℕ → List Val → List (List Val) → ℕ → Result StepResult LinkFault → Type 0
Same m script func args answers count (Err fault) = ⊥
Same m script func args answers count (Ok initial) =
    SameFrom m script func args answers count initial (store_at initial.next)

-- the flat code of a module, whose function the script's one action calls, has the entries of the run for a number of
-- steps
abbrev pub PlaysAs : Module → Script → ℕ → List Val → List (List Val) → ℕ → Type 0
PlaysAs m script func args answers count = Same m script func args answers count (run_start m script)
