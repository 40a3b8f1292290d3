-- A growth that fails sees that the host grew the memory. The memory is a list of 524,288 bytes by
-- then, so the run is followed with its length alone known.
use Rattle.std.proofs.Common.{◌≡◌, ℕ, ◌+◌, ◌*◌, ◌/◌, List, [], ◌∷◌, ◌++◌, length, Some, None, Ok, refl, ◌∙◌, ap, ◌&&◌, nat_le}
use Rattle.std.proofs.lemmas.List.{length-append}
use Rattle.std.specs.Fmt.{digits}
use Rattle.wasm_syntax.specs.declared.limits.TheConstants.{MAX_PAGES, PAGE_SIZE}
use Rattle.host_script.specs.Supply.{is_within}
use Rattle.wasm_syntax.specs.declared.values.Val.{Val}
use Rattle.wasm_syntax.specs.declared.instructions.Instr.TheVariants.{Const, MemoryGrow}
use Rattle.wasm_syntax.specs.Nest.{Nest, Empty, Plain}
use Rattle.host_script.specs.declared.scripts.Action.TheVariants.{Grow, Call}
use Rattle.host_script.specs.declared.scripts.ResponseEnd.TheVariants.{Return}
use Rattle.base.specs.declared.outcomes.Outcome.TheVariants.{Ended}
use Rattle.history_spec.specs.declared.entries.Entry.{Entry}
use Rattle.history_spec.specs.declared.entries.Entry.TheVariants.{HostCall, HostReturn, ImportCall, ImportReturn, Step}
use Rattle.history_spec.specs.declared.entries.FaultKind.TheVariants.{GrowRefused}
use Rattle.history_spec.specs.Store.{Store, Memory, pages, zeros, grown_memory, grown_memory_if, with_memory}
use Rattle.history_spec.specs.Configuration.{place, Frame, Activation, InModule, InMain, InImport, Config}
use Rattle.history_spec.specs.Instruction.{grow_result}
use Rattle.history_spec.specs.Action.{or_fault, Changes}
use Rattle.history_spec.specs.Step.{Program, Running, Finished, StepResult, step_result, step, start, after_action, after_instruction}
use Rattle.history_spec.specs.Run.{Run, run_after, steps, run_from, all_one, program_of, run_start}
use Rattle.worked_histories.specs.Build.{i32}
use Rattle.worked_histories.specs.Modules.{grow_failed}
use Rattle.worked_histories.specs.Scripts.{does}
use Rattle.worked_histories.specs.Histories.{GrowFailed}
use Rattle.worked_histories.specs.RunLines.{PrintResult, print_run, print_from, whole}

abbrev pub program : Program
program = program_of grow_failed (does (Grow 4))

abbrev pub memory_of : List ℕ → Memory
memory_of bytes = record { bytes = bytes; max = Some 10 }

abbrev pub store_of : List ℕ → Store
store_of bytes = record { memory = Some (memory_of bytes); table = None; globals = [] }

-- the activation of the one function, with values, after some of its instructions
abbrev pub frame_at : List Val → Nest → ℕ → Frame
frame_at values rest number =
    record { func = 1; arity = 1; locals = []; values = values; labels = []; at = place rest number }

abbrev pub after_call : Nest
after_call = Plain (Const (i32 3)) (Plain MemoryGrow Empty)

abbrev pub below : List Activation
below = InMain [] ∷ []

abbrev pub config_of : List ℕ → List Activation → ℕ → Config
config_of bytes stack count = record { store = store_of bytes; stack = stack; counts = count ∷ [] }

-- the host is about to grow the memory, the module waits
abbrev pub waiting : List Activation
waiting = InModule (frame_at [] after_call 1) ∷ below

-- the host is about to grow the memory
abbrev pub host_grows : List ℕ → Config
host_grows bytes = config_of bytes (InImport 0 [] (Grow 4 ∷ []) (Return None) ∷ waiting) 1

-- the host has grown the memory and returned
abbrev pub host_returned : List ℕ → Config
host_returned bytes = config_of bytes waiting 1

abbrev pub module_frame : Frame
module_frame = frame_at (i32 3 ∷ []) (Plain MemoryGrow Empty) 2

-- the module is about to grow the memory
abbrev pub module_grows : List ℕ → Config
module_grows bytes = config_of bytes (InModule module_frame ∷ below) 1

abbrev pub initial : List ℕ → StepResult
initial bytes = start program None (store_of bytes) (0 ∷ []) (Call 1 [] ∷ [])

-- whether a growth succeeds, by the known number of pages
pub grown_from : (bytes : List ℕ) (by p : ℕ) → pages (memory_of bytes) ≡ p
    → grown_memory (memory_of bytes) by ≡ grown_memory_if (is_within (p + by) (Some 10) && nat_le (p + by) MAX_PAGES)
    (memory_of bytes) by
grown_from bytes by p e =
    ap (λ q. grown_memory_if (is_within (q + by) (Some 10) && nat_le (q + by) MAX_PAGES) (memory_of bytes) by) e

pub pages_of : (bytes : List ℕ) (n : ℕ) → length bytes ≡ n → pages (memory_of bytes) ≡ n / PAGE_SIZE
pages_of bytes n e = ap (λ l. l / PAGE_SIZE) e

-- the host's growth succeeds
pub host_step : (bytes : List ℕ) → length bytes ≡ 262144
    → step program (host_grows bytes) ≡ step_result (ImportReturn 0 [] ∷ [])
    (Running (host_returned (bytes ++ zeros (4 * PAGE_SIZE))))
host_step bytes h =
    ap (λ o. after_action program (host_grows bytes) (InImport 0 [] [] (Return None) ∷ waiting)
    (or_fault GrowRefused o (λ larger. Changes (with_memory (store_of bytes) larger))))
    (grown_from bytes 4 4 (pages_of bytes 262144 h))

abbrev pub last_entries : ℕ → List Entry
last_entries p = Step 1 2 (i32 3 ∷ []) (i32 0xFFFFFFFF ∷ []) (Some p) ∷ HostReturn 1 (i32 0xFFFFFFFF ∷ []) ∷ []

-- the module's growth fails, and finds 8 pages
pub module_step : (bytes : List ℕ) → length bytes ≡ 524288
    → step program (module_grows bytes) ≡ step_result (last_entries 8) (Finished Ended)
module_step bytes h =
    let p : pages (memory_of bytes) ≡ 8 = pages_of bytes 524288 h
    in ap (λ o. after_instruction program (module_grows bytes) module_frame below
    (grow_result (store_of bytes) module_frame (place Empty 3) (memory_of bytes) (i32 3 ∷ []) [] o)) (grown_from
    bytes 3 8 p)
    ∙ ap (λ q. step_result (last_entries q) (Finished Ended)) p

abbrev pub last_run : Run
last_run = record {
  history = Step 1 1 [] (i32 3 ∷ []) None ∷ last_entries 8;
  turns = 2;
  at = Finished Ended;
}

pub module_run : (bytes : List ℕ) → length bytes ≡ 524288 → steps program all_one 97 (Running (host_returned bytes))
    ≡ last_run
module_run bytes h =
    ap (λ (s : StepResult).
    run_after (Step 1 1 [] (i32 3 ∷ []) None ∷ []) 1
    (run_after s.entries 1 (steps program all_one 95 s.next))) (module_step bytes h)

pub grown_length : (bytes : List ℕ) → length bytes ≡ 262144 → length (bytes ++ zeros (4 * PAGE_SIZE)) ≡ 524288
grown_length bytes h = length-append bytes (zeros (4 * PAGE_SIZE)) ∙ ap (λ n. n + 262144) h

-- the lines of the whole run, given the results of the host's step and of the module's part
abbrev pub lines_after_step : StepResult → PrintResult
lines_after_step s =
    print_run whole
    (run_after [] 0
    (run_after (HostCall 1 [] ∷ []) 1
    (run_after (Step 1 0 [] [] None ∷ ImportCall 0 [] ∷ []) 1
    (run_after s.entries 1 (steps program all_one 97 s.next)))))

abbrev pub lines_with_run : Run → PrintResult
lines_with_run run =
    print_run whole
    (run_after [] 0
    (run_after (HostCall 1 [] ∷ []) 1
    (run_after (Step 1 0 [] [] None ∷ ImportCall 0 [] ∷ []) 1 (run_after (ImportReturn 0 [] ∷ []) 1 run))))

pub lines_from_store : (bytes : List ℕ) → length bytes ≡ 262144
    → print_run whole (run_from program all_one (initial bytes) 100) ≡ lines_with_run last_run
lines_from_store bytes h =
    ap lines_after_step (host_step bytes h)
    ∙ ap lines_with_run (module_run (bytes ++ zeros (4 * PAGE_SIZE)) (grown_length bytes h))

pub starts : run_start grow_failed (does (Grow 4)) ≡ Ok (initial (zeros (4 * PAGE_SIZE)))
starts = refl

pub grow_failed_lines : GrowFailed
unfolding digits
grow_failed_lines =
    ap (print_from (λ initial. print_run whole (run_from program all_one initial 100))) starts
    ∙ lines_from_store (zeros (4 * PAGE_SIZE)) refl
