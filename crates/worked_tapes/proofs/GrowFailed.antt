-- The needed tape of the run whose growth fails. Its memory is a list of 524,288 bytes by then, so the run, its
-- observations and the run of the tape are followed with the memory's length alone known.
use Rattle.std.proofs.Common.{◌≡◌, ℕ, ◌+◌, ◌-◌, ◌*◌, List, [], ◌∷◌, ◌++◌, length, Some, None, true, cond, ◌&&◌, nat_le, option_map, option_and_then, unwrap_or, refl, sym, ap, ◌∙◌}
use Rattle.wasm_syntax.specs.declared.limits.TheConstants.{MAX_PAGES, PAGE_SIZE}
use Rattle.wasm_syntax.specs.Nest.{Empty}
use Rattle.host_script.specs.Supply.{is_within}
use Rattle.host_script.specs.declared.scripts.Action.TheVariants.{Grow as GrowBy}
use Rattle.host_script.specs.declared.scripts.ResponseEnd.TheVariants.{Trap as EndsInTrap}
use Rattle.base.specs.declared.outcomes.Outcome.TheVariants.{Ended}
use Rattle.trace_model.specs.declared.tapes.Origin.TheVariants.{Begin, Import, Back}
use Rattle.trace_model.specs.declared.tapes.Next.TheVariants.{Call, Return, End}
use Rattle.trace_model.specs.declared.tapes.Effect.TheVariants.{Grow}
use Rattle.trace_model.specs.declared.tapes.Segment.{Segment}
use Rattle.history_spec.specs.declared.entries.Entry.{Entry}
use Rattle.history_spec.specs.declared.entries.Entry.TheVariants.{HostCall, ImportCall, ImportReturn, Step}
use Rattle.history_spec.specs.Store.{pages, zeros, grown_memory_if, with_memory}
use Rattle.history_spec.specs.Code.{Code}
use Rattle.history_spec.specs.Configuration.{place, Activation, InModule, InMain, InImport, Config}
use Rattle.history_spec.specs.Instruction.{grow_result}
use Rattle.history_spec.specs.Step.{Running, Finished, StepResult, step_result, step, after_instruction}
use Rattle.history_spec.specs.Run.{Run, run_after, steps, run_from, all_one}
use Rattle.record_replay_spec.specs.Observations.{Observation, Begins, Ends, Resizes, grow_observations, activity_observations, observations, run_observations}
use Rattle.record_replay_spec.specs.Known.{Known, opening_known}
use Rattle.record_replay_spec.specs.Needed.{opening_store}
use Rattle.record_replay_spec.specs.NeededTest.{are_needed_segments}
use Rattle.record_replay_spec.specs.TapeRun.{TapeResult, Over, tape_result, tape_after, tape_steps, tape_run, memory_of_size, store_after_effects, after_effects, after_step, program_awaiting, pause}
use Rattle.worked_histories.specs.Build.{i32}
use Rattle.worked_histories.specs.Modules.{grow_failed}
use Rattle.worked_histories.specs.Scripts.{does}
use Rattle.worked_histories.proofs.GrowFailed.{program, memory_of, store_of, frame_at, after_call, module_frame, initial, grown_from, pages_of, host_step, module_step, last_entries, module_run, last_run, grown_length}
use Rattle.worked_tapes.specs.TapeBuild.{segment, changes, IfOpened, max_steps}
use Rattle.worked_tapes.proofs.Needs.{Passes}

abbrev tape : List Segment
tape = changes (Grow 8 ∷ [])

-- the memory after the host grew it
abbrev grown : List ℕ → List ℕ
grown bytes = bytes ++ zeros (4 * PAGE_SIZE)

-- ---- the run

abbrev before_growth : List Entry
before_growth = HostCall 1 [] ∷ Step 1 0 [] [] None ∷ ImportCall 0 [] ∷ []

abbrev whole_history : List Entry
whole_history = before_growth ++ ImportReturn 0 [] ∷ last_run.history

abbrev run_with : Run → Run
run_with run =
    run_after [] 0
    (run_after (HostCall 1 [] ∷ []) 1 (run_after (Step 1 0 [] [] None ∷ ImportCall 0 [] ∷ []) 1 run))

whole_run : (bytes : List ℕ) → length bytes ≡ 262144
    → run_from program all_one (initial bytes) max_steps
    ≡ record { history = whole_history; turns = 5; at = Finished Ended }
whole_run bytes h =
    ap (λ (s : StepResult). run_with (run_after s.entries 1 (steps program all_one 97 s.next))) (host_step bytes h)
    ∙ ap (λ run. run_with (run_after (ImportReturn 0 [] ∷ []) 1 run)) (module_run (grown bytes) (grown_length bytes h))

-- ---- its observations

abbrev seen_with : List Observation → List Observation
seen_with later = Begins Begin ∷ Ends (Call 1 []) ∷ Begins (Import 0) ∷ later

abbrev whole_seen : List Observation
whole_seen = seen_with (Ends (Return None) ∷ Resizes 8 8 ∷ Begins Back ∷ Ends End ∷ [])

growth_seen : (bytes : List ℕ) → length bytes ≡ 524288
    → grow_observations 3 (memory_of bytes) ≡ Resizes 8 8 ∷ []
growth_seen bytes h =
    let p : pages (memory_of bytes) ≡ 8 = pages_of bytes 524288 h in
    ap (λ o. Resizes (pages (memory_of bytes)) (pages (unwrap_or o (memory_of bytes))) ∷ [])
    (grown_from bytes 3 8 p)
    ∙ ap (λ q. Resizes q q ∷ []) p

seen : (bytes : List ℕ) → length bytes ≡ 262144
    → run_observations program (initial bytes) max_steps ≡ whole_seen
seen bytes h =
    let more = grown bytes in
    let long = grown_length bytes h in
    ap (λ (s : StepResult). seen_with (activity_observations s.entries ++ observations program 97 s.next))
    (host_step bytes h)
    ∙ ap (λ (s : StepResult).
    seen_with
    (Ends (Return None)
    ∷ (grow_observations 3 (memory_of more)
    ++ (activity_observations s.entries ++ observations program 95 s.next))))
    (module_step more long)
    ∙ ap (λ first. seen_with (Ends (Return None) ∷ (first ++ Begins Back ∷ Ends End ∷ []))) (growth_seen more long)

abbrev opening_with : List ℕ → ℕ → Known
opening_with bytes n = record (opening_known (store_of bytes)) { pages = n }

tested : (bytes : List ℕ) → length bytes ≡ 262144
    → are_needed_segments (opening_known (store_of bytes)) (run_observations program (initial bytes) max_steps) tape
    ≡ true
tested bytes h =
    ap (λ sights. are_needed_segments (opening_known (store_of bytes)) sights tape) (seen bytes h)
    ∙ ap (λ n. are_needed_segments (opening_with bytes n) whole_seen tape) (pages_of bytes 262144 h)

-- ---- the run of the tape

abbrev code : Code
code = program.code

abbrev host : List Activation
host = InMain (pause ∷ []) ∷ []

abbrev tape_config : List ℕ → List Activation → Config
tape_config bytes stack = record { store = store_of bytes; stack = stack; counts = 1 ∷ [] }

abbrev host_awaits : List ℕ → Config
host_awaits bytes =
    tape_config bytes
    (InImport 0 [] (pause ∷ []) EndsInTrap ∷ InModule (frame_at [] after_call 1) ∷ host)

-- the growth of the tape succeeds
effect_done : (bytes : List ℕ) → length bytes ≡ 262144
    → memory_of_size 8 (memory_of bytes) ≡ Some (memory_of (grown bytes))
effect_done bytes h =
    let p : pages (memory_of bytes) ≡ 4 = pages_of bytes 262144 h in
    ap (λ n.
    cond (nat_le n 8)
    (grown_memory_if (is_within (n + (8 - n)) (Some 10) && nat_le (n + (8 - n)) MAX_PAGES) (memory_of bytes) (8 - n))
    None)
    p

-- the module's growth fails as in the scripted run
growth_fails : (bytes : List ℕ) → length bytes ≡ 524288
    → step (program_awaiting code) (tape_config bytes (InModule module_frame ∷ host))
    ≡ step_result (last_entries 8) (Running (tape_config bytes host))
growth_fails bytes h =
    let config = tape_config bytes (InModule module_frame ∷ host) in
    let p : pages (memory_of bytes) ≡ 8 = pages_of bytes 524288 h in
    ap (λ o.
    after_instruction (program_awaiting code) config module_frame host
    (grow_result (store_of bytes) module_frame (place Empty 3) (memory_of bytes) (i32 3 ∷ []) [] o))
    (grown_from bytes 3 8 p)
    ∙ ap (λ q. step_result (last_entries q) (Running (tape_config bytes host))) p

abbrev left : List Segment
left = segment Back [] End ∷ []

abbrev taped_with : TapeResult → TapeResult
taped_with r =
    tape_after (HostCall 1 [] ∷ [])
    (tape_after (Step 1 0 [] [] None ∷ ImportCall 0 [] ∷ []) (tape_after r.entries (tape_steps code 97 r.next)))

replays : (bytes : List ℕ) → length bytes ≡ 262144
    → tape_run code (store_of bytes) tape max_steps ≡ tape_result whole_history (Over Ended)
replays bytes h =
    let more = grown bytes in
    ap (λ o.
    taped_with
    (after_effects code (host_awaits bytes) left (Import 0) (Return None)
    (option_and_then (store_after_effects []) (option_map (with_memory (store_of bytes)) o))))
    (effect_done bytes h)
    ∙ ap (λ (s : StepResult).
    tape_after before_growth
    (tape_after (ImportReturn 0 [] ∷ Step 1 1 [] (i32 3 ∷ []) None ∷ [])
    (tape_after (after_step left (Import 0) s).entries (tape_steps code 95 (after_step left (Import 0) s).next))))
    (growth_fails more (grown_length bytes h))

-- ---- the whole tape

passes_from : (bytes : List ℕ) → length bytes ≡ 262144
    → Passes grow_failed (does (GrowBy 4)) tape Ended (store_of bytes)
passes_from bytes h =
    record {
      ends = ap (λ (run : Run). run.at) (whole_run bytes h);
      tested = tested bytes h;
      replays = replays bytes h ∙ ap (λ (run : Run). tape_result run.history (Over Ended)) (sym (whole_run bytes h));
    }

pub grow_failed_passes :
    IfOpened (opening_store grow_failed (does (GrowBy 4))) (Passes grow_failed (does (GrowBy 4)) tape Ended)
grow_failed_passes = passes_from (zeros (4 * PAGE_SIZE)) refl
