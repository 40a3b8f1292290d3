-- With effects removed from their tapes the examples have other runs.
use Rattle.std.proofs.Common.{◌≡◌, ◌<◌, List, [], ◌∷◌, Some, Result, Ok, Err, Bool, true, nat_lt, refl, ap, arith}
use Rattle.std.specs.Prelude.{◌≢◌}
use Rattle.std.proofs.lemmas.Option.{none-some}
use Rattle.std.proofs.lemmas.Bool.Decides.{nat_tests}
use Rattle.wasm_syntax.specs.declared.values.ValType.TheVariants.{F32}
use Rattle.wasm_syntax.specs.declared.modules.Module.{Module}
use Rattle.wasm_syntax.specs.Encoding.Forms.{IsCoreModule}
use Rattle.wasm_syntax.specs.Laws.{ValidityIsDecided}
use Rattle.host_script.specs.declared.scripts.Action.TheVariants.{SetTable, SetGlobal, Grow as GrowBy, GrowTable}
use Rattle.host_script.specs.declared.scripts.LinkFault.{LinkFault}
use Rattle.host_script.specs.declared.scripts.Script.{Script}
use Rattle.base.specs.declared.outcomes.Outcome.{Outcome}
use Rattle.base.specs.declared.outcomes.Outcome.TheVariants.{Ended, Trapped}
use Rattle.trace_model.specs.declared.tapes.Effect.TheVariants.{Grow, Table, Bytes, Entry, Global}
use Rattle.trace_model.specs.declared.tapes.Segment.{Segment}
use Rattle.trace_model.specs.Weight.{tape_weight}
use Rattle.history_spec.specs.Store.{Store}
use Rattle.history_spec.specs.Code.{code_of}
use Rattle.history_spec.specs.Run.{program_of, start_in_store}
use Rattle.record_replay_spec.specs.Laws.{TestedSegmentsAreNeeded}
use Rattle.record_replay_spec.specs.Needed.{opening_store}
use Rattle.record_replay_spec.specs.Observations.{run_observations}
use Rattle.record_replay_spec.specs.TapeRun.{tape_run}
use Rattle.tape_laws.specs.Dropped.{AreLeftSegments, IsAnother, NothingCanBeDropped}
use Rattle.worked_histories.specs.Modules.{overwrite, grow_access, nested_call, table_entry, table_growth, float_global}
use Rattle.worked_histories.specs.Build.{value}
use Rattle.worked_histories.specs.Scripts.{does, does_all, calls_back}
use Rattle.worked_tapes.specs.TapeBuild.{changes, changes_then_traps, IfOpened, max_steps, scripted_run}
use Rattle.worked_tapes.specs.NeededTapes.{needed_bytes, nested_tape}
use Rattle.worked_laws.specs.Dropped.{Lacks, writes_four, unwritten_tape, WorkedDrops}
use Rattle.worked_laws.proofs.CoreModules.{overwrite_core, grow_access_core, nested_call_core, table_entry_core, table_growth_core, float_global_core}
use Rattle.worked_laws.proofs.Left.{kept, taken, none_of, first_of_two, entry_alone, size_alone}
use Rattle.worked_laws.proofs.Runs.{none_supplied, CanRun, HasTape, needed_tape, runnable, opens, overwrite_runs, grow_access_runs, table_entry_runs, table_growth_runs, float_global_runs, nested_call_runs}

-- the scripted run of an example needs the segments, and effects may be removed from them to leave others
record Passes (m : Module) (script : Script) (segments left : List Segment) (outcome : Outcome) (store : Store)
    : Type 0 where
  pub has : HasTape m script segments outcome store
  pub are_left : AreLeftSegments (run_observations (program_of m script) (start_in_store m script store) max_steps)
      segments left

-- segments of less weight are different segments
abbrev lighter : (left segments : List Segment) → Bool
lighter left segments =
    nat_lt (tape_weight (record { segments = left })) (tape_weight (record { segments = segments }))

lighter_apart : (left segments : List Segment) → lighter left segments ≡ true → left ≢ segments
lighter_apart left segments h e =
    let w = ap (λ l. tape_weight (record { segments = l })) e in
    let t : tape_weight (record { segments = left }) < tape_weight (record { segments = segments }) =
    grind (arith, nat_tests, h) in
    absurd (omega (arith, w, t))

lacks : NothingCanBeDropped → TestedSegmentsAreNeeded → ValidityIsDecided → (m : Module) (script : Script)
    (segments left : List Segment) (outcome : Outcome) → CanRun m script → IsCoreModule m
    → lighter left segments ≡ true → IfOpened (opening_store m script) (Passes m script segments left outcome)
    → Lacks m script left
lacks law tested valid m script segments left outcome can core apart passes =
    go (opening_store m script) refl passes
  where
    go : (o : Result Store LinkFault) → opening_store m script ≡ o
        → IfOpened o (Passes m script segments left outcome)
        → IfOpened o (λ store. IsAnother (tape_run (code_of m) store left) (scripted_run m script store).history)
    go (Err fault) e passes = passes
    go (Ok store) e passes =
        law m script none_supplied store segments (runnable valid m script can) core can.fits can.supplied
        (opens m script store can e) (needed_tape tested m script segments outcome store passes.has) left
        passes.are_left (lighter_apart left segments apart)

-- ---- the examples

pub examples_lack : NothingCanBeDropped → TestedSegmentsAreNeeded → ValidityIsDecided → WorkedDrops
examples_lack law tested valid =
    record {
      bytes =
          lacks law tested valid overwrite writes_four needed_bytes (changes []) Ended overwrite_runs overwrite_core refl
          (record {
            has = record { ends = refl; tested = refl };
            are_left = (kept _ _ refl refl, (taken _ _ [] (none_of _ _ refl), (kept _ _ refl refl, refl)));
          });
      second_byte =
          lacks law tested valid overwrite writes_four needed_bytes (changes (Bytes 10 (0xCC ∷ []) ∷ [])) Ended
          overwrite_runs overwrite_core refl
          (record {
            has = record { ends = refl; tested = refl };
            are_left = (
              kept _ _ refl refl,
              (
                taken _ _ (Bytes 10 (0xCC ∷ []) ∷ []) (first_of_two _ 10 0xCC 0xDD refl),
                (kept _ _ refl refl, refl),
              ),
            );
          });
      growth =
          lacks law tested valid grow_access (does (GrowBy 1)) (changes (Grow 2 ∷ [])) (changes []) Ended
          grow_access_runs grow_access_core refl
          (record {
            has = record { ends = refl; tested = refl };
            are_left = (kept _ _ refl refl, (taken _ _ [] (none_of _ _ refl), (kept _ _ refl refl, refl)));
          });
      nested =
          lacks law tested valid nested_call calls_back nested_tape unwritten_tape Ended nested_call_runs
          nested_call_core refl
          (record {
            has = record { ends = refl; tested = refl };
            are_left = (
              kept _ _ refl refl,
              (
                kept _ _ refl refl,
                (kept _ _ refl refl, (taken _ _ [] (none_of _ _ refl), (kept _ _ refl refl, refl))),
              ),
            );
          });
      entry =
          lacks law tested valid table_entry (does (SetTable 0 (Some 3))) (changes_then_traps (Entry 0 (Some 3) ∷ []))
          (changes_then_traps []) Trapped table_entry_runs table_entry_core refl
          (record {
            has = record { ends = refl; tested = refl };
            are_left = (kept _ _ refl refl, (taken _ _ [] (none_of _ _ refl), refl));
          });
      size =
          lacks law tested valid table_growth (does_all (GrowTable 4 ∷ SetTable 5 (Some 3) ∷ []))
          (changes_then_traps (Table 6 ∷ Entry 5 (Some 3) ∷ [])) (changes_then_traps (Entry 5 (Some 3) ∷ [])) Trapped
          table_growth_runs table_growth_core refl
          (record {
            has = record { ends = refl; tested = refl };
            are_left = (
              kept _ _ refl refl,
              (taken _ _ (Entry 5 (Some 3) ∷ []) (entry_alone _ 6 5 (Some 3)), refl),
            );
          });
      entry_past =
          lacks law tested valid table_growth (does_all (GrowTable 4 ∷ SetTable 5 (Some 3) ∷ []))
          (changes_then_traps (Table 6 ∷ Entry 5 (Some 3) ∷ [])) (changes_then_traps (Table 6 ∷ [])) Trapped
          table_growth_runs table_growth_core refl
          (record {
            has = record { ends = refl; tested = refl };
            are_left = (
              kept _ _ refl refl,
              (taken _ _ (Table 6 ∷ []) (size_alone _ 6 5 (Some 3)), refl),
            );
          });
      global =
          lacks law tested valid float_global (does (SetGlobal 0 (value F32 0x7FA00001)))
          (changes (Global 0 (value F32 0x7FA00001) ∷ [])) (changes []) Ended float_global_runs float_global_core refl
          (record {
            has = record { ends = refl; tested = refl };
            are_left = (kept _ _ refl refl, (taken _ _ [] (none_of _ _ refl), (kept _ _ refl refl, refl)));
          });
      copied = λ are. none-some 0x85 (are.1.0.changes.copied 8 0x85 refl);
    }
