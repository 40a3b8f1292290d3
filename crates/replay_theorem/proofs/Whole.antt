-- A run with an outcome is replayed by the replay module of the tape that it needs.
use Rattle.std.proofs.Common.{◌≡◌, ℕ, suc, ◌≤◌, List, [], ◌∷◌, ◌++◌, Ok, length, refl, sym, ap, ◌∙◌, subst, arith}
use Rattle.std.proofs.lemmas.Slice.Zip.{AllZip-long}
use Rattle.std.proofs.lemmas.List.{append-nil, length-append, nil_from_length}
use Rattle.wasm_syntax.specs.declared.limits.TheConstants.{MAX_TAPE_WEIGHT}
use Rattle.wasm_syntax.specs.declared.modules.Module.{Module}
use Rattle.wasm_syntax.specs.Index.{all_globals}
use Rattle.base.specs.declared.outcomes.Outcome.{Outcome}
use Rattle.trace_model.specs.declared.tapes.Effect.{Effect}
use Rattle.trace_model.specs.declared.tapes.Segment.{Segment}
use Rattle.trace_model.specs.declared.tapes.Tape.{Tape}
use Rattle.trace_model.specs.Weight.{tape_weight}
use Rattle.history_spec.specs.declared.entries.Entry.{Entry}
use Rattle.history_spec.specs.Projection.{Projection, shown_entries}
use Rattle.history_spec.specs.Step.{Program, StepResult, Finished}
use Rattle.history_spec.specs.Replay.{Replays, instructions, program_alone, run_start_alone}
use Rattle.history_spec.specs.Run.{Run, all_one, program_of, run_after, run_from, start_in_store}
use Rattle.replay_run_spec.specs.Items.{entries_in, run_items}
use Rattle.replay_run_spec.specs.Laws.{ItemsHoldHistories, ItemsShowProjections}
use Rattle.replay_run_spec.specs.Stretches.{AreSameChanges, AreEffectsOf, stretches}
use Rattle.record_replay_spec.specs.Known.{opening_known}
use Rattle.record_replay_spec.specs.Observations.{run_observations}
use Rattle.record_replay_spec.specs.TapeRun.{TapeResult}
use Rattle.replay_module_spec.specs.Fragments.{start_index}
use Rattle.type_safety.specs.Laws.{SuppliesMatch}
use Rattle.tape_laws.specs.Below.{LawsOfSteps, LawsOfRuns}
use Rattle.tape_laws.specs.NeededTape.{NeededTapesFit, RunsHaveOneNeededTape}
use Rattle.tape_laws.proofs.Whole.{same_steps}
use Rattle.tape_laws.proofs.SafeRuns.{safe_run}
use Rattle.tape_laws.specs.LogLaws.{LogsGiveNeededTapes}
use Rattle.generated_code_laws.specs.Laws.{AreEffectsOfFirst, ReplaysShowOutcomes, ReplaysMakeEffects}
use Rattle.replay_module_spec.specs.Merge.{layout_of}
use Rattle.generated_code_laws.specs.Playable.{replay_of, replay_run, shown_run}
use Rattle.tape_laws.proofs.HostStores.{sizes_of}
use Rattle.tape_laws.proofs.AllSteps.{opening_holds, started}
use Rattle.replay_theorem.specs.Laws.{NeededTapesWriteBytes, NeededTapesArePlayable, NeededTapesGrowSizes, RunsAreReplayed, RunsAreReplayedFromLogs}
use Rattle.replay_theorem.proofs.ReadBytes.{run_bytes}
use Rattle.replay_theorem.proofs.Counts.{entered, needed_count, stretch_count}
use Rattle.replay_theorem.proofs.GrowingRuns.{grows, grows_closed}
use Rattle.replay_theorem.proofs.WrittenBytes.{needed_segments_write}

pub needed_tapes_write_bytes : LawsOfSteps → LawsOfRuns → NeededTapesWriteBytes
needed_tapes_write_bytes laws safety m script supply store segments runnable fits links opens needed =
    let run = safe_run safety m script supply store runnable fits links opens in
    needed_segments_write (opening_known store) []
    (run_observations (program_of m script) (start_in_store m script store) needed.count) segments needed.needed
    (run_bytes laws.answers laws.steps m run.heights runnable.valid run.typed (program_of m script)
    (record { code = refl; answers = fits.imports }) (start_in_store m script store) needed.count run.safe)

pub needed_tapes_are_playable : SuppliesMatch → NeededTapesFit → NeededTapesWriteBytes → NeededTapesArePlayable
needed_tapes_are_playable supplied fit write m script supply store tape runnable fits links opens needed light =
    record {
      runnable = runnable;
      supplied = supplied m script supply fits links;
      begins = opens;
      fits = fit m script supply store tape.segments runnable fits links opens needed;
      bytes = write m script supply store tape.segments runnable fits links opens needed;
      weight = light;
    }

pub needed_tapes_grow_sizes : LawsOfSteps → LawsOfRuns → NeededTapesGrowSizes
needed_tapes_grow_sizes laws safety m script supply store tape runnable fits links opens needed =
    let run = safe_run safety m script supply store runnable fits links opens in
    let f = started laws m run.heights runnable.valid run.typed script.imports fits.imports grows
    (grows_closed laws.alike m run.heights) needed.count script.main store run.is m.start run.safe in
    let kept = safety.kept (opening_known store)
    (run_observations (program_of m script) (start_in_store m script store) needed.count) tape.segments in
    f.shows store tape.segments needed.outcome refl (opening_holds store (sizes_of m store run.is), kept.0 needed.needed)
    needed.ends

-- stretches make the effects of all segments, if there are equally many
all_effects : (segments : List Segment) (changes : List (List Effect)) → AreEffectsOfFirst segments changes
    → length changes ≡ length segments → AreEffectsOf segments changes
all_effects segments changes are same =
    let long = AllZip-long (λ (segment : Segment) made. AreSameChanges made segment.effects) are.taken changes
    are.effects in
    let none = nil_from_length are.left
    (let e = sym long ∙ same ∙ ap (λ (l : List Segment). length l) are.parts ∙ length-append are.taken are.left in
    omega (arith, e)) in
    subst (λ l. AreEffectsOf l changes)
    (sym (are.parts ∙ ap (λ l. are.taken ++ l) none ∙ append-nil are.taken)) are.effects

-- the history that the finished run of a replay module shows is the one that it replays
shown_in_end : ItemsHoldHistories → ItemsShowProjections → (m replay : Module) (history : List Entry) (outcome : Outcome)
    → Replays replay (layout_of m) (start_index m) history outcome → (initial : StepResult) (count : ℕ) (own : Outcome)
    → run_start_alone replay (start_index m) ≡ Ok initial → (replay_run replay initial count).at ≡ Finished own
    → entries_in (shown_run m replay initial count) ≡ history
shown_in_end held shown m replay history outcome r initial count own starts over =
    shown (layout_of m) [] []
    (run_items (layout_of m) (length (all_globals m)) (program_alone replay) initial count)
    ∙ ap (shown_entries (layout_of m) [] [])
    (held (layout_of m) (length (all_globals m)) (program_alone replay) instructions initial count
    ∙ ap (λ (run : Run). run.history) (same_run ∙ r.is_run))
    ∙ ap (λ (p : Projection). p.history) r.shows
  where
    same_start : initial ≡ r.initial
    same_start = let e = sym starts ∙ r.starts in cc

    same_run : replay_run replay initial count ≡ run_from (program_alone replay) instructions r.initial r.count
    same_run =
        ap (λ (s : StepResult). run_from (program_alone replay) instructions s count) same_start
        ∙ ap (run_after r.initial.entries 0)
        (same_steps (program_alone replay) instructions count r.count r.initial.next own r.own
        (ap (λ (s : StepResult). (run_from (program_alone replay) instructions s count).at) (sym same_start) ∙ over)
        (ap (λ (run : Run). run.at) r.is_run ∙ r.ends))

pub runs_are_replayed : RunsHaveOneNeededTape → NeededTapesArePlayable → NeededTapesGrowSizes → ReplaysShowOutcomes
    → ReplaysMakeEffects → ItemsHoldHistories → ItemsShowProjections → RunsAreReplayed
runs_are_replayed one playable grow show make held project m script supply store count outcome runnable fits links opens ends =
    let found = one m script supply store count outcome runnable fits links opens ends in
    let tape : Tape = record { segments = found.0 } in
    let replays = found.1.replays in
    let history = (run_from program all_one initial count).history in
    let needed = found.1.is_needed in
    let shows : tape_weight tape ≤ MAX_TAPE_WEIGHT
    → Replays (replay_of m supply tape) (layout_of m) (start_index m) history outcome = λ light.
    subst (λ entries. Replays (replay_of m supply tape) (layout_of m) (start_index m) entries outcome)
    (ap (λ (t : TapeResult). t.entries) replays.shows)
    (show m supply store tape replays.count outcome
    (playable m script supply store tape runnable fits links opens needed light)
    (ap (λ (t : TapeResult). t.next) replays.shows)) in
    let segments = needed_count program initial needed.count (opening_known store) tape.segments needed.needed in
    let same = ap (λ (run : Run). entered (initial.entries ++ run.history))
    (same_steps program all_one needed.count count initial.next needed.outcome outcome needed.ends ends) in (
      tape,
      record {
        is_one = found.1;
        shows = shows;
        makes = λ light first taken own starts over.
            all_effects tape.segments (stretches (shown_run m (replay_of m supply tape) first taken))
            (make m supply store tape first taken
            (playable m script supply store tape runnable fits links opens needed light)
            (grow m script supply store tape runnable fits links opens needed)
            (record {
              taken = replays.count;
              outcome = outcome;
              over = ap (λ (t : TapeResult). t.next) replays.shows;
              own = own;
              starts = starts;
              ends = over;
            }))
            (stretch_count (shown_run m (replay_of m supply tape) first taken)
            ∙ ap (λ (entries : List Entry). suc (entered entries))
            (shown_in_end held project m (replay_of m supply tape) history outcome (shows light) first taken own starts
            over)
            ∙ ap suc (sym same) ∙ sym segments);
      },
    )
  where
    program : Program
    program = program_of m script

    initial : StepResult
    initial = start_in_store m script store

pub runs_are_replayed_from_logs : LogsGiveNeededTapes → RunsAreReplayed → RunsAreReplayedFromLogs
runs_are_replayed_from_logs give replayed run count outcome ends =
    let has = give run count outcome ends in
    let r = replayed run.m run.script run.supply run.store count outcome run.runnable run.fits run.supplied run.opens
    ends in
    record {
      log = has.log;
      logged = has.logged;
      tape = r.0;
      is_tape = has.to_log r.0 r.1.is_one.is_needed;
      is_one = λ other is.
          ap (λ segments. record { segments = segments }) (r.1.is_one.is_one other.segments (has.from_log other is));
      shown = r.1;
    }
