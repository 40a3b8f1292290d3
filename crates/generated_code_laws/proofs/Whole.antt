-- The replay module of a tape follows the run of the tape, from its start.
use Rattle.std.proofs.Common.{◌≡◌, ℕ, zero, suc, ◌+◌, ◌*◌, ◌<◌, ◌≤◌, ◌^◌, List, [], ◌∷◌, ◌++◌, length, drop, Option, Some, None, Bool, true, false, nat_eq, slice_get, slice_index, slice_set, replicate, Ok, refl, sym, ap, ◌∙◌, subst, arith, inl, inr}
use Rattle.std.specs.Prelude.{◌⊎◌, cond, sum_by, IfSome}
use Rattle.std.specs.List.{slice_index_or}
use Rattle.std.proofs.lemmas.List.{append-nil}
use Rattle.std.proofs.lemmas.List.Sums.{sum_by-cons}
use Rattle.wasm_syntax.specs.declared.limits.TheConstants.{PAGE_SIZE}
use Rattle.wasm_syntax.specs.declared.signatures.Limits.{Limits}
use Rattle.wasm_syntax.specs.declared.modules.Module.{Module}
use Rattle.wasm_syntax.specs.Index.{all_memories, func_indices, imported_funcs}
use Rattle.wasm_syntax.specs.Validity.{IsFuncType, IsValid}
use Rattle.host_script.specs.declared.scripts.Action.TheVariants.{Call}
use Rattle.host_script.specs.declared.scripts.Supply.{Supply}
use Rattle.base.specs.declared.outcomes.Outcome.{Outcome}
use Rattle.trace_model.specs.declared.tapes.Origin.{Origin}
use Rattle.trace_model.specs.declared.tapes.Origin.TheVariants.{Begin, Import, Back}
use Rattle.trace_model.specs.declared.tapes.Segment.{Segment}
use Rattle.trace_model.specs.declared.tapes.Tape.{Tape}
use Rattle.trace_model.specs.Fitting.{unfit_from}
use Rattle.trace_model.specs.Weight.{effect_weight, next_weight, segment_weight}
use Rattle.history_spec.specs.declared.entries.Entry.{Entry}
use Rattle.history_spec.specs.Code.{code_of}
use Rattle.history_spec.specs.Configuration.{InMain}
use Rattle.history_spec.specs.Projection.{Projection, shown_entries, shown_outcome}
use Rattle.history_spec.specs.Replay.{Replays, instructions, program_alone, run_start_alone, start_alone_or_fault}
use Rattle.history_spec.specs.Run.{steps}
use Rattle.history_spec.specs.Step.{Running, StepResult, step_result, Progress, Finished}
use Rattle.history_spec.specs.Store.{Memory, Store, pages}
use Rattle.replay_module_spec.specs.declared.plans.Plan.{Plan}
use Rattle.replay_module_spec.specs.Plans.{innermost, left_of, plan_of, with_origin, with_segment}
use Rattle.replay_module_spec.specs.Fragments.{start_index}
use Rattle.record_replay_spec.specs.TapeRun.{Over, pause, tape_run}
use Rattle.replay_run_spec.specs.Items.{steps_items, entries_in, shown_items}
use Rattle.replay_run_spec.specs.Stretches.{stretches}
use Rattle.replay_run_spec.specs.Laws.{ItemsHoldHistories, ItemsShowProjections}
use Rattle.replay_run_spec.specs.Steps.{AreWithinBound, call_steps}
use Rattle.generated_code_laws.specs.Leads.{Place, items_from}
use Rattle.type_safety.specs.Stores.{IsStore, MayBeMemory, func_count, global_types}
use Rattle.type_safety.proofs.Values.{types_values}
use Rattle.replay_module_spec.specs.Merge.{layout_of}
use Rattle.generated_code_laws.specs.Playable.{GrowsAlways, shown_run, IsPlayable, replay_of, replay_run}
use Rattle.generated_code_laws.specs.Laws.{AreBothOver, AreEffectsOfFirst, ReplaysAreWithinBound, ReplaysMakeEffects, ReplaysBegin, ReplaysShowHistories, ReplaysShowOutcomes, ShowsHistory}
use Rattle.generated_code_laws.proofs.Relation.{AreLeft, own_place, watched}
use Rattle.generated_code_laws.proofs.Sound.{IsSound}
use Rattle.generated_code_laws.proofs.Together.{AtHost, AreFit, AreTogether, AtBegin, tape_config}
use Rattle.generated_code_laws.proofs.CallsLeft.{none_replicated, replicate_length}
use Rattle.generated_code_laws.proofs.Settled.{HasOneResult}
use Rattle.base.proofs.Lists.{all_at}
use Rattle.base.proofs.Options.{and_then_some}
use Rattle.replay_module_laws.specs.CodeLaws.{ReplayModulesBegin}
use Rattle.replay_module_laws.proofs.FittingPlans.{left_length, next_weighs}
use Rattle.generated_code_laws.proofs.Along.{items_over}
use Rattle.generated_code_laws.proofs.Simulation.{PlaysOut, run_follows}
use Rattle.generated_code_laws.specs.Below.{FollowLaws, StartLaws, LawsOfReplays}

-- ---- the number of calls

set_either : {X : Type 0} (xs : List X) (j i : ℕ) (x d : X)
    → (slice_index_or (slice_set xs j x) i d ≡ slice_index_or xs i d)
    ⊎ ((i ≡ j) × (slice_index_or (slice_set xs j x) i d ≡ x))
set_either [] j i x d = inl refl
set_either (y ∷ xs) zero zero x d = inr (refl, refl)
set_either (y ∷ xs) zero (suc i) x d = inl refl
set_either (y ∷ xs) (suc j) zero x d = inl refl
set_either (y ∷ xs) (suc j) (suc i) x d = go (set_either xs j i x d)
  where
    go : (slice_index_or (slice_set xs j x) i d ≡ slice_index_or xs i d)
        ⊎ ((i ≡ j) × (slice_index_or (slice_set xs j x) i d ≡ x))
        → (slice_index_or (slice_set xs j x) i d ≡ slice_index_or xs i d)
        ⊎ ((suc i ≡ suc j) × (slice_index_or (slice_set xs j x) i d ≡ x))
    go (inl same) = inl same
    go (inr there) = inr (ap suc there.0, there.1)

zero_replicated : (count i : ℕ) → slice_index (replicate count 0) i ≡ 0
zero_replicated zero i = refl
zero_replicated (suc count) zero = refl
zero_replicated (suc count) (suc i) = zero_replicated count i

few_calls : (imports : ℕ) (segments : List Segment) (import : ℕ)
    → length (slice_index_or (left_of imports segments).calls import []) ≤ length segments
few_calls imports [] import =
    let none = ap length (none_replicated {X = List Segment} imports import) in omega (arith, none)
few_calls imports (segment ∷ later) import =
    go segment.origin (few_calls imports later)
  where
    begun : List (List Segment)
    begun = with_segment segment segment.next (left_of imports later).begun

    go : (origin : Origin)
        → ((import : ℕ) → length (slice_index_or (left_of imports later).calls import []) ≤ length later)
        → length (slice_index_or (with_origin origin begun (left_of imports later).calls).calls import [])
        ≤ suc (length later)
    go Begin few = let f = few import in omega (arith, f)
    go Back few = let f = few import in omega (arith, f)
    go (Import called) few =
        by (set_either calls called import own []) (few import) (few called)
      where
        calls : List (List (List Segment))
        calls = (left_of imports later).calls

        own : List (List Segment)
        own = innermost begun ∷ slice_index_or calls called []

        by : (slice_index_or (slice_set calls called own) import [] ≡ slice_index_or calls import [])
            ⊎ ((import ≡ called) × (slice_index_or (slice_set calls called own) import [] ≡ own))
            → length (slice_index_or calls import []) ≤ length later
            → length (slice_index_or calls called []) ≤ length later
            → length (slice_index_or (slice_set calls called own) import []) ≤ suc (length later)
        by (inl same) f g = let e = ap length same in omega (arith, e, f)
        by (inr there) f g =
            let e = ap length there.1 in
            let long : length own ≡ suc (length (slice_index_or calls called [])) = refl in
            omega (arith, e, long, g)

segments_weigh : (segments : List Segment) → length segments ≤ sum_by segment_weight segments
segments_weigh [] = omega arith
segments_weigh (segment ∷ later) =
    let more = segments_weigh later in
    let sum = sum_by-cons segment_weight segment later in
    let one = next_weighs segment.next in
    let all : segment_weight segment ≡ sum_by effect_weight segment.effects + next_weight segment.next = refl in
    let long : length (segment ∷ later) ≡ suc (length later) = refl in
    omega (arith, more, sum, one, all, long)

-- ---- the start

pub store_sound : (m : Module) (store : Store) → IsStore m store → IsSound m store
store_sound m store s =
    record {
      whole = go (all_memories m) store.memory s.memory;
      types = types_values (func_count m) (global_types m) store.globals s.globals;
    }
  where
    go : (limits : List Limits) (o : Option Memory) → MayBeMemory limits o
        → IfSome o (λ memory. length memory.bytes ≡ pages memory * PAGE_SIZE)
    go [] None h = tt
    go [] (Some memory) h = absurd h
    go (limits ∷ more) None h = absurd h
    go (limits ∷ more) (Some memory) h = h.whole

one_result : (m : Module) → IsValid m → HasOneResult m
one_result m valid func ty typed =
    let index = and_then_some (slice_get (func_indices m) func) (λ t. slice_get m.types t) ty typed in
    (all_at IsFuncType m.types index.0 ty valid.outside.types index.2).one_result

module _ (laws : FollowLaws) (start : StartLaws) (m : Module) (supply : Supply) (store : Store) (tape : Tape)
    (can : IsPlayable m supply store tape) where
  abbrev imports : ℕ
  imports = imported_funcs m

  abbrev plan : Plan
  plan = plan_of imports tape

  abbrev zeros : List ℕ
  zeros = replicate imports 0

  abbrev replay : Module
  replay = replay_of m supply tape

  abbrev first_place : Place
  first_place = own_place store zeros (InMain (Call (start_index m) [] ∷ []) ∷ []) []

  abbrev first_result : StepResult
  first_result = step_result [] (Running first_place.config)

  starts : run_start_alone replay (start_index m) ≡ Ok first_result
  starts =
      ap (start_alone_or_fault replay (start_index m))
      (start.begins m supply plan store can.supplied can.begins)

  fits_whole : AreFit m [] tape.segments
  fits_whole =
      record {
        count = length tape.segments;
        at = 0;
        fits =
            go (nat_eq (length tape.segments) 0) (unfit_from m (length tape.segments) 0 [] tape.segments) can.fits;
        bytes = can.bytes;
      }
    where
      go : (b : Bool) (o : Option ℕ) → cond b (Some 0) o ≡ None → o ≡ None
      go true o h = absurd (cc h)
      go false o h = h

  none_begun : AreLeft plan.imports zeros (left_of imports tape.segments).calls
  none_begun import = ap (λ n. drop n (slice_index_or plan.imports import [])) (zero_replicated imports import)

  together : AreTogether m plan (code_of replay)
      (tape_config store (InMain (pause ∷ []) ∷ []) zeros tape.segments Begin) first_place
  together =
      AtBegin store zeros tape.segments
      (record {
        one = one_result m can.runnable.valid;
        sound = store_sound m store (start.typed m supply store can.runnable can.supplied can.begins);
        many = replicate_length imports 0;
        fits = fits_whole;
        calls = none_begun;
      }) refl

  short : (import : ℕ) → length (slice_index_or plan.imports import []) < 2 ^ 32
  short import =
      let few = few_calls imports tape.segments import in
      let weigh = segments_weigh tape.segments in
      let most : sum_by segment_weight tape.segments ≤ 2000000 = can.weight in
      omega (arith, few, weigh, most)

  plays : (k : ℕ) → PlaysOut laws m plan (code_of replay)
      (start.code m supply plan can.runnable.valid (left_length imports tape.segments)) short
      (one_result m can.runnable.valid) (GrowsAlways m store tape) (AtHost m plan Begin tape.segments) first_place
      (tape_run (code_of m) store tape.segments k)
  plays k =
      run_follows laws m plan (code_of replay)
      (start.code m supply plan can.runnable.valid (left_length imports tape.segments)) short
      (one_result m can.runnable.valid) k
      (tape_config store (InMain (pause ∷ []) ∷ []) zeros tape.segments Begin) first_place together

  module _ (hold : ItemsHoldHistories) (show : ItemsShowProjections) where
    held : (count : ℕ) → entries_in (items_from (watched m (code_of replay)) count first_place.config)
        ≡ (replay_run replay first_result count).history
    held count =
        hold (layout_of m) (watched m (code_of replay)).globals (program_alone replay) instructions first_result count

    shown : (count : ℕ) (entries : List Entry)
        → entries_in
        (shown_items (layout_of m) [] [] (items_from (watched m (code_of replay)) count first_place.config))
        ≡ entries
        → shown_entries (layout_of m) [] [] (replay_run replay first_result count).history ≡ entries
    shown count entries e =
        ap (shown_entries (layout_of m) [] []) (sym (held count))
        ∙ sym (show (layout_of m) [] [] (items_from (watched m (code_of replay)) count first_place.config))
        ∙ e

    history_shown : (k : ℕ)
        → ShowsHistory m replay first_result (tape_run (code_of m) store tape.segments k).entries
    history_shown k =
        let r = (plays k).shown in
        record {
          count = r.shows.count;
          shows =
              shown r.shows.count (tape_run (code_of m) store tape.segments k).entries
              (ap entries_in (r.shows.shown []) ∙ r.shown);
        }

    -- the run shows the same after more steps past its end
    same_items : (count other : ℕ) (own found : Outcome)
        → (steps (program_alone replay) instructions count (Running first_place.config)).at ≡ Finished own
        → (steps (program_alone replay) instructions other (Running first_place.config)).at ≡ Finished found
        → items_from (watched m (code_of replay)) count first_place.config
        ≡ items_from (watched m (code_of replay)) other first_place.config
    same_items count other own found e f =
        let sum : count + other ≡ other + count = omega arith in
        sym (all_items count other (count + other) own refl e)
        ∙ all_items other count (count + other) found sum f
      where
        over_items : (k : ℕ) (outcome : Outcome)
            → steps_items (layout_of m) (watched m (code_of replay)).globals (program_alone replay) k (Finished outcome)
            ≡ []
        over_items zero outcome = refl
        over_items (suc k) outcome = refl

        all_items : (j k n : ℕ) (outcome : Outcome) → n ≡ j + k
            → (steps (program_alone replay) instructions j (Running first_place.config)).at ≡ Finished outcome
            → items_from (watched m (code_of replay)) n first_place.config
            ≡ items_from (watched m (code_of replay)) j first_place.config
        all_items j k n outcome parts e =
            let own = items_from (watched m (code_of replay)) j first_place.config in
            let more = λ (at : Progress).
            steps_items (layout_of m) (watched m (code_of replay)).globals (program_alone replay) k at in
            items_over (layout_of m) (watched m (code_of replay)).globals
            (program_alone replay) instructions j k n parts
            (Running first_place.config)
            ∙ ap (λ at. own ++ more at) e
            ∙ ap (λ l. own ++ l) (over_items k outcome)
            ∙ append-nil own

    effects_made : GrowsAlways m store tape → (count : ℕ) → AreBothOver m supply store tape first_result count
        → AreEffectsOfFirst tape.segments (stretches (shown_run m replay first_result count))
    effects_made grows count both =
        let r = (plays both.taken).over both.outcome both.over in
        let same =
        same_items count r.ends.count both.own r.ends.own both.ends (r.ends.ends instructions) in
        subst (λ items. AreEffectsOfFirst tape.segments (stretches items))
        (sym (ap (shown_items (layout_of m) [] []) same ∙ r.ends.shown [])) (r.claimed grows)

    steps_within : (count : ℕ) → AreBothOver m supply store tape first_result count
        → AreWithinBound plan.imports (call_steps imports (shown_run m replay first_result count))
    steps_within count both =
        let r = (plays both.taken).over both.outcome both.over in
        let same =
        same_items count r.ends.count both.own r.ends.own both.ends (r.ends.ends instructions) in
        subst (λ items. AreWithinBound plan.imports (call_steps imports items))
        (sym (ap (shown_items (layout_of m) [] []) same ∙ r.ends.shown [])) r.bounded.within

    outcome_shown : (k : ℕ) (outcome : Outcome) → (tape_run (code_of m) store tape.segments k).next ≡ Over outcome
        → Replays replay (layout_of m) (start_index m)
        (tape_run (code_of m) store tape.segments k).entries outcome
    outcome_shown k outcome e =
        let r = (plays k).over outcome e in
        let history =
        shown r.ends.count (tape_run (code_of m) store tape.segments k).entries
        (ap entries_in (r.ends.shown []) ∙ r.shown) in
        let result =
        ap (λ l. shown_outcome (layout_of m) l r.ends.own) (sym (held r.ends.count)) ∙ r.ends.outcome_shown in
        record {
          initial = first_result;
          starts = starts;
          count = r.ends.count;
          run = replay_run replay first_result r.ends.count;
          is_run = refl;
          own = r.ends.own;
          ends = r.ends.ends instructions;
          shows = both history result;
        }
      where
        both : {h : List Entry} {o : Outcome} {history : List Entry} → h ≡ history → o ≡ outcome
            → ◌≡◌ {A = Projection} (record { history = h; outcome = o })
            (record { history = history; outcome = outcome })
        both {h} {o} {history} a b =
            ap (λ l. record { history = l; outcome = o }) a ∙ ap (λ x. record { history = history; outcome = x }) b

-- ---- the laws

pub replays_begin : ReplayModulesBegin → ReplaysBegin
replays_begin begins m supply store tape can = (
  step_result []
      (Running
      (own_place store (replicate (imported_funcs m) 0) (InMain (Call (start_index m) [] ∷ []) ∷ []) []).config),
  ap (start_alone_or_fault (replay_of m supply tape) (start_index m))
      (begins m supply (plan_of (imported_funcs m) tape) store can.supplied can.begins),
)

-- the start of the run is the start that the laws give
first_is : (laws : LawsOfReplays) (m : Module) (supply : Supply) (store : Store) (tape : Tape) (initial : StepResult)
    (can : IsPlayable m supply store tape) → run_start_alone (replay_of m supply tape) (start_index m) ≡ Ok initial
    → first_result laws.follow laws.start m supply store tape can ≡ initial
first_is laws m supply store tape initial can begins =
    let e : Ok (first_result laws.follow laws.start m supply store tape can) ≡ Ok initial =
    sym (starts laws.follow laws.start m supply store tape can) ∙ begins in cc

pub replays_show : LawsOfReplays → ReplaysShowHistories
replays_show laws m supply store tape initial k can begins =
    subst (λ s. ShowsHistory m (replay_of m supply tape) s (tape_run (code_of m) store tape.segments k).entries)
    (first_is laws m supply store tape initial can begins)
    (history_shown laws.follow laws.start m supply store tape can laws.held laws.shown k)

pub replays_show_outcomes : LawsOfReplays → ReplaysShowOutcomes
replays_show_outcomes laws m supply store tape k outcome can over =
    outcome_shown laws.follow laws.start m supply store tape can laws.held laws.shown k outcome over

pub replays_make : LawsOfReplays → ReplaysMakeEffects
replays_make laws m supply store tape initial count can grows both =
    subst
    (λ s. AreBothOver m supply store tape s count
    → AreEffectsOfFirst tape.segments (stretches (shown_run m (replay_of m supply tape) s count)))
    (first_is laws m supply store tape initial can both.starts)
    (effects_made laws.follow laws.start m supply store tape can laws.held laws.shown grows count) both

pub replays_within : LawsOfReplays → ReplaysAreWithinBound
replays_within laws m supply store tape initial count can both =
    subst
    (λ s. AreBothOver m supply store tape s count
    → AreWithinBound (plan_of (imported_funcs m) tape).imports
    (call_steps (imported_funcs m) (shown_run m (replay_of m supply tape) s count)))
    (first_is laws m supply store tape initial can both.starts)
    (steps_within laws.follow laws.start m supply store tape can laws.held laws.shown count) both
