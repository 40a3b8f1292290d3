-- The module's part of a run, by many turns at once.
use Rattle.std.proofs.Common.{◌≡◌, ℕ, ◌+◌, ◌<◌, ◌≤◌, List, ◌∷◌, ◌++◌, length, ap, ◌∙◌, subst, arith}
use Rattle.wasm_syntax.specs.declared.modules.Module.{Module}
use Rattle.host_script.specs.declared.scripts.Script.{Script}
use Rattle.base.specs.declared.outcomes.Outcome.TheVariants.{Trapped as ByTrap}
use Rattle.history_spec.specs.declared.entries.Entry.{Entry}
use Rattle.history_spec.specs.Budget.{IsSpent}
use Rattle.history_spec.specs.Configuration.{Config, InModule}
use Rattle.history_spec.specs.Settle.{settle}
use Rattle.history_spec.specs.Store.{Store}
use Rattle.history_spec.specs.Step.{StepResult, after_settling}
use Rattle.history_spec.specs.Run.{Meter, Run, program_of, run_from, weight}
use Rattle.wasm_flat.specs.declared.code.Flat.{Flat}
use Rattle.wasm_flat.specs.Meters.{Weighing, meter_of}
use Rattle.flat_steps.specs.declared.frames.FlatFrame.{FlatFrame}
use Rattle.flat_steps.specs.FlatStep as flat
use Rattle.flat_steps.specs.Follows.{outside_of}
use Rattle.flat_steps.specs.Runs.{taken}
use Rattle.wasm_interp.specs.declared.machine.Pause.{Pause}
use Rattle.wasm_interp.specs.declared.machine.Pause.TheVariants as pause
use Rattle.wasm_interp.specs.Advance.{Advances, flat_meter, without_entries}
use Rattle.wasm_interp.specs.State.{State}
use Rattle.wasm_interp.specs.Calls.{RunPart, AdvancesRun, AreOwnUpTo, ComesToImport, EndsRun, config_of}
use Rattle.host_play.specs.declared.play_state.Host.{Host}
use Rattle.host_play.specs.declared.play_state.PlayState.{PlayState}
use Rattle.host_play.specs.declared.play_state.Refusal.{Refusal}
use Rattle.host_play.specs.declared.play_state.Stand.TheVariants as at
use Rattle.host_play.specs.Hosts.{BeginsAnswer, HasNoResponse}
use Rattle.host_play.specs.RunsSoFar.{ComesTo}
use Rattle.host_play.specs.Stands.{StandsAt, Stops}
use Rattle.host_play.proofs.AnswerStarts as answering
use Rattle.host_play.proofs.Arrivals.{at_host, at_trap}
use Rattle.host_play.proofs.Joins.{run_joined, run_of}
use Rattle.host_play.proofs.NextSteps.{led}

pub no_more_left : {f : Flat} {store : Store} {frames : List FlatFrame} {slots : List ℕ} {weighing : Weighing}
    {given left : ℕ} {end : Pause} {new : State} → Advances f store frames slots weighing given end left new
    → left ≤ given
no_more_left {f = f} {store = store} {frames = frames} {slots = slots} {weighing = weighing} {given = given} {left = left} a =
    let all : taken f (flat_meter f weighing) a.count (without_entries (flat.settle f store frames slots)) + left ≡ given = a.all in
    omega arith

-- ---- where the module's part ends

module _ (m : Module) (script : Script) (weighing : Weighing) (s : StepResult) (playing : PlayState)
    (standing : StandsAt m script at.Module playing s) (left : ℕ) (end : Pause) (new : State) (now : ℕ)
    (run : AdvancesRun playing.machine weighing left end now new) where
  abbrev meter : Meter
  meter = meter_of m weighing

  abbrev pub after : PlayState
  after = record playing { machine = new }

  abbrev pub a : RunPart m standing.heights (program_of m script) meter
      (outside_of standing.goes_on.below) standing.counts (after_settling playing.machine.store standing.counts
      (settle (InModule standing.goes_on.frame ∷ standing.goes_on.below))) left end now new
  a = run m standing.heights (program_of m script) standing.counts standing.goes_on.frame standing.goes_on.below standing.is_run standing.goes_on.stack.machine

  pub ends_as : (e : Pause) → end ≡ e → EndsRun m standing.heights (program_of m script) meter
      (outside_of standing.goes_on.below) standing.counts e now a.entries new a.last
  ends_as e is =
      subst (λ e'. EndsRun m standing.heights (program_of m script) meter
      (outside_of standing.goes_on.below) standing.counts e' now a.entries new a.last) is a.ends

  pub own_as : (e : Pause) → end ≡ e → AreOwnUpTo e (a.before ++ a.entries)
  own_as e is = subst (λ e'. AreOwnUpTo e' (a.before ++ a.entries)) is a.own

  module _ (index : ℕ) (is : end ≡ pause.Import index) where
    pub comes : ComesToImport m standing.heights (program_of m script) (outside_of standing.goes_on.below) standing.counts index a.entries new a.last
    comes = ends_as (pause.Import index) is

    pub counted_import : index < length playing.counts.items
    counted_import =
        answering.counted_import m standing.heights script standing.counts standing.is_run standing.goes_on.below
        playing standing.functions standing.counted standing.goes_on.stack.hosts a.entries new a.last index comes

  module _ (initial : StepResult) (budget steps used : ℕ) (history : List Entry)
      (so_far : run_from (program_of m script) meter initial steps ≡ run_of (history ++ s.entries) used s.next)
      (spent : used + left ≡ budget) where
    pub whole : run_from (program_of m script) meter initial (steps + a.count) ≡ run_of ((history ++ a.before) ++ a.last.entries) (used + a.taken) a.last.next
    whole =
        run_joined (program_of m script) meter initial s a.last steps a.count history a.before used a.taken so_far
        (ap (λ start. run_from (program_of m script) meter start a.count) standing.goes_on.same ∙ a.run)

    pub all : (used + a.taken) + now ≡ budget
    all = let some : a.taken + now ≡ left = a.all in omega arith

    abbrev pub to_host : end ≡ pause.Returned → ComesTo m script weighing initial budget ((history ++ a.before) ++ a.entries) at.Host after now
    to_host is =
        led m script weighing initial budget at.Host after (steps + a.count) now (used + a.taken) (history ++ a.before) a.entries a.last whole all
        (at_host m standing.heights script standing.counts standing.is_run standing.goes_on.below after
        standing.functions standing.counted a.entries a.last standing.goes_on.stack.hosts (ends_as pause.Returned is))

    abbrev pub to_trap : end ≡ pause.Trapped → ComesTo m script weighing initial budget ((history ++ a.before) ++ a.entries) (at.Over ByTrap) after now
    to_trap is =
        led m script weighing initial budget (at.Over ByTrap) after (steps + a.count) now (used + a.taken) (history ++ a.before) a.entries a.last whole all
        (at_trap m standing.heights script standing.counts standing.is_run standing.goes_on.below after
        standing.functions standing.counted a.entries a.last (ends_as pause.Trapped is))

    abbrev pub to_import : (index : ℕ) → end ≡ pause.Import index → (hosts : List Host) (new_playing : PlayState)
        → new_playing.machine ≡ new → new_playing.functions ≡ playing.functions → new_playing.hosts ≡ hosts
        → BeginsAnswer script playing.hosts playing.counts.items index hosts new_playing.counts.items
        → ComesTo m script weighing initial budget ((history ++ a.before) ++ a.entries) at.Host new_playing now
    to_import index is hosts new_playing same_machine same_functions same_hosts begins =
        led m script weighing initial budget at.Host new_playing (steps + a.count) now (used + a.taken) (history ++ a.before) a.entries a.last whole all
        (answering.import_begins m standing.heights script standing.counts standing.is_run standing.goes_on.below
        playing standing.functions standing.counted standing.goes_on.stack.hosts a.entries new a.last index
        (comes index is) hosts new_playing same_machine same_functions same_hosts begins)

    pub without_response : (index : ℕ) → end ≡ pause.Import index → (refusal : Refusal)
        → HasNoResponse script playing.counts.items index refusal → Stops refusal a.last
    without_response index is refusal none =
        answering.no_response m standing.heights script standing.counts standing.is_run standing.goes_on.below playing
        standing.functions standing.counted standing.goes_on.stack.hosts a.entries new a.last index
        (comes index is) refusal none

    abbrev pub to_spent : end ≡ pause.Spent → IsSpent (run_from (program_of m script) meter initial) meter budget
    to_spent is =
        let ends = ends_as pause.Spent is in
        let config : Config = config_of new (InModule ends.comes.frame ∷ ends.comes.below) standing.counts in
        let none : now ≡ 0 = ends.none_left in
        let sum : (used + a.taken) + now ≡ budget = all in
        let one : weight meter config ≡ 1 = ends.takes_one in
        record {
          count = steps + a.count;
          config = config;
          standing = ap (λ (r : Run). r.at) whole ∙ ap (λ (t : StepResult). t.next) ends.comes.same;
          used = ap (λ (r : Run). r.turns) whole ∙ (let same : used + a.taken ≡ budget = omega arith in same);
          wants = omega arith;
        }
