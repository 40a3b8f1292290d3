-- The result of a run of a module in the hooked form: under a meter, within a budget of turns, with hooks that take
-- the calls that it makes.
use Rattle.std.specs.Prelude.{◌≡◌, ℕ, ◌≤◌, Result, Ok, Err, ⊤, ◌⊎◌, true, Some}
use Rattle.wasm_syntax.specs.declared.modules.Module.{Module}
use Rattle.host_script.specs.declared.scripts.Script.{Script}
use Rattle.base.specs.declared.outcomes.Outcome.{Outcome}
use Rattle.history_spec.specs.declared.entries.FaultKind.{FaultKind}
use Rattle.history_spec.specs.Budget.{IsOverWithin, IsSpent}
use Rattle.history_spec.specs.Run.{Meter, Run, program_of, run_from, start_in_store}
use Rattle.history_spec.specs.Step.{Program, StepResult, Finished, Faulted}
use Rattle.history_spec.specs.Store.{Store}
use Rattle.wasm_flat.specs.Meters.{Weighing, meter_of}
use Rattle.record_replay_spec.specs.HookedForm.{HookedForm, hooked_form, imports_hooks, own_imports}
use Rattle.record_replay_spec.specs.HookedRuns.{hook_calls, hooked_script}
use Rattle.hook_names.specs.Steps.{IsRun, Steps}
use Rattle.hook_names.specs.declared.hooks.HookFault.{HookFault}
use Rattle.hook_names.specs.declared.hooks.HookFault.TheVariants as hook
use Rattle.host_play.specs.declared.results.PlayFault.{PlayFault}
use Rattle.host_play.specs.declared.results.PlayFault.TheVariants as refusal

-- the last of a module's imported functions are the hooks, and this number of imports is before them
pub record HasHooksAfter (m : Module) (imports : ℕ) : Type 0 where
  pub hooks : imports_hooks m ≡ true
  pub before : own_imports m ≡ imports

-- a module in the hooked form has the hooks after the imports that the form counts
abbrev pub FormsHaveHooks : Type 0
FormsHaveHooks = (m : Module) (form : HookedForm) → hooked_form m ≡ Some form → HasHooksAfter m form.imports

-- a run: from its start, by a meter, within a budget of turns, with hooks after a number of imports
pub record HookedRun : Type 0 where
  pub imports : ℕ
  pub program : Program
  pub meter : Meter
  pub initial : StepResult
  pub budget : ℕ

-- the run of a module from a store, under a script, in which hooks are answered by doing nothing
abbrev pub hooked_run : Module → Script → Store → Weighing → (imports budget : ℕ) → HookedRun
hooked_run m script store weighing imports budget =
    record {
      imports = imports;
      program = program_of m (hooked_script imports script);
      meter = meter_of m weighing;
      initial = start_in_store m (hooked_script imports script) store;
      budget = budget;
    }

-- a run with hooks after a number of steps
abbrev pub steps_of : HookedRun → (count : ℕ) → Run
steps_of r count = run_from r.program r.meter r.initial count

-- the calls of hooks in a run's first steps lead from some hooks to others, with this answer
abbrev pub HooksLead : {H : Type 0} → Steps H → HookedRun → (count : ℕ) → (before : H) → Result ⊤ HookFault
    → (after : H) → Type 0
HooksLead is_step r count before answer after =
    IsRun is_step before (hook_calls r.imports r.program count r.initial.next) answer after

-- the run is over by an outcome, and the hooks took all calls
pub record EndsWithHooks {H : Type 0} (is_step : Steps H) (r : HookedRun) (outcome : Outcome)
    (before after : H) : Type 0 where
  pub run : Run
  pub within : IsOverWithin (steps_of r) r.budget run
  pub ends : run.at ≡ Finished outcome
  pub hooks : HooksLead is_step r within.count before (Ok tt) after

-- the run is over by a fault of the script, with these turns, and the hooks took all calls
pub record FaultsWithHooks {H : Type 0} (is_step : Steps H) (r : HookedRun) (turn : ℕ) (kind : FaultKind)
    (before after : H) : Type 0 where
  pub run : Run
  pub within : IsOverWithin (steps_of r) r.budget run
  pub kind_is : run.at ≡ Faulted kind
  pub turn_is : run.turns ≡ turn
  pub hooks : HooksLead is_step r within.count before (Ok tt) after

-- the run's turns are spent, and the hooks took all calls up to there
pub record SpendsWithHooks {H : Type 0} (is_step : Steps H) (r : HookedRun) (before after : H) : Type 0 where
  pub spent : IsSpent (steps_of r) r.meter r.budget
  pub hooks : HooksLead is_step r spent.count before (Ok tt) after

-- after a number of steps, for which the turns suffice, the hooks have given this answer
pub record AnswersWithin {H : Type 0} (is_step : Steps H) (r : HookedRun) (answer : Result ⊤ HookFault)
    (before after : H) : Type 0 where
  pub count : ℕ
  pub in_budget : (steps_of r count).turns ≤ r.budget
  pub hooks : HooksLead is_step r count before answer after

-- Why there is no outcome, and the state of the hooks then. Exhausted memory has no cause: the hooks took the calls
-- up to there, or the last call found no memory.
abbrev pub RefusesWithHooks : {H : Type 0} → Steps H → HookedRun → PlayFault → (before after : H) → Type 0
RefusesWithHooks is_step r (refusal.Fault turn kind) before after = FaultsWithHooks is_step r turn kind before after
RefusesWithHooks is_step r refusal.Spent before after = SpendsWithHooks is_step r before after
RefusesWithHooks is_step r (refusal.Hook number) before after =
    AnswersWithin is_step r (Err (hook.Order number)) before after
RefusesWithHooks is_step r refusal.Memory before after =
    AnswersWithin is_step r (Ok tt) before after ⊎ AnswersWithin is_step r (Err hook.Memory) before after

-- the result of a run with hooks within its budget of turns: the outcome, or why there is no outcome; and the state of
-- the hooks before and after the run
abbrev pub IsPlayedWithHooks : {H : Type 0} → Steps H → HookedRun → Result Outcome PlayFault → (before after : H)
    → Type 0
IsPlayedWithHooks is_step r (Ok outcome) before after = EndsWithHooks is_step r outcome before after
IsPlayedWithHooks is_step r (Err fault) before after = RefusesWithHooks is_step r fault before after
