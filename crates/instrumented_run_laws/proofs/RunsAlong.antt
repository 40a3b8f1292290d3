-- After any number of the original's steps the instrumented run has reached a place beside the original's, in as many
-- turns, with the hook calls of these steps.
use Rattle.std.proofs.Common.{◌≡◌, ℕ, zero, suc, ◌+◌, List, [], ◌∷◌, ◌++◌, map, None, refl, sym, ap, ◌∙◌, subst, arith}
use Rattle.std.proofs.lemmas.List.{append_assoc, append-nil}
use Rattle.wasm_syntax.specs.declared.modules.Module.{Module}
use Rattle.wasm_syntax.specs.Index.{imported_funcs, all_globals}
use Rattle.history_spec.specs.Store.{Store}
use Rattle.history_spec.specs.Configuration.{Config}
use Rattle.history_spec.specs.Step.{Program, Progress, Running, Finished, Faulted, Stuck, StepResult, step}
use Rattle.history_spec.specs.Run.{Meter, all_one, weight, steps, run_from}
use Rattle.history_spec.proofs.Budgets.{takes_one}
use Rattle.record_replay_spec.specs.Hooks.{HookCall}
use Rattle.record_replay_spec.specs.ReportedCalls.{WaitingCall, Moment, moments_of_step, moments, run_moments, reported_at, waiting_at, reported_calls, reported_by_run}
use Rattle.instrumented_run_laws.proofs.Follows as follows
use Rattle.instrumented_run_laws.proofs.Follows.{Follows, waiting_after_all}
use Rattle.instrumented_run_laws.proofs.Leads as leads
use Rattle.instrumented_run_laws.proofs.Relation.{ComesBeside}

-- ---- moments, one after another

module _ (m : Module) where
  abbrev reported : List WaitingCall → List Moment → List HookCall
  reported waiting items = reported_calls (all_globals m) waiting items

  pub reported_both : (waiting : List WaitingCall) (first later : List Moment)
      → reported waiting (first ++ later) ≡ reported waiting first ++ reported (waiting_after_all waiting first) later
  reported_both waiting [] later = refl
  reported_both waiting (item ∷ first) later =
      ap (λ calls. reported_at (all_globals m) waiting item item.entry ++ calls)
      (reported_both (waiting_at waiting item item.entry) first later)
      ∙ sym
      (append_assoc (reported_at (all_globals m) waiting item item.entry)
      (reported (waiting_at waiting item item.entry) first)
      (reported (waiting_after_all (waiting_at waiting item item.entry) first) later))

pub waiting_both : (waiting : List WaitingCall) (first later : List Moment)
    → waiting_after_all waiting (first ++ later) ≡ waiting_after_all (waiting_after_all waiting first) later
waiting_both waiting [] later = refl
waiting_both waiting (item ∷ first) later = waiting_both (waiting_at waiting item item.entry) first later

-- ---- the two runs

module _ (m : Module) (program other : Program) (meter : Meter) (IsFine : Progress → Type 0)
    (keeps : (config : Config) → IsFine (Running config) → IsFine (step program config).next)
    (follows_step : (config : Config) (waiting : List WaitingCall) (from : Progress) → IsFine (Running config)
    → ComesBeside m meter (Running config) waiting from
    → Follows m other meter (reported_calls (all_globals m) waiting (moments_of_step program config))
    (waiting_after_all waiting (moments_of_step program config)) (step program config).next from 1) where
  abbrev n : ℕ
  n = imported_funcs m

  abbrev FollowsAfter : ℕ → List WaitingCall → Progress → Progress → Type 0
  FollowsAfter k waiting at from =
      Follows m other meter (reported_calls (all_globals m) waiting (moments program k at))
      (waiting_after_all waiting (moments program k at)) (steps program all_one k at).at from
      (steps program all_one k at).turns

  -- after no step the instrumented run is beside the original's
  stays : (waiting : List WaitingCall) (at from : Progress) → ComesBeside m meter at waiting from
      → Follows m other meter [] waiting at from 0
  stays waiting at from beside = follows.stands_there m other meter waiting at from from refl beside

  -- from any place beside the original's the instrumented run follows it
  pub along : (k : ℕ) (waiting : List WaitingCall) (at from : Progress) → IsFine at
      → ComesBeside m meter at waiting from → FollowsAfter k waiting at from
  along zero waiting (Running config) from fine beside = stays waiting (Running config) from beside
  along zero waiting (Finished outcome) from fine beside = stays waiting (Finished outcome) from beside
  along zero waiting (Faulted kind) from fine beside = stays waiting (Faulted kind) from beside
  along zero waiting Stuck from fine beside = stays waiting Stuck from beside
  along (suc k) waiting (Finished outcome) from fine beside = stays waiting (Finished outcome) from beside
  along (suc k) waiting (Faulted kind) from fine beside = stays waiting (Faulted kind) from beside
  along (suc k) waiting Stuck from fine beside = stays waiting Stuck from beside
  along (suc k) waiting (Running config) from fine beside =
      let first = follows_step config waiting from fine beside in
      let items = moments_of_step program config in
      let later = moments program k (step program config).next in
      let between = waiting_after_all waiting items in
      let next = (step program config).next in
      let rest = along k between next first.to (keeps config fine) first.beside in
      let turns : 1 + (steps program all_one k next).turns ≡ weight all_one config + (steps program all_one k
      next).turns =
      ap (λ w. w + (steps program all_one k next).turns) (sym (takes_one config.stack)) in
      subst
      (λ calls. Follows m other meter calls (waiting_after_all waiting (items ++ later))
      (steps program all_one k next).at from (weight all_one config + (steps program all_one k next).turns))
      (sym (reported_both m waiting items later))
      (subst
      (λ left. Follows m other meter (reported_calls (all_globals m) waiting items ++ reported_calls (all_globals m) between
      later)
      left (steps program all_one k next).at from (weight all_one config + (steps program all_one k next).turns))
      (sym (waiting_both waiting items later))
      (subst
      (Follows m other meter (reported_calls (all_globals m) waiting items ++ reported_calls (all_globals m) between later)
      (waiting_after_all between later) (steps program all_one k next).at from)
      turns
      (follows.after_way m other meter (reported_calls (all_globals m) waiting items)
      (reported_calls (all_globals m) between later) (waiting_after_all between later) (steps program all_one k next).at
      from
      first.to 1 (steps program all_one k next).turns first.led rest)))

  -- the starts of the two runs
  module _ (store : Store) (initial : StepResult) (start : Progress) (fine : IsFine initial.next)
      (follows_start : Follows m other meter
      (reported_calls (all_globals m) [] (map (λ entry. record {
        entry = entry;
        instr = None;
        before = store;
        after = store;
      })
      initial.entries))
      (waiting_after_all [] (map (λ entry. record { entry = entry; instr = None; before = store; after = store })
      initial.entries))
      initial.next start 0) where
    abbrev begun : List Moment
    begun = map (λ entry. record { entry = entry; instr = None; before = store; after = store }) initial.entries

    pub from_start : (k : ℕ)
        → Follows m other meter (reported_by_run m program store initial k)
        (waiting_after_all [] (run_moments program store initial k)) (run_from program all_one initial k).at start
        (run_from program all_one initial k).turns
    from_start k =
        let first = follows_start in
        let later = moments program k initial.next in
        let between = waiting_after_all [] begun in
        let rest = along k between initial.next first.to fine first.beside in
        subst
        (λ calls. Follows m other meter calls (waiting_after_all [] (begun ++ later))
        (steps program all_one k initial.next).at start (0 + (steps program all_one k initial.next).turns))
        (sym (reported_both m [] begun later))
        (subst
        (λ left. Follows m other meter (reported_calls (all_globals m) [] begun ++ reported_calls (all_globals m) between later)
        left (steps program all_one k initial.next).at start (0 + (steps program all_one k initial.next).turns))
        (sym (waiting_both [] begun later))
        (follows.after_way m other meter (reported_calls (all_globals m) [] begun)
        (reported_calls (all_globals m) between later) (waiting_after_all between later)
        (steps program all_one k initial.next).at start first.to 0 (steps program all_one k initial.next).turns
        first.led
        rest))

-- ---- the end of several steps

module _ (n : ℕ) (program : Program) (meter : Meter) where
  -- a run that leads to a state reaches it after some steps
  pub arrives : (from to : Progress) (turns : ℕ) (calls : List HookCall) → leads.Leads n program meter from to turns
      calls
      → leads.Ends n program meter from to turns calls
  arrives from to turns calls way =
      let there = way to 0 [] (record { count = 0; at = refl; turns = refl; calls = refl }) in
      record {
        count = there.count;
        at = there.at;
        turns = let e = there.turns in omega (arith, e);
        calls = there.calls ∙ append-nil calls;
      }
