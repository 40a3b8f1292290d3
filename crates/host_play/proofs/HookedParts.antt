-- The calls of hooks in the module's part of a run.
use Rattle.std.proofs.Common.{◌≡◌, ℕ, ◌+◌, List, [], ◌∷◌, ◌++◌, Option, Some, None, true, Bool, cond, refl, sym, ap, ◌∙◌, subst, append_assoc}
use Rattle.std.specs.Prelude.{All, filter, nat_lt, not, slice_index, slice_set}
use Rattle.std.proofs.lemmas.List.{append-nil}
use Rattle.std.proofs.lemmas.List.Elements.{filter-append}
use Rattle.wasm_syntax.specs.declared.values.Val.{Val}
use Rattle.wasm_syntax.specs.declared.modules.Module.{Module}
use Rattle.host_script.specs.declared.scripts.Response.{Response}
use Rattle.host_script.specs.declared.scripts.ResponseEnd.TheVariants.{Trap}
use Rattle.host_script.specs.declared.scripts.Script.{Script}
use Rattle.history_spec.specs.declared.entries.Entry.{Entry}
use Rattle.history_spec.specs.declared.entries.Entry.TheVariants.{HostCall, ImportCall}
use Rattle.history_spec.specs.Code.{code_of}
use Rattle.history_spec.specs.Configuration.{Activation, Config, InModule, InImport}
use Rattle.history_spec.specs.Settle.{settle}
use Rattle.history_spec.specs.Step.{Program, Running, StepResult, after_entries, after_settling, answer_call, response_to, step_result}
use Rattle.history_spec.specs.Run.{Meter, Run, program_of, run_from, steps}
use Rattle.wasm_flat.specs.Meters.{Weighing, meter_of}
use Rattle.flat_steps.specs.Follows.{outside_of}
use Rattle.record_replay_spec.specs.HookedRuns.{call_of_hook, hook_calls}
use Rattle.wasm_interp.specs.declared.machine.Pause.{Pause}
use Rattle.wasm_interp.specs.declared.machine.Pause.TheVariants as pause
use Rattle.wasm_interp.specs.State.{State}
use Rattle.wasm_interp.specs.Calls.{AdvancesRun, AreOwnUpTo, ComesToImport, EndsRun, IsOwn, RunPart}
use Rattle.host_play.specs.declared.play_state.PlayState.{PlayState}
use Rattle.host_play.specs.declared.play_state.Stand.TheVariants as at
use Rattle.host_play.specs.Stands.{StandsAt}
use Rattle.host_play.proofs.Calls.{all_calls, delivers_none, is_host_call}
use Rattle.host_play.proofs.HookCalls.{IsOfCalls, hook_is_call, import_is_call, is_hook_call, is_import_call, no_hooks, none_called, none_in_both, none_own, quiet}
use Rattle.host_play.proofs.ImportStores.{answered_instead, calling, hook_seen, hosts_in, imports_in, other}
use Rattle.host_play.proofs.ModuleParts.{comes, ends_as, own_as}
use Rattle.host_play.proofs.OtherAnswers.{active_callable, other_run, zeros}
use Rattle.host_play.proofs.Joins.{run_of}

host_is_call : IsOfCalls is_host_call
host_is_call (HostCall func args) none = none
host_is_call e none = refl

-- ---- steps after a start that calls nothing

module _ (program : Program) (meter : Meter) (start last : StepResult) (count taken : ℕ) (before : List Entry)
    (run : run_from program meter start count ≡ run_of (before ++ last.entries) taken last.next)
    (none : all_calls start.entries ≡ 0) where
  pub same_calls : (test : Entry → Bool) → IsOfCalls test
      → filter test (steps program meter count start.next).history ≡ filter test before ++ filter test last.entries
  same_calls test only =
      let history : List Entry = (steps program meter count start.next).history in
      ap (λ front. front ++ filter test history) (sym (none_called test only start.entries none))
      ∙ sym (filter-append test start.entries history) ∙ ap (λ (r : Run). filter test r.history) run ∙ filter-append test before last.entries

  pub same_end : (steps program meter count start.next).at ≡ last.next
  same_end = ap (λ (r : Run). r.at) run

-- ---- up to the call of an import

single : (xs ys : List Entry) (x y : Entry) → xs ++ (ys ++ x ∷ []) ≡ y ∷ [] → (xs ≡ []) × (ys ≡ [])
single [] [] x y is = (refl, refl)
single [] (z ∷ []) x y is = cc
single [] (z ∷ w ∷ ys) x y is = cc
single (z ∷ []) [] x y is = cc
single (z ∷ []) (w ∷ ys) x y is = cc
single (z ∷ w ∷ xs) ys x y is = cc

-- the entries before the call are the module's own
record BeforeCall (before entries : List Entry) : Type 0 where
  imports : imports_in before ≡ []
  more_imports : imports_in entries ≡ []
  hosts : hosts_in before ≡ []
  more_hosts : hosts_in entries ≡ []

before_call : (index : ℕ) (args : List Val) (before entries whole : List Entry)
    → whole ≡ entries ++ ImportCall index args ∷ [] → AreOwnUpTo (pause.Import index) (before ++ whole)
    → BeforeCall before entries
before_call index args before entries whole printed own =
    let call : List Entry = ImportCall index args ∷ [] in
    let all : before ++ (entries ++ call) ≡ own.0 ++ ImportCall index own.1 ∷ [] = ap (λ es. before ++ es) (sym printed) ∙ own.2 in
    let imports : imports_in before ++ (imports_in entries ++ call) ≡ ImportCall index own.1 ∷ [] =
    ap (λ es. imports_in before ++ es) (sym (filter-append is_import_call entries call))
    ∙ sym (filter-append is_import_call before (entries ++ call)) ∙ ap imports_in all
    ∙ filter-append is_import_call own.0 (ImportCall index own.1 ∷ [])
    ∙ ap (λ front. front ++ ImportCall index own.1 ∷ []) (none_own is_import_call import_is_call own.0 own.3) in
    let hosts : hosts_in (before ++ (entries ++ call)) ≡ [] =
    ap hosts_in all ∙ filter-append is_host_call own.0 (ImportCall index own.1 ∷ [])
    ∙ ap (λ front. front ++ []) (none_own is_host_call host_is_call own.0 own.3) in
    let alone = single (imports_in before) (imports_in entries) (ImportCall index args) (ImportCall index own.1) imports in
    let apart = none_in_both is_host_call before (entries ++ call) hosts in
    record {
      imports = alone.0;
      more_imports = alone.1;
      hosts = apart.0;
      more_hosts = (none_in_both is_host_call entries call apart.1).0;
    }

-- ---- the module's part

module _ (m : Module) (script : Script) (weighing : Weighing) (s : StepResult) (playing : PlayState)
    (standing : StandsAt m script at.Module playing s) (left : ℕ) (end : Pause) (new : State) (now : ℕ)
    (run : AdvancesRun playing.machine weighing left end now new) where
  abbrev stack : List Activation
  stack = InModule standing.goes_on.frame ∷ standing.goes_on.below

  abbrev start : StepResult
  start = after_settling playing.machine.store standing.counts (settle stack)

  abbrev part : (program : Program) → Type 0
  part program = RunPart m standing.heights program (meter_of m weighing) (outside_of standing.goes_on.below) standing.counts start left end now new

  abbrev a : part (program_of m script)
  a = run m standing.heights (program_of m script) standing.counts standing.goes_on.frame standing.goes_on.below standing.is_run standing.goes_on.stack.machine

  start_none : all_calls start.entries ≡ 0
  start_none = delivers_none stack []

  -- if the host is not called, no hook is called
  no_calls : (n : ℕ) (entries : List Entry) → a.last.entries ≡ entries
      → filter (is_hook_call n) (a.before ++ entries) ≡ [] → hook_calls n (program_of m script) a.count start.next ≡ []
  no_calls n entries is none =
      quiet n (program_of m script) (meter_of m weighing) a.count start.next
      (same_calls (program_of m script) (meter_of m weighing) start a.last a.count a.taken a.before a.run start_none (is_hook_call n) (hook_is_call n)
      ∙ sym (filter-append (is_hook_call n) a.before a.last.entries) ∙ ap (λ es. filter (is_hook_call n) (a.before ++ es)) is ∙ none)

  own_none : (n : ℕ) (tail : List Entry) → all_calls tail ≡ 0 → All IsOwn (a.before ++ a.entries)
      → filter (is_hook_call n) (a.before ++ (a.entries ++ tail)) ≡ []
  own_none n tail none own =
      ap (filter (is_hook_call n)) (sym (append_assoc a.before a.entries tail)) ∙ filter-append (is_hook_call n) (a.before ++ a.entries) tail
      ∙ ap (λ front. front ++ filter (is_hook_call n) tail)
      (none_own (is_hook_call n) (hook_is_call n) (a.before ++ a.entries) own)
      ∙ none_called (is_hook_call n) (hook_is_call n) tail none

  pub none_to_host : (n : ℕ) → end ≡ pause.Returned → hook_calls n (program_of m script) a.count start.next ≡ []
  none_to_host n is =
      let ends = ends_as m script weighing s playing standing left end new now run pause.Returned is in
      let tail : List Entry = (settle (outside_of standing.goes_on.below)).entries in
      no_calls n (a.entries ++ tail) (ap (λ (t : StepResult). t.entries) ends.same)
      (own_none n tail (delivers_none (outside_of standing.goes_on.below) [])
      (own_as m script weighing s playing standing left end new now run pause.Returned is))

  pub none_to_trap : (n : ℕ) → end ≡ pause.Trapped → hook_calls n (program_of m script) a.count start.next ≡ []
  none_to_trap n is =
      let ends = ends_as m script weighing s playing standing left end new now run pause.Trapped is in
      no_calls n (a.entries ++ []) (ap (λ (t : StepResult). t.entries) ends ∙ sym (append-nil a.entries))
      (own_none n [] refl (own_as m script weighing s playing standing left end new now run pause.Trapped is))

  pub none_to_spent : (n : ℕ) → end ≡ pause.Spent → hook_calls n (program_of m script) a.count start.next ≡ []
  none_to_spent n is =
      let ends = ends_as m script weighing s playing standing left end new now run pause.Spent is in
      no_calls n (a.entries ++ []) (ap (λ (t : StepResult). t.entries) ends.comes.same ∙ sym (append-nil a.entries))
      (own_none n [] refl (own_as m script weighing s playing standing left end new now run pause.Spent is))

  -- ---- if an import is called

  module _ (index : ℕ) (is : end ≡ pause.Import index) where
    abbrev to : ComesToImport m standing.heights (program_of m script) (outside_of standing.goes_on.below) standing.counts index a.entries new a.last
    to = comes m script weighing s playing standing left end new now run index is

    before : BeforeCall a.before to.before
    before =
        before_call index to.args a.before to.before a.entries to.recorded
        (own_as m script weighing s playing standing left end new now run (pause.Import index) is)

    abbrev response : Option Response
    response = response_to script.imports index (slice_index standing.counts index)

    abbrev answer : Option Response → StepResult
    answer r = answer_call r new.store standing.counts index to.args (InModule to.frame ∷ to.below)

    -- the import is not a hook
    own_answer : (n : ℕ) → nat_lt index n ≡ true → (r : Option Response) → filter (is_hook_call n) (answer r).entries ≡ []
    own_answer n below None = refl
    own_answer n below (Some r) =
        let tail : List Entry = (settle (InImport index to.args r.actions r.«end» ∷ InModule to.frame ∷ to.below)).entries in
        ap (λ b. cond (not b) (ImportCall index to.args ∷ filter (is_hook_call n) tail) (filter (is_hook_call n) tail)) below
        ∙ none_called (is_hook_call n) (hook_is_call n) tail (delivers_none (InImport index to.args r.actions r.«end» ∷ InModule to.frame ∷ to.below) [])

    pub none_to_own : (n : ℕ) → nat_lt index n ≡ true → hook_calls n (program_of m script) a.count start.next ≡ []
    none_to_own n below =
        no_calls n (to.before ++ (answer response).entries) (ap (λ (t : StepResult). t.entries) to.same)
        (filter-append (is_hook_call n) a.before (to.before ++ (answer response).entries)
        ∙ ap (λ front. front ++ filter (is_hook_call n) (to.before ++ (answer response).entries)) (no_hooks n a.before before.imports)
        ∙ filter-append (is_hook_call n) to.before (answer response).entries
        ∙ ap (λ front. front ++ filter (is_hook_call n) (answer response).entries) (no_hooks n to.before before.more_imports)
        ∙ own_answer n below response)

    -- the import is a hook, which the host answers by a response
    module _ (r : Response) (answered : response ≡ Some r) where
      abbrev func : ℕ
      func = standing.goes_on.frame.func

      abbrev given : List Val
      given = zeros standing.goes_on.stack.machine.holds.laid.0.params

      abbrev instead : Program
      instead = other (code_of m) script.imports func given

      b : part instead
      b = run m standing.heights instead standing.counts standing.goes_on.frame standing.goes_on.below
          (other_run m script.imports func given (active_callable m func standing.goes_on.stack.machine.holds.laid.0
          standing.goes_on.stack.machine.holds.laid.1 standing.is_run.valid
          standing.goes_on.stack.machine.holds.laid.2.function) standing.heights standing.counts standing.is_run)
          standing.goes_on.stack.machine

      to_other : ComesToImport m standing.heights instead (outside_of standing.goes_on.below) standing.counts index b.entries new b.last
      to_other =
          subst (λ e. EndsRun m standing.heights instead (meter_of m weighing)
          (outside_of standing.goes_on.below) standing.counts e now b.entries new b.last) is b.ends

      other_before : BeforeCall b.before to_other.before
      other_before =
          before_call index to_other.args b.before to_other.before b.entries to_other.recorded
          (subst (λ e. AreOwnUpTo e (b.before ++ b.entries)) is b.own)

      abbrev waiting : Config
      waiting = record {
        store = new.store;
        stack = InImport index to_other.args (calling (code_of m) script.imports func given).actions Trap ∷ InModule to_other.frame ∷ to_other.below;
        counts = slice_set standing.counts index (slice_index standing.counts index + 1);
      }

      other_last : b.last ≡ after_entries to_other.before (step_result (ImportCall index to_other.args ∷ []) (Running waiting))
      other_last =
          to_other.same
          ∙ ap (λ r. after_entries to_other.before (answer_call r new.store standing.counts index to_other.args (InModule to_other.frame ∷ to_other.below)))
          (answered_instead (code_of m) script.imports func given index (slice_index standing.counts index) (slice_index standing.counts index) r answered)

      last : a.last ≡ after_entries to.before (answer (Some r))
      last = to.same ∙ ap (λ r. after_entries to.before (answer r)) answered

      abbrev tail : List Entry
      tail = (settle (InImport index to.args r.actions r.«end» ∷ InModule to.frame ∷ to.below)).entries

      calls_of : (test : Entry → Bool) (front entries call : List Entry) → filter test front ≡ []
          → filter test entries ≡ [] → filter test front ++ filter test (entries ++ call) ≡ filter test call
      calls_of test front entries call none more =
          ap (λ es. es ++ filter test (entries ++ call)) none ∙ filter-append test entries call ∙ ap (λ es. es ++ filter test call) more

      own_calls : imports_in (steps (program_of m script) (meter_of m weighing) a.count start.next).history ≡ ImportCall index to.args ∷ []
      own_calls =
          same_calls (program_of m script) (meter_of m weighing) start a.last a.count a.taken a.before a.run start_none is_import_call import_is_call
          ∙ ap (λ (t : StepResult). imports_in a.before ++ imports_in t.entries) last
          ∙ calls_of is_import_call a.before to.before (answer (Some r)).entries before.imports before.more_imports
          ∙ ap (λ es. ImportCall index to.args ∷ es) (none_called is_import_call import_is_call tail
          (delivers_none (InImport index to.args r.actions r.«end» ∷ InModule to.frame ∷ to.below) []))

      other_calls : imports_in (steps instead (meter_of m weighing) b.count start.next).history ≡ ImportCall index to_other.args ∷ []
      other_calls =
          same_calls instead (meter_of m weighing) start b.last b.count b.taken b.before b.run start_none is_import_call import_is_call
          ∙ ap (λ (t : StepResult). imports_in b.before ++ imports_in t.entries) other_last
          ∙ calls_of is_import_call b.before to_other.before (ImportCall index to_other.args ∷ []) other_before.imports other_before.more_imports

      no_hosts : hosts_in (steps instead (meter_of m weighing) b.count start.next).history ≡ []
      no_hosts =
          same_calls instead (meter_of m weighing) start b.last b.count b.taken b.before b.run start_none is_host_call host_is_call
          ∙ ap (λ (t : StepResult). hosts_in b.before ++ hosts_in t.entries) other_last
          ∙ calls_of is_host_call b.before to_other.before (ImportCall index to_other.args ∷ []) other_before.hosts other_before.more_hosts

      pub call_to_hook : (n : ℕ) → hook_calls n (program_of m script) a.count start.next ≡ call_of_hook n index to.args new.store
      call_to_hook n =
          hook_seen (code_of m) script.imports func given (meter_of m weighing) (meter_of m weighing) n a.count b.count
          start.next waiting index to.args to_other.args own_calls other_calls no_hosts
          (same_end instead (meter_of m weighing) start b.last b.count b.taken b.before b.run start_none ∙ ap (λ (t : StepResult). t.next) other_last)
