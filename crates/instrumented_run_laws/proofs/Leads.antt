-- One step after another of the instrumented module's run leads on, with turns and hook calls.
use Rattle.std.proofs.Common.{◌≡◌, ℕ, suc, ◌+◌, ◌-◌, List, [], ◌∷◌, ◌++◌, Option, Some, None, true, false, cond, nat_lt, slice_get, slice_set, slice_index, refl, sym, ap, ◌∙◌, subst, arith, append_assoc}
use Rattle.wasm_syntax.specs.declared.values.Val.{Val}
use Rattle.wasm_syntax.specs.Nest.{Nest, Empty, Plain, InBlock, InLoop, InIf, InIfElse}
use Rattle.host_script.specs.declared.scripts.ResponseEnd.TheVariants.{Return, Trap as EndsInTrap}
use Rattle.history_spec.specs.declared.entries.Entry.{Entry}
use Rattle.history_spec.specs.declared.entries.Entry.TheVariants.{Step, ImportCall, ImportReturn}
use Rattle.history_spec.specs.Store.{Store}
use Rattle.history_spec.specs.Configuration.{Label, Frame, Activation, InModule, InMain, InImport, Config, with_results}
use Rattle.history_spec.specs.Instruction.{Goes, Calls, Did, execute}
use Rattle.history_spec.specs.Settle.{AtEnd, Within, Gives, TooFew, at_end, return_entry, return_from, deliver, settle}
use Rattle.history_spec.specs.Step.{Program, Progress, Running, StepResult, after_entries, after_settling, progress_of, response_to, answer_call, call_function, after_instruction, step}
use Rattle.history_spec.specs.Run.{Meter, steps, weight}
use Rattle.type_safety.specs.Configurations.{IsGoing}
use Rattle.record_replay_spec.specs.declared.hooks.Hook.{Hook}
use Rattle.record_replay_spec.specs.Hooks.{HookCall, hooks, hook_func, on}
use Rattle.record_replay_spec.specs.HookedRuns.{calls_among, hook_calls}

-- ---- what follows without a turn calls no hook

pub returns_report_none : (n func : ℕ) (view : Store) (results : List Val) (below : List Activation) (entries : List
    Entry)
    → calls_among n view (return_entry func results below ∷ entries) ≡ calls_among n view entries
returns_report_none n func view results [] entries = refl
returns_report_none n func view results (InModule frame ∷ below) entries = refl
returns_report_none n func view results (InMain actions ∷ below) entries = refl
returns_report_none n func view results (InImport import args actions end ∷ below) entries = refl

pub settles_unreported : (n : ℕ) (view : Store) (stack : List Activation) (results : List Val)
    → calls_among n view (deliver stack results).entries ≡ []
settles_unreported n view [] results = refl
settles_unreported n view (InModule frame ∷ below) results =
    go (at_end (with_results frame results)) (λ given. settles_unreported n view below given)
  where
    next : Frame
    next = with_results frame results

    go : (e : AtEnd) → ((given : List Val) → calls_among n view (deliver below given).entries ≡ [])
        → calls_among n view (return_from e next below (deliver below)).entries ≡ []
    go Within rest = refl
    go (Gives given) rest =
        returns_report_none n next.func view given below (deliver below given).entries ∙ rest given
    go TooFew rest = refl
settles_unreported n view (InMain [] ∷ below) results = refl
settles_unreported n view (InMain (action ∷ actions) ∷ below) results = refl
settles_unreported n view (InImport import args [] (Return None) ∷ below) results = settles_unreported n view below []
settles_unreported n view (InImport import args [] (Return (Some value)) ∷ below) results =
    settles_unreported n view below (value ∷ [])
settles_unreported n view (InImport import args [] EndsInTrap ∷ below) results = refl
settles_unreported n view (InImport import args (action ∷ actions) end ∷ below) results = refl

-- ---- leads

module _ (n : ℕ) (program : Program) (meter : Meter) where
  -- from this state the run reaches another in `used` turns, with these hook calls
  pub record Ends (from to : Progress) (used : ℕ) (reported : List HookCall) : Type 0 where
    pub count : ℕ
    pub at : (steps program meter count from).at ≡ to
    pub turns : (steps program meter count from).turns ≡ used
    pub calls : hook_calls n program count from ≡ reported

  -- a state that the run reaches from `next` it reaches from `from`, with these turns and hook calls in addition
  abbrev pub Leads : Progress → Progress → ℕ → List HookCall → Type 0
  Leads from next turns calls =
      (to : Progress) (more : ℕ) (later : List HookCall) → Ends next to more later
      → Ends from to (turns + more) (calls ++ later)

  pub here : (at : Progress) → Leads at at 0 []
  here at to more later ends =
      let e : more ≡ 0 + more = omega arith in subst (λ turns. Ends at to turns later) e ends

  -- two parts of a run, one after the other
  pub then : (a b c : Progress) (turns more : ℕ) (calls later : List HookCall) → Leads a b turns calls
      → Leads b c more later → Leads a c (turns + more) (calls ++ later)
  then a b c turns more calls later first second to rest last ends =
      let f = first to (more + rest) (later ++ last) (second to rest last ends) in
      record {
        count = f.count;
        at = f.at;
        turns = let e = f.turns in omega (arith, e);
        calls = f.calls ∙ sym (append_assoc calls later last);
      }

  -- a step leads to the state after it
  pub one : (config : Config) (s : StepResult) (calls : List HookCall) → step program config ≡ s
      → calls_among n config.store s.entries ≡ calls
      → Leads (Running config) s.next (weight meter config) calls
  one config s calls is reported to more later ends =
      record {
        count = suc ends.count;
        at = ap (λ (r : StepResult). (steps program meter ends.count r.next).at) is ∙ ends.at;
        turns =
            ap (λ (r : StepResult). weight meter config + (steps program meter ends.count r.next).turns) is
            ∙ ap (λ t. weight meter config + t) ends.turns;
        calls =
            ap (λ (r : StepResult). calls_among n config.store r.entries ++ hook_calls n program ends.count r.next) is
            ∙ ap (λ l. l ++ hook_calls n program ends.count s.next) reported
            ∙ ap (λ l. calls ++ l) ends.calls;
      }

  -- ---- places

  -- the module runs, with these activations below
  abbrev pub running : Store → List ℕ → List Activation → Frame → Progress
  running store counts below frame =
      Running (record { store = store; stack = InModule frame ∷ below; counts = counts })

  -- the module runs, after the blocks and functions that have ended
  abbrev pub settled : Store → List ℕ → List Activation → Frame → Progress
  settled store counts below frame = progress_of store counts (settle (InModule frame ∷ below)).next

  -- an instruction goes on within the activation
  pub goes : (store after : Store) (counts : List ℕ) (below : List Activation) (frame next : Frame)
      (operands results : List Val) (found : Option ℕ)
      → execute program.code store frame ≡ Did operands results found (Goes after next)
      → Leads (running store counts below frame) (settled after counts below next)
      (meter.instruction frame.func frame.at.number) []
  goes store after counts below frame next operands results found does =
      let config : Config = record { store = store; stack = InModule frame ∷ below; counts = counts } in
      one config
      (after_entries (Step frame.func frame.at.number operands results found ∷ [])
      (after_settling after counts (settle (InModule next ∷ below))))
      [] (ap (after_instruction program config frame below) does)
      (settles_unreported n store (InModule next ∷ below) [])

  -- the facts about a hook: it is an import, which the host answers by doing nothing
  pub record IsAnswered (kind : Hook) : Type 0 where
    pub imported : nat_lt (hook_func n kind) program.code.imported ≡ true
    pub hook : nat_lt (hook_func n kind) n ≡ false
    pub place : slice_get hooks (hook_func n kind - n) ≡ Some kind
    pub answer : (number : ℕ)
        → response_to program.answers (hook_func n kind) number ≡ Some (record { actions = []; end = Return None })

  -- the counts after one more call of a hook
  abbrev pub counted : List ℕ → Hook → List ℕ
  counted counts kind = slice_set counts (hook_func n kind) (slice_index counts (hook_func n kind) + 1)

  -- a hook is called
  pub hook_called : (kind : Hook) → IsAnswered kind → (store : Store) (counts : List ℕ) (below : List Activation)
      (frame waiting : Frame) (args : List Val)
      → execute program.code store frame ≡ Did args [] None (Calls waiting (hook_func n kind) args)
      → Leads (running store counts below frame) (settled store (counted counts kind) below waiting)
      (meter.instruction frame.func frame.at.number)
      (record { kind = kind; args = args; view = store } ∷ [])
  hook_called kind is store counts below frame waiting args does =
      let config : Config = record { store = store; stack = InModule frame ∷ below; counts = counts } in
      let func = hook_func n kind in
      let entries : List Entry = Step frame.func frame.at.number args [] None ∷ [] in
      let rest = after_settling store (counted counts kind) (settle (InModule waiting ∷ below)) in
      one config
      (after_entries entries (after_entries (ImportCall func args ∷ []) (after_entries (ImportReturn func [] ∷ [])
      rest)))
      (record { kind = kind; args = args; view = store } ∷ [])
      (ap (after_instruction program config frame below) does
      ∙ ap (λ b. after_entries entries (call_function program b store counts func args (InModule waiting ∷ below)))
      is.imported
      ∙ ap (λ r. after_entries entries (answer_call r store counts func args (InModule waiting ∷ below)))
      (is.answer (slice_index counts func)))
      (ap
      (λ b. cond b [] (on (slice_get hooks (func - n)) (λ kind. record { kind = kind; args = args; view = store } ∷ []))
      ++ calls_among n store rest.entries)
      is.hook
      ∙ ap
      (λ o. on o (λ kind. record { kind = kind; args = args; view = store } ∷ []) ++ calls_among n store rest.entries)
      is.place
      ∙ ap (λ l. record { kind = kind; args = args; view = store } ∷ l)
      (settles_unreported n store (InModule waiting ∷ below) []))

  -- ---- before an instruction nothing ends

  pub settled_before : (store : Store) (counts : List ℕ) (below : List Activation) (frame : Frame)
      → IsGoing frame.at.rest → settled store counts below frame ≡ running store counts below frame
  settled_before store counts below frame before = go frame.at.rest frame.labels before
    where
      with : Nest → List Label → Frame
      with rest labels = record frame { labels = labels; at = record frame.at { rest = rest } }

      go : (rest : Nest) (labels : List Label) → IsGoing rest
          → settled store counts below (with rest labels) ≡ running store counts below (with rest labels)
      go Empty labels before = absurd before
      go (Plain i rest) [] before = refl
      go (Plain i rest) (label ∷ labels) before = refl
      go (InBlock ty body rest) [] before = refl
      go (InBlock ty body rest) (label ∷ labels) before = refl
      go (InLoop ty body rest) [] before = refl
      go (InLoop ty body rest) (label ∷ labels) before = refl
      go (InIf ty body rest) [] before = refl
      go (InIf ty body rest) (label ∷ labels) before = refl
      go (InIfElse ty body other rest) [] before = refl
      go (InIfElse ty body other rest) (label ∷ labels) before = refl
