-- The run of an instrumented module: a hook is an import that the host answers by doing nothing; and the hook calls as
-- the run makes them.
use Rattle.std.specs.Prelude.{ℕ, zero, suc, ◌-◌, List, [], ◌∷◌, ◌++◌, map, Option, Some, None, cond, nat_lt, replicate, slice_get, option_map}
use Rattle.wasm_syntax.specs.declared.values.Val.{Val}
use Rattle.host_script.specs.declared.scripts.Action.{Action}
use Rattle.host_script.specs.declared.scripts.Action.TheVariants.{Call, SetTable}
use Rattle.host_script.specs.declared.scripts.Answer.{Answer}
use Rattle.host_script.specs.declared.scripts.Response.{Response}
use Rattle.host_script.specs.declared.scripts.Script.{Script}
use Rattle.host_script.specs.declared.scripts.ResponseEnd.TheVariants.{Return}
use Rattle.history_spec.specs.declared.entries.Entry.{Entry}
use Rattle.history_spec.specs.declared.entries.Entry.TheVariants.{ImportCall}
use Rattle.history_spec.specs.Store.{Store}
use Rattle.history_spec.specs.Step.{Program, Progress, Running, step}
use Rattle.record_replay_spec.specs.Hooks.{HookCall, hooks, hook_count, renumber, on}

-- the answer to each call of a hook: no action, and no result
abbrev pub hook_answer : Answer
hook_answer = record { calls = []; rest = Some (record { actions = []; end = Return None }) }

-- the answers to the first `n` imports, with no answer for imports past the end of the list
abbrev pub first_answers : (n : ℕ) → List (Option Answer) → List (Option Answer)
first_answers zero answers = []
first_answers (suc n) [] = None ∷ first_answers n []
first_answers (suc n) (answer ∷ answers) = answer ∷ first_answers n answers

-- the answers to the first `n` imports, followed by those of the hooks, whatever the script has in the hooks' places
abbrev pub with_hook_answers : (n : ℕ) → List (Option Answer) → List (Option Answer)
with_hook_answers n answers = first_answers n answers ++ replicate hook_count (Some hook_answer)

-- The script under which a module in the hooked form runs, whose original imports `n` functions: the script with the
-- hooks' answers.
abbrev pub hooked_script : (n : ℕ) → Script → Script
hooked_script n script = record script { imports = with_hook_answers n script.imports }

-- ---- a script for the original as its text is decoded for the instrumented module: functions are renumbered

-- an action with its functions renumbered
abbrev pub renumbered_action : (n : ℕ) → Action → Action
renumbered_action n (Call func args) = Call (renumber n func) args
renumbered_action n (SetTable index func) = SetTable index (option_map (renumber n) func)
renumbered_action n action = action

-- a response with the functions of its actions renumbered
abbrev pub renumbered_response : (n : ℕ) → Response → Response
renumbered_response n response = record response { actions = map (renumbered_action n) response.actions }

-- an answer with the functions of its responses renumbered
abbrev pub renumbered_answer : (n : ℕ) → Answer → Answer
renumbered_answer n answer =
    record {
      calls = map (renumbered_response n) answer.calls;
      rest = option_map (renumbered_response n) answer.rest;
    }

-- a script with its functions renumbered
abbrev pub renumbered_script : (n : ℕ) → Script → Script
renumbered_script n script =
    record script {
      imports = map (option_map (renumbered_answer n)) script.imports;
      main = map (renumbered_action n) script.main;
    }

-- ---- the hook calls of a run

-- the call of an import as a hook call, if the import is not one of the first `n`
abbrev pub call_of_hook : (n import : ℕ) → List Val → Store → List HookCall
call_of_hook n import args view =
    cond (nat_lt import n) []
    (on (slice_get hooks (import - n)) (λ kind. record { kind = kind; args = args; view = view } ∷ []))

-- the hook calls among the entries of a step, which changes nothing before them
abbrev pub calls_among : (n : ℕ) → Store → List Entry → List HookCall
calls_among n view [] = []
calls_among n view (ImportCall import args ∷ rest) = call_of_hook n import args view ++ calls_among n view rest
calls_among n view (entry ∷ rest) = calls_among n view rest

-- the hook calls of at most `k` steps
abbrev pub hook_calls : (n : ℕ) → Program → ℕ → Progress → List HookCall
hook_calls n program (suc k) (Running config) =
    calls_among n config.store (step program config).entries ++ hook_calls n program k (step program config).next
hook_calls n program k at = []
