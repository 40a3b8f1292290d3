-- The facts about inserted code and the instrumented program, which the steps of an instrumented run need, hold.
use Rattle.std.proofs.Common.{◌≡◌, ℕ, List, [], ◌∷◌, true}
use Rattle.std.specs.List.{AllByRecursion}
use Rattle.std.specs.Prelude.{All, IsTrue}
use Rattle.std.proofs.lemmas.List.Elements.{All-head, All-tail}
use Rattle.wasm_syntax.specs.declared.values.ValType.{ValType}
use Rattle.wasm_syntax.specs.declared.modules.Module.{Module}
use Rattle.wasm_syntax.specs.Typing.{is_number}
use Rattle.host_script.specs.declared.scripts.Script.{Script}
use Rattle.record_replay_spec.specs.Instrumented.{instrumented_meter}
use Rattle.record_replay_spec.specs.HookLaws.{BodiesAreInstrumented}
use Rattle.instrumented_run_laws.proofs.ActionsAlike.{acted_alike}
use Rattle.instrumented_run_laws.proofs.AfterCalls.{over_reported}
use Rattle.instrumented_run_laws.proofs.AfterInstructions.{after_reported}
use Rattle.instrumented_run_laws.proofs.AllBefore.{before_reported}
use Rattle.instrumented_run_laws.proofs.CallsAlike.{called_alike}
use Rattle.instrumented_run_laws.proofs.ControlMoves.{nest_weighed, moved_block, moved_branch}
use Rattle.instrumented_run_laws.proofs.FunctionEntries.{enters_body}
use Rattle.instrumented_run_laws.proofs.HookedProgram.{hooked_program, HookedFacts}
use Rattle.instrumented_run_laws.proofs.PieceFacts.{HasPieces}

each_number : (types : List ValType) → All (λ t. IsTrue (is_number t)) types
    → AllByRecursion (λ t. is_number t ≡ true) types
each_number [] all = tt
each_number (t ∷ types) all = (
  All-head (λ t. IsTrue (is_number t)) t types all,
  each_number types (All-tail (λ t. IsTrue (is_number t)) t types all),
)

pub has_pieces : (m : Module) (digest : List ℕ) (script : Script) (facts : HookedFacts m digest script)
    → BodiesAreInstrumented
    → HasPieces m (hooked_program m digest script) (instrumented_meter m) (facts.has (instrumented_meter m))
has_pieces m digest script facts bodies =
    record {
      before_reported = λ s same has store below outer own whole counts x code frame next i core returns types funcs are
          globals
          rule.
          before_reported s _ _ has store below outer own whole counts x code frame next i core returns types funcs are
          globals
          rule;
      over_reported = λ s has store below outer own whole counts x callee ty results values funcs fine are.
          over_reported s _ _ has store below outer own whole counts x callee ty.results results values funcs
          fine.one_result
          (each_number ty.results fine.results) are;
      after_reported = λ s same has first after below outer own whole counts x code frame left next i operands results found
          is
          executed globals.
          after_reported s _ _ has below outer own whole counts x first globals code frame next i is after left operands
          results found executed;
      enters_body = λ store counts func ty d args others signed defined past fine are.
          enters_body m digest script facts bodies store counts func ty d args others signed defined fine are;
      moved_block = λ s ty last other frame store code second numbers nest at number is arity labels alike weighed.
          moved_block (instrumented_meter m) s ty last other frame store arity code second numbers labels alike
          (nest_weighed bodies s) nest at number is weighed;
      moved_branch = λ s ty last other frame store code second numbers i rest at number is arity labels alike weighed.
          moved_branch (instrumented_meter m) s ty last other frame store arity code second numbers labels alike rest at
          number weighed i is;
      called_alike = λ outer more store frame next here after i is.
          called_alike m digest script facts outer more store frame next here after i is;
      acted_alike = λ store args action. acted_alike m digest script facts store args action;
    }
