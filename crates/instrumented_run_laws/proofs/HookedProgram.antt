-- The program of an instrumented module, under the script that the original runs under.
use Rattle.std.proofs.Common.{◌≡◌, ℕ, ◌+◌, ◌-◌, ◌<◌, List, map, Option, Some, None, true, false, nat_lt, slice_get, option_map, option_and_then, refl, ap, ◌∙◌, arith}
use Rattle.std.proofs.lemmas.Bool.Decides.{nat_tests}
use Rattle.std.proofs.lemmas.Option.{slice_get_within, slice_get-map}
use Rattle.wasm_syntax.specs.declared.signatures.FuncType.{FuncType}
use Rattle.wasm_syntax.specs.declared.modules.Module.{Module}
use Rattle.wasm_syntax.specs.Index.{imported_funcs}
use Rattle.host_script.specs.declared.scripts.Answer.{Answer}
use Rattle.host_script.specs.declared.scripts.Response.{Response}
use Rattle.host_script.specs.declared.scripts.Script.{Script}
use Rattle.history_spec.specs.Code.{Code, Definition, code_of, signature, definition}
use Rattle.history_spec.specs.Run.{Meter, program_of}
use Rattle.history_spec.specs.Step.{Program, response_of, response_or, response_to}
use Rattle.record_replay_spec.specs.declared.hooks.Hook.{Hook}
use Rattle.record_replay_spec.specs.Hooks.{hooks, hook_count, hook_place, hook_func, renumber}
use Rattle.record_replay_spec.specs.HookedRuns.{renumbered_response, renumbered_answer}
use Rattle.record_replay_spec.specs.Instrumented.{hook_types, instrumented_module}
use Rattle.record_replay_spec.specs.HookLaws.{IndicesAreRenumbered, HooksAreAnswered, BodiesAreInstrumented, InstrumentedKeepsIndices, InstrumentedKeepIndices}
use Rattle.record_replay_spec.proofs.Indices.{below_renumbered}
use Rattle.instrumented_module_laws.specs.Links.{script_with_hooks}
use Rattle.instrumented_run_laws.proofs.DefinedFunctions.{hooked_definition, hooked_defined}
use Rattle.instrumented_run_laws.proofs.Leads as leads
use Rattle.instrumented_run_laws.proofs.Pieces.{HasHooks}
use Rattle.instrumented_run_laws.proofs.Straight.{get_more}

abbrev pub hooked_program : Module → (digest : List ℕ) → Script → Program
hooked_program m digest script = program_of (instrumented_module m digest) (script_with_hooks m script)

-- the code of both modules, and the number of the original's imports, as a binder of other files
pub record Codes : Type 0 where
  pub n : ℕ
  pub code : Code
  pub hooked : Code

abbrev pub codes : (m : Module) (digest : List ℕ) → Script → Codes
codes m digest script =
    record { n = imported_funcs m; code = code_of m; hooked = (hooked_program m digest script).code }

-- the facts about the instrumented program: hooks are imports that the host answers by doing nothing; functions, types
-- and answers are the original's, with functions renumbered
pub record HookedFacts (m : Module) (digest : List ℕ) (script : Script) : Type 0 where
  pub has : (meter : Meter) → HasHooks (imported_funcs m) (hooked_program m digest script) meter
  pub imported : (hooked_program m digest script).code.imported ≡ imported_funcs m + hook_count
  pub own : (func : ℕ)
      → nat_lt (renumber (imported_funcs m) func) (hooked_program m digest script).code.imported
      ≡ nat_lt func (imported_funcs m)
  pub signed : (func : ℕ) (ty : FuncType) → signature (code_of m) func ≡ Some ty
      → signature (hooked_program m digest script).code (renumber (imported_funcs m) func) ≡ Some ty
  pub types : (t : ℕ) (ty : FuncType) → slice_get (code_of m).types t ≡ Some ty
      → slice_get (hooked_program m digest script).code.types t ≡ Some ty
  pub defined : (func : ℕ) (ty : FuncType) (d : Definition) → signature (code_of m) func ≡ Some ty
      → definition (code_of m) func ≡ Some d
      → definition (hooked_program m digest script).code (renumber (imported_funcs m) func)
      ≡ Some (hooked_definition m func ty d)
  pub answers : (import number : ℕ) → import < imported_funcs m
      → response_to (hooked_program m digest script).answers import number
      ≡ option_map (renumbered_response (imported_funcs m)) (response_to script.imports import number)

-- ---- answers with functions renumbered

renumbered_or : (n : ℕ) (o rest : Option Response)
    → response_or (option_map (renumbered_response n) o) (option_map (renumbered_response n) rest)
    ≡ option_map (renumbered_response n) (response_or o rest)
renumbered_or n None rest = refl
renumbered_or n (Some response) rest = refl

renumbered_of : (n number : ℕ) (answer : Answer)
    → response_of (renumbered_answer n answer) number ≡ option_map (renumbered_response n) (response_of answer number)
renumbered_of n number answer =
    ap (λ o. response_or o (option_map (renumbered_response n) answer.rest))
    (slice_get-map (renumbered_response n) answer.calls number)
    ∙ renumbered_or n (slice_get answer.calls number) answer.rest

renumbered_to : (n : ℕ) (answers : List (Option Answer)) (import number : ℕ)
    → response_to (map (option_map (renumbered_answer n)) answers) import number
    ≡ option_map (renumbered_response n) (response_to answers import number)
renumbered_to n answers import number =
    ap (λ o. option_and_then (λ answer. response_of answer number) (option_and_then (λ a. a) o))
    (slice_get-map (option_map (renumbered_answer n)) answers import)
    ∙ go (slice_get answers import)
  where
    go : (o : Option (Option Answer))
        → option_and_then (λ answer. response_of answer number)
        (option_and_then (λ a. a) (option_map (option_map (renumbered_answer n)) o))
        ≡ option_map (renumbered_response n)
        (option_and_then (λ answer. response_of answer number) (option_and_then (λ a. a) o))
    go None = refl
    go (Some None) = refl
    go (Some (Some answer)) = renumbered_of n number answer

-- ---- indices

imported_hook : (n place imported : ℕ) → place < 15 → imported ≡ n + 15 → nat_lt (n + place) imported ≡ true
imported_hook n place imported within count = grind (arith, nat_tests, within, count)

after_imports : (n place : ℕ) → nat_lt (n + place) n ≡ false
after_imports n place = grind (arith, nat_tests)

module _ (renumbered : IndicesAreRenumbered) (answered : HooksAreAnswered) (m : Module) (digest : List ℕ)
    (script : Script) (keeps : InstrumentedKeepsIndices m digest) where
  abbrev n : ℕ
  n = imported_funcs m

  hook_answered : (meter : Meter) (kind : Hook)
      → leads.IsAnswered n (hooked_program m digest script) meter kind
  hook_answered meter kind =
      let within : hook_place kind < hook_count = slice_get_within hooks (hook_place kind) kind (renumbered.place kind)
      in
      let at : hook_func n kind - n ≡ hook_place kind = omega arith in
      record {
        imported = imported_hook n (hook_place kind) _ within keeps.imports;
        hook = after_imports n (hook_place kind);
        place = ap (slice_get hooks) at ∙ renumbered.place kind;
        answer = λ number. answered.hook n kind number _;
      }

  facts : BodiesAreInstrumented → HookedFacts m digest script
  facts bodies =
      record {
        has = λ meter. record { answered = hook_answered meter; types = keeps.hook };
        imported = keeps.imports;
        own = λ func. ap (nat_lt (renumber n func)) keeps.imports ∙ below_renumbered n func;
        signed = λ func ty h. keeps.type_of func ty h;
        types = λ t ty h. get_more m.types hook_types t ty h;
        defined = λ func ty d signed defined. hooked_defined m func ty d signed defined digest keeps bodies;
        answers = λ import number less.
            answered.own n import number _ less ∙ renumbered_to n script.imports import number;
      }

pub hooked_facts : IndicesAreRenumbered → HooksAreAnswered → BodiesAreInstrumented → InstrumentedKeepIndices
    → (m : Module) (digest : List ℕ) (script : Script) → HookedFacts m digest script
hooked_facts renumbered answered bodies keep m digest script =
    facts renumbered answered m digest script (keep m digest) bodies
