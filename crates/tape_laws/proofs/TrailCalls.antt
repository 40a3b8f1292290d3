-- The moments of calls and of a step of the host are a trail.
use Rattle.std.proofs.Common.{◌≡◌, ℕ, ◌+◌, ◌≤◌, List, [], ◌∷◌, length, Option, Some, None, Bool, true, false, nat_lt, slice_index, slice_set, refl, sym, ◌∙◌, subst, length-set, ltb-true, ltb-false}
use Rattle.wasm_syntax.specs.declared.values.ValType.{ValType}
use Rattle.wasm_syntax.specs.declared.values.Val.{Val}
use Rattle.wasm_syntax.specs.declared.signatures.FuncType.{FuncType}
use Rattle.wasm_syntax.specs.declared.instructions.Instr.{Instr}
use Rattle.wasm_syntax.specs.declared.modules.Module.{Module}
use Rattle.wasm_syntax.specs.Encoding.Forms.{IsCoreModule}
use Rattle.wasm_syntax.specs.Index.{imported_funcs}
use Rattle.host_script.specs.declared.scripts.Action.{Action}
use Rattle.host_script.specs.declared.scripts.Answer.{Answer}
use Rattle.host_script.specs.declared.scripts.Response.{Response}
use Rattle.host_script.specs.Fits.{FitAnswers}
use Rattle.history_spec.specs.Store.{Store}
use Rattle.history_spec.specs.Code.{code_of, signature, definition}
use Rattle.history_spec.specs.Configuration.{Frame, Activation, InModule, InImport, Config}
use Rattle.history_spec.specs.Action.{ActionResult, Changes, Enters, Fails, Unfit, perform}
use Rattle.history_spec.specs.Settle.{deliver}
use Rattle.history_spec.specs.Step.{Program, after_settling, frame_of, enter_defined, enter_function, response_to, answer_call, call_function, after_action}
use Rattle.record_replay_spec.specs.Known.{Known}
use Rattle.type_safety.specs.Configurations.{Accept, IsTypedCode}
use Rattle.type_safety.specs.Heights.{Heights}
use Rattle.type_safety.specs.Results.{IsActionResult}
use Rattle.type_safety.specs.Stores.{func_count, IsStore}
use Rattle.type_safety.specs.Values.{AreValues}
use Rattle.type_safety.proofs.Responses.{response_fits}
use Rattle.tape_laws.proofs.Relation.{IsKnownOf}
use Rattle.tape_laws.proofs.HostStores.{host_change, known_of_change}
use Rattle.tape_laws.specs.RealReads.{observed_from}
use Rattle.record_replay_spec.specs.Order.{HookedShape}
use Rattle.record_replay_spec.specs.ReportedCalls.{store_performed}
use Rattle.tape_laws.proofs.CoreFrames.{CoreStack, core_definition}
use Rattle.tape_laws.proofs.Mirrors.{Mirrors, IsHost, host_on_top, any_callee, host_enters}
use Rattle.tape_laws.proofs.Trails.{Level, AtFunction, AtImport, AtCall, call_level, with_top_entered}
use Rattle.tape_laws.proofs.TrailsOfRuns as trails
use Rattle.tape_laws.proofs.TrailsOfRuns.{Reported, Delivers}
use Rattle.tape_laws.proofs.ModuleFacts.{entered_frame}

module _ (m : Module) (heights : Heights) (typed : IsTypedCode m heights) (core : IsCoreModule m)
    (answers : List (Option Answer)) (fits : FitAnswers m answers) (shape : HookedShape) where
  abbrev program : Program
  program = record { code = code_of m; answers = answers }

  abbrev n : ℕ
  n = imported_funcs m

  module _ (k : ℕ) (delivers : Delivers m heights answers shape k) where
    -- control enters a defined function
    pub entered : (func : ℕ) (ty : FuncType) (args : List Val) (stack : List Activation) (store : Store) (counts : List ℕ)
        (levels : List Level) (known : Known) (instr : Option Instr) (before : Store)
        → signature (code_of m) func ≡ Some ty → n ≤ func → AreValues (func_count m) ty.params args → IsStore m store
        → IsKnownOf known store → length counts ≡ n → Accept m heights stack ty.results → CoreStack stack
        → Mirrors n (Some func) stack levels
        → Reported m heights answers shape k instr before store (enter_function (code_of m) store counts func args stack)
        (AtFunction func ∷ levels) known
    entered func ty args stack store counts levels known instr before has_type own p is of count a c mirrors =
        let b = typed.bodies func ty own has_type in
        subst
        (λ o. Reported m heights answers shape k instr before store (enter_defined o (definition (code_of m) func) store counts func args stack)
        (AtFunction func ∷ levels) known)
        (sym has_type)
        (subst
        (λ o. Reported m heights answers shape k instr before store (enter_defined (Some ty) o store counts func args stack)
        (AtFunction func ∷ levels) known)
        (sym b.1)
        (delivers (InModule (frame_of func ty b.0 args) ∷ stack) [] [] store counts (AtFunction func ∷ levels) known instr
        before (ty, b.0, entered_frame m heights func ty b.0 args has_type b.1 p b.2, a) tt is of count
        (record { rest = core_definition m core func b.0 b.1; labels = tt }, c)
        (record { below = levels; stands = refl; mirrors = mirrors })))

    -- the module calls a function
    pub called : (func : ℕ) (ty : FuncType) (args : List Val) (direct : Bool) (waiting : Frame) (below : List Activation)
        (store : Store) (counts : List ℕ) (lower : List Level) (known : Known) (instr : Option Instr) (before : Store)
        → signature (code_of m) func ≡ Some ty → AreValues (func_count m) ty.params args → IsStore m store
        → IsKnownOf known store → length counts ≡ n → Accept m heights (InModule waiting ∷ below) ty.results
        → CoreStack (InModule waiting ∷ below) → Mirrors n (Some waiting.func) below lower
        → (b : Bool) → nat_lt func n ≡ b
        → Reported m heights answers shape k instr before store (call_function program b store counts func args (InModule waiting ∷ below))
        (call_level b direct func args ∷ AtFunction waiting.func ∷ lower) known
    called func ty args direct waiting below store counts lower known instr before has_type p is of count a c mirrors
        false e =
        record {
          same = refl;
          direct = direct;
          args = args;
          below = AtFunction waiting.func ∷ lower;
          stands = refl;
          defined = ltb-false func n e;
          typed = record { ty = ty; has_type = has_type; are = p };
          follows =
              entered func ty args (InModule waiting ∷ below) store counts
              (AtCall direct func true args ∷ AtFunction waiting.func ∷ lower) known instr before has_type
              (ltb-false func n e) p is of count a c
              (record {
                direct = direct;
                entered = true;
                args = args;
                below = lower;
                stands = refl;
                own = λ d. refl;
                mirrors = mirrors;
              });
        }
    called func ty args direct waiting below store counts lower known instr before has_type p is of count a c mirrors
        true e =
        go (response_to answers func (slice_index counts func)) refl
      where
        levels : List Level
        levels = AtImport direct func args ∷ AtFunction waiting.func ∷ lower

        stack : List Activation
        stack = InModule waiting ∷ below

        go : (o : Option Response) → response_to answers func (slice_index counts func) ≡ o
            → Reported m heights answers shape k instr before store (answer_call o store counts func args stack) levels known
        go None r = trails.fault_trail m heights answers shape k levels known store _
        go (Some response) r =
            let fit = response_fits m answers func (slice_index counts func) ty response fits has_type r in
            let now = slice_set counts func (slice_index counts func + 1) in
            let top = InImport func args response.actions response.«end» ∷ stack in
            record {
              keeps = λ at i. refl;
              direct = direct;
              args = args;
              below = AtFunction waiting.func ∷ lower;
              stands = refl;
              imported = e;
              later = observed_from program k (after_settling store now (deliver top []));
              observed = refl;
              follows =
                  delivers top [] [] store now (AtCall direct func false args ∷ AtFunction waiting.func ∷ lower) known instr before
                  (ty, record { imported = ltb-true func n e; has_type = has_type }, p, fit.actions, fit.«end», a) tt is of
                  (length-set counts func (slice_index counts func + 1) ∙ count) c (
                    record {
                      direct = direct;
                      entered = false;
                      args = args;
                      below = lower;
                      stands = refl;
                      own = λ d. sym d ∙ e;
                      mirrors = mirrors;
                    },
                    e,
                  );
            }

    -- ---- a step of the host

    pub acted : (stack : List Activation) (store : Store) (counts : List ℕ) (levels : List Level) (known : Known)
        (instr : Option Instr) (before : Store) (args : List Val) (action : Action) (config : Config)
        → config.store ≡ store → config.counts ≡ counts
        → IsHost stack → ((types : List ValType) → Accept m heights stack types) → IsStore m store
        → IsKnownOf known store → length counts ≡ n → CoreStack stack → Mirrors n None stack levels
        → (r : ActionResult) → perform (code_of m) store args action ≡ r → IsActionResult m r
        → Reported m heights answers shape k instr before (store_performed store r)
        (after_action program (record { store = store; stack = config.stack; counts = counts }) stack r) levels known
    acted stack store counts levels known instr before args action config s t host a is of count c mirrors
        (Changes after) e fine =
        delivers stack [] [] after counts levels known instr before (a []) tt fine
        (known_of_change m known store after is fine (host_change (code_of m) store args action after e) of) count c
        mirrors
    acted stack store counts levels known instr before args action config s t host a is of count c mirrors
        (Enters func given) e fine =
        record {
          keeps = λ at i. refl;
          host = host_on_top n None stack levels host mirrors;
          defined = fine.2;
          typed = record { ty = fine.0; has_type = fine.1; are = fine.3 };
          later = observed_from program k (enter_function (code_of m) store counts func given stack);
          observed = refl;
          follows =
              entered func fine.0 given stack store counts (with_top_entered levels) known instr before fine.1 fine.2
              fine.3 is of count (a fine.0.results) c
              (any_callee n None (Some func) stack (with_top_entered levels) host
              (host_enters n None stack levels host mirrors));
        }
    acted stack store counts levels known instr before args action config s t host a is of count c mirrors
        (Fails kind) e fine =
        trails.fault_trail m heights answers shape k levels known store kind
    acted stack store counts levels known instr before args action config s t host a is of count c mirrors Unfit e
        fine =
        absurd fine
