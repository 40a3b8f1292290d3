-- A call of a function of the original, and its renumbered one in the instrumented run.
use Rattle.std.proofs.Common.{◌≡◌, ℕ, zero, suc, ◌+◌, ◌<◌, ◌≤◌, List, [], ◌∷◌, ◌++◌, length, map, Option, Some, None, Bool, true, false, cond, nat_eq, nat_lt, slice_get, slice_set, slice_index, reverse, refl, sym, ap, ◌∙◌, subst, arith, ltb-true, ltb-false}
use Rattle.std.specs.Prelude.{option_map}
use Rattle.std.proofs.lemmas.Bool.Decides.{nat_tests}
use Rattle.std.proofs.lemmas.Option.{get_or_from_slice_get}
use Rattle.base.proofs.Lists.{item_there}
use Rattle.wasm_syntax.specs.declared.values.Val.{Val}
use Rattle.wasm_syntax.specs.declared.signatures.FuncType.{FuncType}
use Rattle.wasm_syntax.specs.declared.instructions.Instr.{Instr}
use Rattle.wasm_syntax.specs.declared.modules.Module.{Module}
use Rattle.wasm_syntax.specs.Index.{imported_funcs}
use Rattle.wasm_syntax.specs.Validity.{IsValid}
use Rattle.host_script.specs.declared.scripts.Answer.{Answer}
use Rattle.host_script.specs.declared.scripts.Response.{Response}
use Rattle.host_script.specs.Fits.{FitAnswers}
use Rattle.history_spec.specs.declared.entries.FaultKind.TheVariants.{NoResponse}
use Rattle.history_spec.specs.Store.{Store}
use Rattle.history_spec.specs.Code.{Definition, code_of, signature, definition}
use Rattle.history_spec.specs.Configuration.{place, Frame, Activation, InModule, InImport, with_results}
use Rattle.history_spec.specs.Run.{Meter}
use Rattle.history_spec.specs.Settle.{at_end, deliver, settle}
use Rattle.history_spec.specs.Step.{Program, Faulted, StepResult, after_settling, frame_of, enter_defined, enter_function, response_to, answer_call, call_function}
use Rattle.type_safety.specs.Configurations.{scope, Accept, IsTypedCode}
use Rattle.type_safety.specs.Frames.{IsCode, IsFrame}
use Rattle.type_safety.specs.Heights.{Heights}
use Rattle.type_safety.specs.Stores.{func_count}
use Rattle.type_safety.specs.Values.{AreValues}
use Rattle.type_safety.proofs.Responses.{response_fits}
use Rattle.type_safety.proofs.SettleEnds.{IsEnd, results_end}
use Rattle.record_replay_spec.specs.Hooks.{renumber, hook_count, renumbered_view}
use Rattle.record_replay_spec.specs.HookedRuns.{renumbered_action, renumbered_response}
use Rattle.record_replay_spec.specs.ReportedCalls.{WaitingCall, reported_enter, latest_args}
use Rattle.tape_laws.proofs.Ordered.{types_are}
use Rattle.tape_laws.proofs.ModuleFacts.{entered_frame}
use Rattle.instrumented_run_laws.proofs.DefinedFunctions.{type_is}
use Rattle.instrumented_run_laws.proofs.Delivers as delivers
use Rattle.instrumented_run_laws.proofs.Delivers.{AreResults, results_good, none_good}
use Rattle.instrumented_run_laws.proofs.Follows as follows
use Rattle.instrumented_run_laws.proofs.Leads as leads
use Rattle.instrumented_run_laws.proofs.Pieces.{HasHooks}
use Rattle.instrumented_run_laws.proofs.Relation.{Beside, type_of, frame_beside, waiting_stack, AreWaiting, AreCounted}
use Rattle.instrumented_run_laws.proofs.Settled as settled
use Rattle.instrumented_run_laws.proofs.PieceFacts as facts
use Rattle.instrumented_run_laws.proofs.PieceFacts.{HasPieces, HasProgram}

-- ---- counts

get_set : (xs : List ℕ) (i v old : ℕ) → slice_get xs i ≡ Some old → slice_get (slice_set xs i v) i ≡ Some v
get_set [] i v old h = cc
get_set (x ∷ xs) zero v old h = refl
get_set (x ∷ xs) (suc i) v old h = get_set xs i v old h

get_other : (xs : List ℕ) (i j v : ℕ) → (i ≡ j → ⊥) → slice_get (slice_set xs i v) j ≡ slice_get xs j
get_other [] i j v differ = refl
get_other (x ∷ xs) zero zero v differ = absurd (differ refl)
get_other (x ∷ xs) zero (suc j) v differ = refl
get_other (x ∷ xs) (suc i) zero v differ = refl
get_other (x ∷ xs) (suc i) (suc j) v differ = get_other xs i j v (λ e. differ (ap (λ k. suc k) e))

-- a call of an import is counted alike in both runs
pub counted_set : (n : ℕ) (counts second : List ℕ) (import : ℕ) → length counts ≡ n → import < n
    → AreCounted n counts second
    → AreCounted n (slice_set counts import (slice_index counts import + 1))
    (slice_set second import (slice_index second import + 1))
counted_set n counts second import long less counted i within = go (nat_eq import i) refl
  where
    old : (v : ℕ) × (slice_get counts import ≡ Some v)
    old = item_there counts import (omega (arith, less, long))

    same : slice_index second import ≡ slice_index counts import
    same = get_or_from_slice_get second import old.0 0 (counted import less ∙ old.1) ∙ sym (get_or_from_slice_get counts
        import old.0 0 old.1)

    go : (b : Bool) → nat_eq import i ≡ b
        → slice_get (slice_set second import (slice_index second import + 1)) i
        ≡ slice_get (slice_set counts import (slice_index counts import + 1)) i
    go true e =
        let equal : import ≡ i = grind (arith, nat_tests, e) in
        subst
        (λ k. slice_get (slice_set second import (slice_index second import + 1)) k
        ≡ slice_get (slice_set counts import (slice_index counts import + 1)) k)
        equal
        (get_set second import (slice_index second import + 1) old.0 (counted import less ∙ old.1)
        ∙ ap (λ v. Some (v + 1)) same
        ∙ sym (get_set counts import (slice_index counts import + 1) old.0 old.1))
    go false e =
        let differ : (import ≡ i) → ⊥ = λ equal. grind (arith, nat_tests, e, equal) in
        get_other second import i (slice_index second import + 1) differ ∙ counted i within
        ∙ sym (get_other counts import i (slice_index counts import + 1) differ)

-- the original's run under the host's answers, and the number of its imports
pub record Original : Type 0 where
  pub n : ℕ
  pub program : Program

abbrev pub original : (m : Module) (answers : List (Option Answer)) → Original
original m answers =
    record { n = imported_funcs m; program = record { code = code_of m; answers = answers } }

module _ (m : Module) (heights : Heights) (valid : IsValid m) (typed : IsTypedCode m heights)
    (answers : List (Option Answer)) (fits : FitAnswers m answers) (other : Program) (meter : Meter)
    (has : HasHooks (imported_funcs m) other meter) (pieces : HasPieces m other meter has)
    (knows : HasProgram m answers other) where
  open (original m answers) use {n, program}

  module _ (instr : Option Instr) (earlier store : Store) (counts : List ℕ) where
    abbrev FollowsEntry : (func : ℕ) (ty : FuncType) (args : List Val) (stack : List Activation)
        (waiting : List WaitingCall) (bs : List Beside) (second : List ℕ) → StepResult → Type 0
    FollowsEntry func ty args stack waiting bs second r =
        settled.Follows m heights other meter has
        (reported_enter func args store
        ++ settled.reported_of m heights other meter has instr earlier store waiting r.entries)
        (settled.waiting_of m heights other meter has instr earlier store waiting r.entries) r.next
        (enter_function other.code (renumbered_view n store) second (renumber n func) args
        (waiting_stack m meter ty.results stack waiting bs)).next
        0

    -- control enters a defined function above activations that wait for its results
    pub entered : (func : ℕ) (ty : FuncType) (args : List Val) (stack : List Activation) (waiting : List WaitingCall)
        (bs : List Beside) (second : List ℕ)
        → signature (code_of m) func ≡ Some ty → n ≤ func → AreValues (func_count m) ty.params args
        → Accept m heights stack ty.results → AreWaiting m meter ty.results stack waiting bs
        → AreCounted n counts second
        → FollowsEntry func ty args stack waiting bs second (enter_function (code_of m) store counts func args stack)
    entered func ty args stack waiting bs second has_type own p a w counted =
        subst (FollowsEntry func ty args stack waiting bs second) entering
        (follows.after_way m other meter (reported_enter func args store)
        (settled.reported_of m heights other meter has instr earlier store waiting s.entries)
        (settled.waiting_of m heights other meter has instr earlier store waiting s.entries) s.next
        (enter_function other.code (renumbered_view n store) second (renumber n func) args hooked_stack).next
        (leads.settled n other meter (renumbered_view n store) e.after hooked_stack (frame_beside m meter frame [] e.b))
        0 0 e.led
        (subst
        (λ types. settled.Follows m heights other meter has
        (settled.reported_of m heights other meter has instr earlier store waiting s.entries)
        (settled.waiting_of m heights other meter has instr earlier store waiting s.entries) s.next
        (leads.settled n other meter (renumbered_view n store) e.after (waiting_stack m meter types stack waiting bs)
        (frame_beside m meter frame [] e.b)) 0)
        results
        (settled.settles m heights other meter has instr earlier store counts stack waiting bs frame d.0 e.b e.after
        e.is_beside (settled.counted_after m heights other meter has counts second e.after counted e.counted)
        (subst (λ types. AreWaiting m meter types stack waiting bs) (sym results) w)
        (λ given others are counted. delivers.deliver_from m heights valid other meter has pieces instr earlier store
        counts stack (type_of m func).results given waiting bs others
        (subst AreResults (sym results) (results_good ty (types_are m valid.outside func ty has_type)))
        (subst (Accept m heights stack) (sym results) a) are
        (subst (λ types. AreWaiting m meter types stack waiting bs) (sym results) w) counted)
        (subst
        (λ f. IsEnd (scope m heights func f d.0) (with_results frame []).at.rest (at_end (with_results frame [])))
        (sym same)
        (results_end (scope m heights func ty d.0) [] frame [] fine tt)))))
      where
        d : (body : Definition) × (definition (code_of m) func ≡ Some body)
            × IsCode (scope m heights func ty body) [] (place body.body 0) 0 [] (reverse ty.results)
        d = typed.bodies func ty own has_type

        same : type_of m func ≡ ty
        same = type_is m func ty has_type

        results : (type_of m func).results ≡ ty.results
        results = ap (λ (f : FuncType). f.results) same

        hooked_stack : List Activation
        hooked_stack = waiting_stack m meter ty.results stack waiting bs

        frame : Frame
        frame = frame_of func ty d.0 args

        fine : IsFrame (scope m heights func ty d.0) [] frame
        fine = entered_frame m heights func ty d.0 args has_type d.1 p d.2

        e : facts.EntersBody m other meter store second func ty d.0 args hooked_stack
        e = pieces.enters_body store second func ty d.0 args hooked_stack has_type d.1 own
            (types_are m valid.outside func ty has_type) p

        s : StepResult
        s = after_settling store counts (settle (InModule frame ∷ stack))

        entering : s ≡ enter_function (code_of m) store counts func args stack
        entering =
            sym
            (ap (λ o. enter_defined o (definition (code_of m) func) store counts func args stack) has_type
            ∙ ap (λ o. enter_defined (Some ty) o store counts func args stack) d.1)

    -- the module calls a function, and waits for it
    abbrev FollowsCall : List WaitingCall → (s r : StepResult) → Type 0
    FollowsCall waiting s r =
        settled.Follows m heights other meter has
        (settled.reported_of m heights other meter has instr earlier store waiting s.entries)
        (settled.waiting_of m heights other meter has instr earlier store waiting s.entries) s.next r.next 0

    module _ (func : ℕ) (ty : FuncType) (args : List Val) (frame : Frame) (below : List Activation)
        (waiting : List WaitingCall) (bs : List Beside) (second : List ℕ)
        (has_type : signature (code_of m) func ≡ Some ty) (p : AreValues (func_count m) ty.params args)
        (a : Accept m heights (InModule frame ∷ below) ty.results)
        (w : AreWaiting m meter ty.results (InModule frame ∷ below) waiting bs) (counted : AreCounted n counts second)
      where
        abbrev stack : List Activation
        stack = InModule frame ∷ below

        abbrev hooked_stack : List Activation
        hooked_stack = waiting_stack m meter ty.results stack waiting bs

        abbrev FollowsResult : StepResult → StepResult → Type 0
        FollowsResult = FollowsCall waiting

        -- the module calls an import
        answered : length counts ≡ n → nat_lt func n ≡ true
            → FollowsResult (call_function program true store counts func args stack)
            (call_function other true (renumbered_view n store) second func args hooked_stack)
        answered long e =
            subst
            (λ r. FollowsResult (call_function program true store counts func args stack)
            (answer_call r (renumbered_view n store) second func args hooked_stack))
            (sym
            (knows.answered func (slice_index second func) (ltb-true func n e)
            ∙ ap (λ k. option_map (renumbered_response n) (response_to answers func k)) count))
            (go (response_to answers func (slice_index counts func)) refl)
          where
            old : (v : ℕ) × (slice_get counts func ≡ Some v)
            old = item_there counts func (let less = ltb-true func n e in omega (arith, less, long))

            count : slice_index second func ≡ slice_index counts func
            count =
                get_or_from_slice_get second func old.0 0 (counted func (ltb-true func n e) ∙ old.1)
                ∙ sym (get_or_from_slice_get counts func old.0 0 old.1)

            results : (type_of m func).results ≡ ty.results
            results = ap (λ (f : FuncType). f.results) (type_is m func ty has_type)

            go : (o : Option Response) → response_to answers func (slice_index counts func) ≡ o
                → FollowsResult (answer_call o store counts func args stack)
                (answer_call (option_map (renumbered_response n) o) (renumbered_view n store) second func args
                hooked_stack)
            go None r = follows.stands_there m other meter waiting (Faulted NoResponse) _ (Faulted NoResponse) refl refl
            go (Some response) r =
                let fit = response_fits m answers func (slice_index counts func) ty response fits has_type r in
                let now = slice_set counts func (slice_index counts func + 1) in
                let then = slice_set second func (slice_index second func + 1) in
                let top = InImport func args response.actions response.«end» in
                subst
                (λ types. settled.Follows m heights other meter has
                (settled.reported_of m heights other meter has instr earlier store waiting (deliver (top ∷ stack)
                []).entries)
                (settled.waiting_of m heights other meter has instr earlier store waiting (deliver (top ∷ stack)
                []).entries)
                (after_settling store now (deliver (top ∷ stack) [])).next
                (after_settling (renumbered_view n store) then
                (deliver
                (InImport func args (map (renumbered_action n) response.actions) response.«end»
                ∷ waiting_stack m meter types stack waiting bs)
                [])).next
                0)
                results
                (delivers.deliver_from m heights valid other meter has pieces instr earlier store now (top ∷ stack) []
                []
                waiting bs then none_good
                (ty, record { imported = ltb-true func n e; has_type = has_type }, p, fit.actions, fit.«end», a) tt
                (tt, subst (λ types. AreWaiting m meter types stack waiting bs) (sym results) w)
                (counted_set n counts second func long (ltb-true func n e) counted))

        pub called : length counts ≡ n → latest_args waiting ≡ args
            → FollowsResult (call_function program (nat_lt func n) store counts func args stack)
            (call_function other (nat_lt (renumber n func) other.code.imported) (renumbered_view n store) second
            (renumber n func) args hooked_stack)
        called long latest =
            subst
            (λ b. FollowsResult (call_function program (nat_lt func n) store counts func args stack)
            (call_function other b (renumbered_view n store) second (renumber n func) args hooked_stack))
            (sym (knows.own func)) (go (nat_lt func n) refl)
          where
            go : (b : Bool) → nat_lt func n ≡ b
                → FollowsResult (call_function program b store counts func args stack)
                (call_function other b (renumbered_view n store) second (renumber n func) args hooked_stack)
            go true e =
                subst
                (λ f. FollowsResult (call_function program true store counts func args stack)
                (call_function other true (renumbered_view n store) second f args hooked_stack))
                (sym (ap (λ b. cond b func (func + hook_count)) e)) (answered long e)
            go false e =
                let s = enter_function (code_of m) store counts func args stack in
                subst
                (λ given. settled.Follows m heights other meter has
                (reported_enter func given store
                ++ settled.reported_of m heights other meter has instr earlier store waiting s.entries)
                (settled.waiting_of m heights other meter has instr earlier store waiting s.entries) s.next
                (enter_function other.code (renumbered_view n store) second (renumber n func) args hooked_stack).next 0)
                (sym latest)
                (entered func ty args stack waiting bs second has_type (ltb-false func n e) p a w counted)
