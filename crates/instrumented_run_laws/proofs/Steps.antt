-- A step of the original, and the steps of the instrumented run beside it.
use Rattle.std.proofs.Common.{◌≡◌, ℕ, ◌+◌, List, [], ◌∷◌, ◌++◌, length, Option, Some, None, refl, sym, ap, ◌∙◌, subst, arith}
use Rattle.wasm_syntax.specs.declared.values.Val.{Val}
use Rattle.wasm_syntax.specs.declared.signatures.FuncType.{FuncType}
use Rattle.wasm_syntax.specs.declared.instructions.Instr.{Instr}
use Rattle.wasm_syntax.specs.declared.instructions.Instr.TheVariants as instrs
use Rattle.wasm_syntax.specs.declared.modules.Module.{Module}
use Rattle.wasm_syntax.specs.Index.{imported_funcs, all_globals}
use Rattle.wasm_syntax.specs.Nest.{Nest, Empty, Plain, InBlock, InLoop, InIf, InIfElse}
use Rattle.wasm_syntax.specs.Validity.{IsValid}
use Rattle.host_script.specs.declared.scripts.Answer.{Answer}
use Rattle.host_script.specs.Fits.{FitAnswers}
use Rattle.history_spec.specs.Store.{Store}
use Rattle.history_spec.specs.Code.{Definition, code_of}
use Rattle.history_spec.specs.Configuration.{place, Frame, Activation, InModule, InMain, InImport, Config}
use Rattle.history_spec.specs.Instruction.{Execution, Did, Traps, NoRule, execute_at, execute}
use Rattle.history_spec.specs.Run.{Meter}
use Rattle.history_spec.specs.Step.{Program, Progress, Running, step}
use Rattle.type_safety.specs.Configurations.{scope, Accept, IsConfig, IsTypedCode, IsGoing}
use Rattle.type_safety.specs.Frames.{IsFrame}
use Rattle.type_safety.specs.Heights.{Heights}
use Rattle.type_safety.specs.Laws.{InstructionsHaveRules, FittingActionsHaveResults}
use Rattle.type_safety.specs.Results.{HasRule}
use Rattle.record_replay_spec.specs.Hooks.{renumber, renumbered_view}
use Rattle.record_replay_spec.specs.Insertions.{Site}
use Rattle.record_replay_spec.specs.Instrumented.{instrumented_nest, weights_of_nest}
use Rattle.record_replay_spec.specs.ReportedCalls.{WaitingCall, Moment, moments_of_step, next_of_nest, reported_after, reported_by_step, reported_by_trap, waiting_after_step, reported_calls}
use Rattle.tape_laws.proofs.CoreFrames.{CoreFrame, CoreStack, KeepsCore, execute_keeps}
use Rattle.tape_laws.proofs.TrailRuns.{globals_are_numbers}
use Rattle.tape_laws.proofs.Ordered.{types_are}
use Rattle.instrumented_run_laws.proofs.Before.{IsRule}
use Rattle.instrumented_run_laws.proofs.Branches as branches
use Rattle.instrumented_run_laws.proofs.CallSteps as call_steps
use Rattle.instrumented_run_laws.proofs.DefinedFunctions.{type_is}
use Rattle.instrumented_run_laws.proofs.Delivers.{AreResults, results_good}
use Rattle.instrumented_run_laws.proofs.Follows.{waiting_after_all}
use Rattle.instrumented_run_laws.proofs.HostSteps as host_steps
use Rattle.instrumented_run_laws.proofs.InstrKinds.{Kind, GoesOn, Branches, Calls as CallsOne, Returns as ReturnsNow, HasNone, kind_of, IsBranchPlainly, branch_plainly}
use Rattle.instrumented_run_laws.proofs.Kept as kept
use Rattle.instrumented_run_laws.proofs.Leads as leads
use Rattle.instrumented_run_laws.proofs.Moves as moves
use Rattle.instrumented_run_laws.proofs.Pieces.{HasHooks}
use Rattle.instrumented_run_laws.proofs.Ready as ready
use Rattle.instrumented_run_laws.proofs.Ready.{IsReady}
use Rattle.instrumented_run_laws.proofs.Relation.{Beside, type_of, site_at, frame_beside, waiting_stack, going_stack, AreGoing, AreCounted, StandsBeside}
use Rattle.instrumented_run_laws.proofs.ReturnSteps as return_steps
use Rattle.instrumented_run_laws.proofs.Settled as settled
use Rattle.instrumented_run_laws.proofs.StraightSteps as straight_steps
use Rattle.instrumented_run_laws.proofs.PieceFacts.{HasPieces, HasProgram, IsBlock, IsBranch}
use Rattle.instrumented_run_laws.proofs.Weights.{AreWeights}

-- a well-typed execution has a rule
pub rule_of : (m : Module) (heights : Heights) (func : ℕ) (ty : FuncType) (body : Definition) (e : Execution)
    → HasRule (scope m heights func ty body) e → IsRule e
rule_of m heights func ty body (Did operands results found control) fine = tt
rule_of m heights func ty body (Traps kind operands found) fine = tt
rule_of m heights func ty body NoRule fine = absurd fine

module _ (m : Module) (heights : Heights) (valid : IsValid m) (typed : IsTypedCode m heights)
    (answers : List (Option Answer)) (fits : FitAnswers m answers) (other : Program) (meter : Meter)
    (has : HasHooks (imported_funcs m) other meter) (pieces : HasPieces m other meter has)
    (knows : HasProgram m answers other) (host : meter.action ≡ 1) where
  abbrev n : ℕ
  n = imported_funcs m

  abbrev pub program : Program
  program = record { code = code_of m; answers = answers }

  -- ---- a step of the module, by its next instruction

  module _ (store : Store) (counts : List ℕ) (f : Frame) (number : ℕ) (below : List Activation)
      (waiting : List WaitingCall) (b : Beside) (bs : List Beside) (second : List ℕ) (body : Definition) where
    abbrev site : Site
    site = site_at m f.func

    abbrev ty : FuncType
    ty = type_of m f.func

    abbrev frame : Nest → Frame
    frame nest = record f { at = place nest number }

    abbrev hooked : Nest → Frame
    hooked nest = frame_beside m meter (frame nest) [] b

    abbrev start : Nest → Progress
    start nest =
        leads.running n other meter (renumbered_view n store) second (waiting_stack m meter ty.results below waiting bs)
        (hooked nest)

    abbrev exec : Nest → Execution
    exec nest = execute_at (code_of m) store (frame nest) nest number

    abbrev Known : Nest → Type 0
    Known nest = IsReady m heights meter store counts (frame nest) below waiting b bs second body

    abbrev FollowsNest : Nest → Type 0
    FollowsNest nest =
        ready.FollowsExecution m heights valid program other meter has pieces (next_of_nest nest) store counts (frame
        nest)
        below waiting (exec nest) (start nest) 1

    -- a step into a block
    block_step : (nest : Nest) → IsBlock nest → next_of_nest nest ≡ None → IsBlock (instrumented_nest site nest)
        → Known nest → HasRule (scope m heights f.func ty body) (exec nest)
        → meter.instruction (renumber n f.func) b.number ≡ 1 → FollowsNest nest
    block_step nest is none second_is known fine weighs =
        moves.move m heights valid program other meter has pieces store counts f nest number below waiting b bs second
        body
        known
        (record {
          step = λ operands results moment. subst (λ o. quiet_step o operands results moment) (sym none) refl;
          trap = λ operands moment. subst (λ o. quiet_trap o operands moment) (sym none) refl;
          waits = λ operands. subst (λ o. quiet_waits o operands) (sym none) refl;
        })
        (pieces.moved_block site ty b.last (hooked nest) (frame nest) store (code_of m) other.code b.numbers nest number
        b.number is known.beside.arity known.beside.labels refl known.beside.weights)
        (kept.block_goes_on store (frame nest) (code_of m) nest number is)
        (kept.block_goes_on (renumbered_view n store) (hooked nest) other.code (instrumented_nest site nest) b.number
        second_is)
        weighs (exec nest) refl fine
      where
        quiet_step : Option Instr → List Val → List Val → Moment → Type 0
        quiet_step o operands results moment = reported_by_step (all_globals m) o operands results moment ≡ []

        quiet_trap : Option Instr → List Val → Moment → Type 0
        quiet_trap o operands moment = reported_by_trap o operands moment ≡ []

        quiet_waits : Option Instr → List Val → Type 0
        quiet_waits o operands = waiting_after_step o operands waiting ≡ waiting

    -- a step by a branch
    branch_step : (i : Instr) (rest : Nest) → IsBranch i → Known (Plain i rest)
        → HasRule (scope m heights f.func ty body) (exec (Plain i rest)) → FollowsNest (Plain i rest)
    branch_step i rest is known fine =
        moves.move m heights valid program other meter has pieces store counts f (Plain i rest) number below waiting b
        bs
        second body known
        (record {
          step = λ operands results moment. ap (λ reported. reported ++ reported_after (all_globals m) i results moment.after)
              (q.before operands moment.before)
              ∙ q.after (all_globals m) results moment.after;
          trap = λ operands moment. q.before operands moment.before;
          waits = λ operands. q.waits operands waiting;
        })
        (subst
        (λ x. branches.IsMoved meter site ty b.last (hooked (Plain i rest)) (exec (Plain i rest))
        (execute_at other.code (renumbered_view n store) (hooked (Plain i rest)) x b.number))
        (sym (q.nest rest))
        (pieces.moved_branch site ty b.last (hooked (Plain i rest)) (frame (Plain i rest)) store (code_of m) other.code
        b.numbers i rest number b.number is known.beside.arity known.beside.labels refl weights.1))
        (kept.branch_goes_on store (frame (Plain i rest)) (code_of m) (place rest (number + 1)) i is)
        (subst
        (λ x. kept.MovesOn (renumbered_view n store) (hooked (Plain i rest))
        (execute_at other.code (renumbered_view n store) (hooked (Plain i rest)) x b.number))
        (sym (q.nest rest))
        (kept.branch_goes_on (renumbered_view n store) (hooked (Plain i rest)) other.code
        (place (instrumented_nest site rest) (b.number + 1)) i is))
        weights.0 (exec (Plain i rest)) refl fine
      where
        q : IsBranchPlainly site i
        q = branch_plainly site i is

        weights : AreWeights meter (renumber n f.func) b.number (1 ∷ weights_of_nest site rest)
        weights = subst (AreWeights meter (renumber n f.func) b.number) (q.weights rest) known.beside.weights

    -- a step by an instruction that opens no block
    plain_step : (i : Instr) (rest : Nest) → Known (Plain i rest) → CoreFrame (frame (Plain i rest))
        → length counts ≡ n → HasRule (scope m heights f.func ty body) (exec (Plain i rest)) → FollowsNest (Plain i
        rest)
    plain_step i rest known core long fine = go (kind_of i core.rest.0)
      where
        rule : IsRule (exec (Plain i rest))
        rule = rule_of m heights f.func ty body (exec (Plain i rest)) fine

        go : Kind i → FollowsNest (Plain i rest)
        go (GoesOn is) =
            straight_steps.straight_step m heights valid program other meter has pieces store counts f i rest number
            below
            waiting b bs second body known is core.rest.0 rule (exec (Plain i rest)) refl fine
        go (Branches is) = branch_step i rest is known fine
        go (CallsOne is) =
            call_steps.call_step m heights valid typed answers fits other meter has pieces knows store counts f i rest
            number
            below waiting b bs second body known is core.rest.0 rule long (exec (Plain i rest)) refl fine
            (λ operands results found wait func args e.
            (subst (KeepsCore store f.values (Some i)) e (execute_keeps (code_of m) store (frame (Plain i rest))
            core).kept).1)
        go (ReturnsNow is) =
            returned i is known fine
          where
            returned : (j : Instr) → j ≡ instrs.Return → Known (Plain j rest)
                → HasRule (scope m heights f.func ty body) (exec (Plain j rest)) → FollowsNest (Plain j rest)
            returned j same known fine =
                subst
                (λ k. Known (Plain k rest) → HasRule (scope m heights f.func ty body) (exec (Plain k rest))
                → FollowsNest (Plain k rest))
                (sym same)
                (λ known fine. return_steps.return_step m heights valid program other meter has pieces store counts f
                rest
                number below waiting b bs second body known (exec (Plain instrs.Return rest)) refl fine)
                known fine
        go (HasNone none) =
            absurd
            (subst (HasRule (scope m heights f.func ty body))
            (none (code_of m) store (frame (Plain i rest)) (place rest (number + 1))) fine)

    pub nest_step : (nest : Nest) → IsGoing nest → Known nest → CoreFrame (frame nest) → length counts ≡ n
        → HasRule (scope m heights f.func ty body) (exec nest) → FollowsNest nest
    nest_step Empty going known core long fine = absurd going
    nest_step (Plain i rest) going known core long fine = plain_step i rest known core long fine
    nest_step (InBlock t inner rest) going known core long fine =
        block_step (InBlock t inner rest) tt refl tt known fine known.beside.weights.0
    nest_step (InLoop t inner rest) going known core long fine =
        block_step (InLoop t inner rest) tt refl tt known fine known.beside.weights.0
    nest_step (InIf t inner rest) going known core long fine =
        block_step (InIf t inner rest) tt refl tt known fine known.beside.weights.0
    nest_step (InIfElse t inner otherwise rest) going known core long fine =
        block_step (InIfElse t inner otherwise rest) tt refl tt known fine known.beside.weights.0

  -- ---- the facts at a configuration within the module

  pub ready_at : (store : Store) (counts : List ℕ) (frame : Frame) (below : List Activation)
      (waiting : List WaitingCall) (b : Beside) (bs : List Beside) (second : List ℕ)
      (fine : IsConfig m heights (record { store = store; stack = InModule frame ∷ below; counts = counts }))
      → AreGoing m meter (InModule frame ∷ below) waiting (b ∷ bs) → AreCounted n counts second
      → IsReady m heights meter store counts frame below waiting b bs second fine.stack.1
  ready_at store counts frame below waiting b bs second fine going counted =
      let same : type_of m frame.func ≡ fine.stack.0 =
      type_is m frame.func fine.stack.0 fine.stack.2.around.scope.has_type
      in
      record {
        framed = subst (λ t. IsFrame (scope m heights frame.func t fine.stack.1) [] frame) (sym same) fine.stack.2;
        accepts = subst (λ t. Accept m heights below t) (sym (ap (λ (t : FuncType). t.results) same)) fine.stack.3;
        good = subst AreResults (sym (ap (λ (t : FuncType). t.results) same))
            (results_good fine.stack.0 (types_are m valid.outside frame.func fine.stack.0
            fine.stack.2.around.scope.has_type));
        beside = going.0;
        waits = going.1;
        counted = counted;
        globals = record {
          values = fine.store.globals;
          numbers = globals_are_numbers m valid.outside;
        };
      }

  pub rule_at : InstructionsHaveRules → (store : Store) (counts : List ℕ) (frame : Frame) (below : List Activation)
      (fine : IsConfig m heights (record { store = store; stack = InModule frame ∷ below; counts = counts }))
      → HasRule (scope m heights frame.func (type_of m frame.func) fine.stack.1) (execute (code_of m) store frame)
  rule_at rules store counts frame below fine =
      subst
      (λ t. HasRule (scope m heights frame.func t fine.stack.1) (execute (code_of m) store frame))
      (sym (type_is m frame.func fine.stack.0 fine.stack.2.around.scope.has_type))
      (rules m heights store frame fine.stack.0 fine.stack.1 valid typed fine.store fine.stack.2 fine.at_step)

  -- ---- any step

  abbrev pub FollowsStep : Config → List WaitingCall → Progress → Type 0
  FollowsStep config waiting at =
      settled.Follows m heights other meter has (reported_calls (all_globals m) waiting (moments_of_step program config))
      (waiting_after_all waiting (moments_of_step program config)) (step program config).next at 1

  module _ (rules : InstructionsHaveRules) (actions : FittingActionsHaveResults) where
    by_stack : (store : Store) (stack : List Activation) (counts : List ℕ) (waiting : List WaitingCall)
        (bs : List Beside) (second : List ℕ)
        → IsConfig m heights (record { store = store; stack = stack; counts = counts }) → CoreStack stack
        → AreGoing m meter stack waiting bs → AreCounted n counts second
        → FollowsStep (record { store = store; stack = stack; counts = counts }) waiting
        (Running (record {
          store = renumbered_view n store;
          stack = going_stack m meter stack waiting bs;
          counts = second;
        }))
    by_stack store [] counts waiting bs second fine core going counted = absurd fine.at_step
    by_stack store (InModule frame ∷ below) counts waiting [] second fine core going counted = absurd going
    by_stack store (InModule frame ∷ below) counts waiting (b ∷ bs) second fine core going counted =
        nest_step store counts frame frame.at.number below waiting b bs second fine.stack.1 frame.at.rest fine.at_step
        (ready_at store counts frame below waiting b bs second fine going counted) core.0 fine.counts
        (rule_at rules store counts frame below fine)
    by_stack store (InMain [] ∷ below) counts waiting bs second fine core going counted =
        let none = fine.at_step in absurd (omega (arith, none))
    by_stack store (InMain (action ∷ rest) ∷ below) counts waiting bs second fine core going counted =
        host_steps.main_step m heights valid typed answers fits other meter has pieces knows actions host store counts
        waiting
        bs second counted action rest below fine going
    by_stack store (InImport import args [] end ∷ below) counts waiting bs second fine core going counted =
        let none = fine.at_step in absurd (omega (arith, none))
    by_stack store (InImport import args (action ∷ rest) end ∷ below) counts waiting bs second fine core going counted =
        host_steps.import_step m heights valid typed answers fits other meter has pieces knows actions host store counts
        waiting bs second counted import args action rest end below fine going

    pub step_follows : (config : Config) (waiting : List WaitingCall) (at : Progress) → IsConfig m heights config
        → CoreStack config.stack → StandsBeside m meter config waiting at → FollowsStep config waiting at
    step_follows config waiting at fine core stands =
        subst (FollowsStep config waiting) (sym stands.is)
        (by_stack config.store config.stack config.counts waiting stands.bs stands.counts fine core stands.going
        stands.counted)
