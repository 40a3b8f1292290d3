-- Steps and runs, if all indices are resolved beforehand.
use Rattle.std.proofs.Common.{◌≡◌, ℕ, zero, suc, ◌+◌, List, [], ◌∷◌, Option, Some, None, Bool, true, false, nat_lt, slice_index, slice_set, slice_get, option_map, refl, ap, ◌∙◌, sym, subst}
use Rattle.wasm_syntax.specs.declared.values.Val.{Val}
use Rattle.wasm_syntax.specs.declared.values.ValType.TheVariants.{I32}
use Rattle.wasm_syntax.specs.declared.signatures.FuncType.{FuncType}
use Rattle.wasm_syntax.specs.Nest.{Nest, Empty, Plain, InBlock, InLoop, InIf, InIfElse, size}
use Rattle.host_script.specs.declared.scripts.Action.{Action}
use Rattle.host_script.specs.declared.scripts.Action.TheVariants as actions
use Rattle.host_script.specs.declared.scripts.Response.{Response}
use Rattle.history_spec.specs.declared.entries.Entry.TheVariants.{HostCall, ImportCall, Enter, Step}
use Rattle.history_spec.specs.Store.{Store, Table}
use Rattle.history_spec.specs.declared.entries.FaultKind.TheVariants.{TableOutside}
use Rattle.history_spec.specs.Action.{ActionResult, Changes, Enters, Fails, Unfit, perform, on, or_fault, calls_entry}
use Rattle.history_spec.specs.Code.{Code, Definition, signature, definition}
use Rattle.history_spec.specs.Configuration.{Place, place, Frame, Activation, InModule, InMain, InImport, Config}
use Rattle.history_spec.specs.Instruction.{Control, Goes, Calls, Returns, Execution, Did, Traps, NoRule, choice, bits_at, block_arity, enters, execute, execute_at}
use Rattle.history_spec.specs.Settle.{SettleEnd, Continues, Finishes, NoRule as NoneHolds, return_entry, deliver}
use Rattle.history_spec.specs.Run.{Meter, run_after, steps, weight, weight_of}
use Rattle.history_spec.specs.Step.{Program, Progress, Running, Finished, Faulted, Stuck, step_result, after_entries, after_settling, progress_of, frame_of, enter_defined, enter_function, answer_call, response_to, call_function, after_control, after_instruction, after_action, step_of, step, start, start_with_call}
use Rattle.instance_spec.specs.Instances.{Instance, World, resolved_instr, resolved_next, resolved_frame, resolved_stack, step_in, steps_in}
use Rattle.instance_spec.specs.Renamed.{renamed_nest, renamed_definition, renamed_frame, renamed_place, renamed_frame_in, renamed_execution, renamed_stack, renamed_config, renamed_settle_end, renamed_control, renamed_progress, renamed_result, renamed_run}
use Rattle.instance_spec.specs.Laws.{DoesFollow, RunsFollow}
use Rattle.instance_laws.proofs.Settling.{delivered, entry_alike}
use Rattle.instance_laws.proofs.Instructions.{plain_alike, takes_alike}

-- ---- instructions

size_alike : (i : Instance) (nest : Nest) → size (renamed_nest i nest) ≡ size nest
size_alike i Empty = refl
size_alike i (Plain instr rest) = ap (λ k. 1 + k) (size_alike i rest)
size_alike i (InBlock ty body rest) =
    ap (λ k. 1 + k + size (renamed_nest i rest)) (size_alike i body)
    ∙ ap (λ k. 1 + size body + k) (size_alike i rest)
size_alike i (InLoop ty body rest) =
    ap (λ k. 1 + k + size (renamed_nest i rest)) (size_alike i body)
    ∙ ap (λ k. 1 + size body + k) (size_alike i rest)
size_alike i (InIf ty body rest) =
    ap (λ k. 1 + k + size (renamed_nest i rest)) (size_alike i body)
    ∙ ap (λ k. 1 + size body + k) (size_alike i rest)
size_alike i (InIfElse ty body other rest) =
    ap (λ k. 1 + k + size (renamed_nest i other) + size (renamed_nest i rest)) (size_alike i body)
    ∙ ap (λ k. 1 + size body + k + size (renamed_nest i rest)) (size_alike i other)
    ∙ ap (λ k. 1 + size body + size other + k) (size_alike i rest)

-- renaming changes no weight
pub stack_weighed : (w : World) (meter : Meter) (stack : List Activation)
    → weight_of meter (renamed_stack w stack) ≡ weight_of meter stack
stack_weighed w meter [] = refl
stack_weighed w meter (InModule frame ∷ below) = refl
stack_weighed w meter (InMain actions ∷ below) = refl
stack_weighed w meter (InImport import args actions end ∷ below) = refl

module _ (w : World) (code : Code) (defined : List (Option Definition)) (store : Store) (frame : Frame) where
  abbrev i : Instance
  i = w.instance_of frame.func

  chosen : (n : ℕ) (first second : Place)
      → choice n (renamed_place i first) (renamed_place i second) ≡ renamed_place i (choice n first second)
  chosen zero first second = refl
  chosen (suc n) first second = refl

  executed_at : (here first : Place) (nest : Nest) (n : ℕ)
      → execute_at (record code { defined = defined }) store (record (renamed_frame_in i frame) { at = here }) (renamed_nest i nest) n
      ≡ renamed_execution w (execute_at code store (record frame { at = first }) (resolved_next i nest) n)
  executed_at here first Empty n = refl
  executed_at here first (Plain instr rest) n =
      plain_alike w code defined store (record frame { at = first }) here (place rest (n + 1)) (resolved_instr i instr)
  executed_at here first (InBlock ty body rest) n =
      ap
      (λ k. enters store (record (renamed_frame_in i frame) { at = here }) [] frame.values (block_arity ty)
      (place (renamed_nest i body) (n + 1)) (place (renamed_nest i rest) (n + 1 + k))
      (place (renamed_nest i rest) (n + 1 + k)))
      (size_alike i body)
  executed_at here first (InLoop ty body rest) n =
      ap
      (λ k. enters store (record (renamed_frame_in i frame) { at = here }) [] frame.values 0
      (place (renamed_nest i body) (n + 1)) (place (InLoop ty (renamed_nest i body) (renamed_nest i rest)) n)
      (place (renamed_nest i rest) (n + 1 + k)))
      (size_alike i body)
  executed_at here first (InIf ty body rest) n =
      takes_alike w code defined store (record frame { at = first }) here first (I32 ∷ []) _ _ (λ operands values.
      ap
      (λ k. enters store (record (renamed_frame_in i frame) { at = here }) operands values (block_arity ty)
      (choice (bits_at operands 0) (place (renamed_nest i body) (n + 1)) (place Empty (n + 1 + k)))
      (place (renamed_nest i rest) (n + 1 + k)) (place (renamed_nest i rest) (n + 1 + k)))
      (size_alike i body)
      ∙ ap
      (λ at. enters store (record (renamed_frame_in i frame) { at = here }) operands values (block_arity ty) at
      (place (renamed_nest i rest) (n + 1 + size body)) (place (renamed_nest i rest) (n + 1 + size body)))
      (chosen (bits_at operands 0) (place body (n + 1)) (place Empty (n + 1 + size body))))
  executed_at here first (InIfElse ty body more rest) n =
      takes_alike w code defined store (record frame { at = first }) here first (I32 ∷ []) _ _ (λ operands values.
      ap
      (λ k. enters store (record (renamed_frame_in i frame) { at = here }) operands values (block_arity ty)
      (choice (bits_at operands 0) (place (renamed_nest i body) (n + 1)) (place (renamed_nest i more) (n + 1 + k)))
      (place (renamed_nest i rest) (n + 1 + k + size (renamed_nest i more)))
      (place (renamed_nest i rest) (n + 1 + k + size (renamed_nest i more))))
      (size_alike i body)
      ∙ ap
      (λ k. enters store (record (renamed_frame_in i frame) { at = here }) operands values (block_arity ty)
      (choice (bits_at operands 0) (place (renamed_nest i body) (n + 1))
      (place (renamed_nest i more) (n + 1 + size body)))
      (place (renamed_nest i rest) (n + 1 + size body + k)) (place (renamed_nest i rest) (n + 1 + size body + k)))
      (size_alike i more)
      ∙ ap
      (λ at. enters store (record (renamed_frame_in i frame) { at = here }) operands values (block_arity ty) at
      (place (renamed_nest i rest) (n + 1 + size body + size more))
      (place (renamed_nest i rest) (n + 1 + size body + size more)))
      (chosen (bits_at operands 0) (place body (n + 1)) (place more (n + 1 + size body))))

pub executed : (w : World) (code : Code) (defined : List (Option Definition)) (store : Store) (frame : Frame)
    → execute (record code { defined = defined }) store (renamed_frame_in (w.instance_of frame.func) frame)
    ≡ renamed_execution w (execute code store (resolved_frame w frame))
executed w code defined store frame =
    let i = w.instance_of frame.func in
    executed_at w code defined store frame (renamed_place i frame.at)
    (place (resolved_next i frame.at.rest) frame.at.number) frame.at.rest frame.at.number

-- ---- steps

module _ (w : World) (d : List (Option Definition)) where
  abbrev code : Code
  code = w.program.code

  abbrev other : Code
  other = record code { defined = d }

  abbrev pub program : Program
  program = record w.program { code = other }

  ended : (store : Store) (counts : List ℕ) (e : SettleEnd)
      → progress_of store counts (renamed_settle_end w e) ≡ renamed_progress w (progress_of store counts e)
  ended store counts (Continues stack) = refl
  ended store counts (Finishes outcome) = refl
  ended store counts NoneHolds = refl

  settled_alike : (store : Store) (counts : List ℕ) (stack : List Activation) (results : List Val)
      → after_settling store counts (deliver (renamed_stack w stack) results)
      ≡ renamed_result w (after_settling store counts (deliver stack results))
  settled_alike store counts stack results =
      let s = deliver stack results in
      ap (after_settling store counts) (delivered w stack results)
      ∙ ap (step_result s.entries) (ended store counts s.next)

  acted_alike : (store : Store) (args : List Val) (action : Action)
      → perform other store args action ≡ perform code store args action
  acted_alike store args (actions.Write to bytes) = refl
  acted_alike store args (actions.Copy to source count) = refl
  acted_alike store args (actions.SetTable index func) = refl
  acted_alike store args (actions.SetGlobal global value) = refl
  acted_alike store args (actions.Grow by) = refl
  acted_alike store args (actions.GrowTable by) = refl
  acted_alike store args (actions.Call func given) = refl
  acted_alike store args (actions.CallTable index given) = by_table store.table
    where
      by_entry : (o : Option ℕ) → calls_entry other given o ≡ calls_entry code given o
      by_entry None = refl
      by_entry (Some func) = refl

      by_index : (o : Option (Option ℕ))
          → or_fault TableOutside o (calls_entry other given) ≡ or_fault TableOutside o (calls_entry code given)
      by_index None = refl
      by_index (Some entry) = by_entry entry

      by_table : (o : Option Table)
          → on o (λ table. or_fault TableOutside (slice_get table.entries index) (calls_entry other given))
          ≡ on o (λ table. or_fault TableOutside (slice_get table.entries index) (calls_entry code given))
      by_table None = refl
      by_table (Some table) = by_index (slice_get table.entries index)

  module _ (bodies : (func : ℕ) → definition other func ≡ option_map (renamed_definition (w.instance_of func)) (definition code func)) where
    entered : (store : Store) (counts : List ℕ) (func : ℕ) (args : List Val) (stack : List Activation)
        → enter_function other store counts func args (renamed_stack w stack)
        ≡ renamed_result w (enter_function code store counts func args stack)
    entered store counts func args stack =
        ap (λ body. enter_defined (signature code func) body store counts func args (renamed_stack w stack)) (bodies func)
        ∙ by (signature code func) (definition code func)
      where
        by : (ty : Option FuncType) (body : Option Definition)
            → enter_defined ty (option_map (renamed_definition (w.instance_of func)) body) store counts func args
            (renamed_stack w stack)
            ≡ renamed_result w (enter_defined ty body store counts func args stack)
        by None body = refl
        by (Some ty) None = refl
        by (Some ty) (Some body) = settled_alike store counts (InModule (frame_of func ty body args) ∷ stack) []

    called : (b : Bool) (store : Store) (counts : List ℕ) (func : ℕ) (args : List Val) (stack : List Activation)
        → call_function program b store counts func args (renamed_stack w stack)
        ≡ renamed_result w (call_function w.program b store counts func args stack)
    called true store counts func args stack = by (response_to w.program.answers func (slice_index counts func))
      where
        by : (o : Option Response)
            → answer_call o store counts func args (renamed_stack w stack)
            ≡ renamed_result w (answer_call o store counts func args stack)
        by None = refl
        by (Some response) =
            ap (after_entries (ImportCall func args ∷ []))
            (settled_alike store (slice_set counts func (slice_index counts func + 1))
            (InImport func args response.actions response.end ∷ stack) [])
    called false store counts func args stack =
        ap (after_entries (Enter func ∷ [])) (entered store counts func args stack)

    module _ (config : Config) where
      -- the configuration with the next instruction's indices resolved
      abbrev ready : Config
      ready = record config { stack = resolved_stack w config.stack }

      controlled : (frame : Frame) (below : List Activation) (c : Control)
          → after_control program (renamed_config w config) (renamed_frame w frame) (renamed_stack w below)
          (renamed_control w c)
          ≡ renamed_result w (after_control w.program ready (resolved_frame w frame) below c)
      controlled frame below (Goes store next) = settled_alike store config.counts (InModule next ∷ below) []
      controlled frame below (Calls waiting func args) =
          called (nat_lt func code.imported) config.store config.counts func args (InModule waiting ∷ below)
      controlled frame below (Returns results) =
          ap
          (λ entry. after_entries (entry ∷ [])
          (after_settling config.store config.counts (deliver (renamed_stack w below) results)))
          (entry_alike w frame.func results below)
          ∙ ap (after_entries (return_entry frame.func results below ∷ []))
          (settled_alike config.store config.counts below results)

      instructed : (frame : Frame) (below : List Activation) (e : Execution)
          → after_instruction program (renamed_config w config) (renamed_frame w frame) (renamed_stack w below)
          (renamed_execution w e)
          ≡ renamed_result w (after_instruction w.program ready (resolved_frame w frame) below e)
      instructed frame below (Did operands results found control) =
          ap (after_entries (Step frame.func frame.at.number operands results found ∷ []))
          (controlled frame below control)
      instructed frame below (Traps kind operands found) = refl
      instructed frame below NoRule = refl

      done : (stack : List Activation) (acted : ActionResult)
          → after_action program (renamed_config w config) (renamed_stack w stack) acted
          ≡ renamed_result w (after_action w.program ready stack acted)
      done stack (Changes store) = settled_alike store config.counts stack []
      done stack (Enters func args) =
          ap (after_entries (HostCall func args ∷ [])) (entered config.store config.counts func args stack)
      done stack (Fails kind) = refl
      done stack Unfit = refl

      by_stack : (stack : List Activation)
          → step_of program (renamed_config w config) (renamed_stack w stack)
          ≡ renamed_result w (step_of w.program ready (resolved_stack w stack))
      by_stack [] = refl
      by_stack (InModule frame ∷ below) =
          ap (after_instruction program (renamed_config w config) (renamed_frame w frame) (renamed_stack w below))
          (executed w code d config.store frame)
          ∙ instructed frame below (execute code config.store (resolved_frame w frame))
      by_stack (InMain [] ∷ below) = refl
      by_stack (InMain (action ∷ actions) ∷ below) =
          ap (after_action program (renamed_config w config) (renamed_stack w (InMain actions ∷ below)))
          (acted_alike config.store [] action)
          ∙ done (InMain actions ∷ below) (perform code config.store [] action)
      by_stack (InImport import args [] end ∷ below) = refl
      by_stack (InImport import args (action ∷ actions) end ∷ below) =
          ap (after_action program (renamed_config w config) (renamed_stack w (InImport import args actions end ∷ below)))
          (acted_alike config.store args action)
          ∙ done (InImport import args actions end ∷ below) (perform code config.store args action)

    stepped : (config : Config) → step program (renamed_config w config) ≡ renamed_result w (step_in w config)
    stepped config = by_stack config config.stack

    -- ---- runs

    gone_on : (meter : Meter) (k : ℕ) (at : Progress)
        → steps program meter k (renamed_progress w at) ≡ renamed_run w (steps_in w meter k at)
    gone_on meter zero at = refl
    gone_on meter (suc k) (Running config) =
        ap
        (λ s. run_after s.entries (weight meter (renamed_config w config)) (steps program meter k s.next))
        (stepped config)
        ∙ ap
        (λ turns. run_after (step_in w config).entries turns
        (steps program meter k (renamed_progress w (step_in w config).next)))
        (stack_weighed w meter config.stack)
        ∙ ap (run_after (step_in w config).entries (weight meter config)) (gone_on meter k (step_in w config).next)
    gone_on meter (suc k) (Finished outcome) = refl
    gone_on meter (suc k) (Faulted kind) = refl
    gone_on meter (suc k) Stuck = refl

    begun : (func : Option ℕ) (store : Store) (counts : List ℕ) (main : List Action)
        → start program func store counts main ≡ renamed_result w (start w.program func store counts main)
    begun None store counts main = settled_alike store counts (InMain main ∷ []) []
    begun (Some func) store counts main = by (nat_lt func code.imported)
      where
        by : (b : Bool)
            → start_with_call program b store counts func (InMain main ∷ [])
            ≡ renamed_result w (start_with_call w.program b store counts func (InMain main ∷ []))
        by true = settled_alike store counts (InMain main ∷ []) []
        by false = ap (after_entries (HostCall func [] ∷ [])) (entered store counts func [] (InMain main ∷ []))

    pub does_follow : DoesFollow w program
    does_follow = record { begins = begun; goes_on = gone_on }

pub runs_follow : RunsFollow
runs_follow w p realises =
    subst (λ q. DoesFollow w q) (sym realises.alike)
    (does_follow w p.code.defined (λ func. subst (λ (q : Program). definition q.code func
    ≡ option_map (renamed_definition (w.instance_of func)) (definition w.program.code func)) realises.alike
    (realises.bodies func)))
