-- What the steps of an instrumented run need of inserted code and of the instrumented program.
use Rattle.std.specs.Prelude.{◌≡◌, ℕ, ◌+◌, ◌<◌, ◌≤◌, List, [], ◌++◌, length, map, Option, Some, true, nat_lt, slice_get, option_map}
use Rattle.wasm_syntax.specs.declared.values.ValType.{ValType}
use Rattle.wasm_syntax.specs.declared.values.Val.{Val}
use Rattle.wasm_syntax.specs.declared.signatures.FuncType.{FuncType}
use Rattle.wasm_syntax.specs.declared.signatures.GlobalType.{GlobalType}
use Rattle.wasm_syntax.specs.declared.instructions.Instr.{Instr}
use Rattle.wasm_syntax.specs.declared.instructions.Instr.TheVariants as instrs
use Rattle.wasm_syntax.specs.declared.modules.Module.{Module}
use Rattle.wasm_syntax.specs.Encoding.Forms.{IsCoreInstr}
use Rattle.wasm_syntax.specs.Index.{imported_funcs, all_globals}
use Rattle.wasm_syntax.specs.Nest.{Nest, Empty, Plain}
use Rattle.wasm_syntax.specs.Typing.{is_number}
use Rattle.wasm_syntax.specs.Validity.{IsFuncType}
use Rattle.host_script.specs.declared.scripts.Action.{Action}
use Rattle.host_script.specs.declared.scripts.Answer.{Answer}
use Rattle.history_spec.specs.Action.{ActionResult, Changes, Enters, Fails, Unfit, perform}
use Rattle.history_spec.specs.Store.{Store}
use Rattle.history_spec.specs.Code.{Code, Definition, code_of, signature, definition}
use Rattle.history_spec.specs.Configuration.{Place, place, Frame, Activation, push_all}
use Rattle.history_spec.specs.Instruction.{Goes, Calls, Returns, Execution, Did, Traps, NoRule, block_arity, execute_plain, execute_at}
use Rattle.history_spec.specs.Run.{Meter}
use Rattle.history_spec.specs.Step.{Program, frame_of, enter_function, response_to}
use Rattle.type_safety.specs.Stores.{func_count, global_types}
use Rattle.type_safety.specs.Values.{AreValues}
use Rattle.record_replay_spec.specs.Hooks.{renumber, renumbered_view, renumbered_call}
use Rattle.record_replay_spec.specs.HookedRuns.{renumbered_action, renumbered_response}
use Rattle.record_replay_spec.specs.Insertions.{Site, imports_at, inserted_before, inserted_after, after_call}
use Rattle.record_replay_spec.specs.Instrumented.{renumbered, instrumented_nest}
use Rattle.record_replay_spec.specs.ReportedCalls.{reported_before, reported_after, reported_values, reported_over, reported_enter}
use Rattle.instrumented_run_laws.proofs.Before as before
use Rattle.instrumented_run_laws.proofs.Before.{operands_of, IsRule}
use Rattle.instrumented_run_laws.proofs.Branches as branches
use Rattle.instrumented_run_laws.proofs.Leads as leads
use Rattle.instrumented_run_laws.proofs.Pieces.{HasHooks}
use Rattle.instrumented_run_laws.proofs.Relation.{Beside, hooked_labels, over_piece, frame_beside, IsBeside, IsWeighed, AreWeighed, AreCounted}
use Rattle.instrumented_run_laws.proofs.Scratch.{Scratch}
use Rattle.instrumented_run_laws.proofs.Straight as straight
use Rattle.instrumented_run_laws.proofs.Straight.{IsStraight}

-- the values of globals have their types, which are number types
pub record HasGlobals (m : Module) (store : Store) : Type 0 where
  pub values : AreValues (func_count m) (global_types m) store.globals
  pub numbers : (x : ℕ) (g : GlobalType) → slice_get (all_globals m) x ≡ Some g → is_number g.ty ≡ true

abbrev pub IsNoReturn : Instr → Type 0
IsNoReturn instrs.Return = ⊥
IsNoReturn i = Unit {0}

abbrev pub IsCallInstr : Instr → Type 0
IsCallInstr (instrs.Call func) = Unit {0}
IsCallInstr (instrs.CallIndirect ty) = Unit {0}
IsCallInstr i = ⊥

-- a nest that begins with a block
abbrev pub IsBlock : Nest → Type 0
IsBlock Empty = ⊥
IsBlock (Plain i rest) = ⊥
IsBlock nest = Unit {0}

abbrev pub IsBranch : Instr → Type 0
IsBranch (instrs.Br l) = Unit {0}
IsBranch (instrs.BrIf l) = Unit {0}
IsBranch (instrs.BrTable labels l) = Unit {0}
IsBranch i = ⊥

-- the result of an action in the instrumented run is that in the original's, with functions renumbered
abbrev pub IsActedAlike : (n : ℕ) → ActionResult → ActionResult → Type 0
IsActedAlike n (Changes store) second = second ≡ Changes (renumbered_view n store)
IsActedAlike n (Enters func args) second = second ≡ Enters (renumber n func) args
IsActedAlike n (Fails kind) second = second ≡ Fails kind
IsActedAlike n Unfit second = Unit {0}

-- if the first execution calls a function, the second calls the renumbered function, and waits at a place
abbrev pub IsCalledAlike : (n : ℕ) (outer : Frame) (more : List Val) → Place → Execution → Execution → Type 0
IsCalledAlike n outer more after NoRule second = Unit {0}
IsCalledAlike n outer more after (Traps kind operands found) second =
    (other : Option ℕ) × (second ≡ Traps kind operands other)
IsCalledAlike n outer more after (Did operands results found (Calls waiting func args)) second =
    (other : Option ℕ)
    × (second ≡ Did operands results other (Calls (straight.larger n outer more waiting after) (renumber n func) args))
IsCalledAlike n outer more after (Did operands results found (Goes store frame)) second = ⊥
IsCalledAlike n outer more after (Did operands results found (Returns given)) second = ⊥

-- ---- inserted code

module _ (m : Module) (program : Program) (meter : Meter) where
  -- if a function was entered, the instrumented run reaches the original's body
  pub record EntersBody (store : Store) (counts : List ℕ) (func : ℕ) (ty : FuncType) (d : Definition) (args : List Val)
      (others : List Activation) : Type 0 where
    pub after : List ℕ
    pub b : Beside
    pub is_beside : IsBeside m meter (frame_of func ty d args) [] b
    pub counted : AreCounted (imported_funcs m) counts after
    pub led : leads.Leads (imported_funcs m) program meter
        (enter_function program.code (renumbered_view (imported_funcs m) store) counts (renumber (imported_funcs m)
        func)
        args others).next
        (leads.settled (imported_funcs m) program meter (renumbered_view (imported_funcs m) store) after others
        (frame_beside m meter (frame_of func ty d args) [] b))
        0 (map (renumbered_call (imported_funcs m)) (reported_enter func args store))

  pub record HasPieces (has : HasHooks (imported_funcs m) program meter) : Type 0 where
    pub before_reported : (s : Site) (same : s.m ≡ m) (has : HasHooks (imports_at s) program meter) (store : Store)
        (below : List Activation) (outer : Frame) (own : List Val) (whole : s.locals ≡ length own)
        (counts : List ℕ) (x : Scratch) (code : Code) (frame : Frame) (next : Place) (i : Instr)
        → IsCoreInstr i → IsNoReturn i → (types : List ValType) (funcs : ℕ) → AreValues funcs types frame.values
        → HasGlobals s.m store → IsRule (execute_plain code store frame next i)
        → before.Reports s program meter has store below outer own whole counts x frame.values (inserted_before s i)
        (reported_before i (operands_of (execute_plain code store frame next i)) store)
    pub over_reported : (s : Site) (has : HasHooks (imports_at s) program meter) (store : Store)
        (below : List Activation) (outer : Frame) (own : List Val) (whole : s.locals ≡ length own)
        (counts : List ℕ) (x : Scratch) (callee : Option ℕ) (ty : FuncType) (results values : List Val) (funcs : ℕ)
        → IsFuncType ty → AreValues funcs ty.results results
        → before.Reports s program meter has store below outer own whole counts x (push_all results values)
        (after_call s (over_piece s callee) ty.results) (reported_values store results ++ reported_over callee store)
    pub after_reported : (s : Site) (same : s.m ≡ m) (has : HasHooks (imports_at s) program meter) (first after : Store)
        (below : List Activation) (outer : Frame) (own : List Val) (whole : s.locals ≡ length own)
        (counts : List ℕ) (x : Scratch) (code : Code) (frame left : Frame) (next : Place) (i : Instr)
        (operands results : List Val) (found : Option ℕ)
        → IsStraight i → execute_plain code first frame next i ≡ Did operands results found (Goes after left)
        → HasGlobals s.m first
        → before.Reports s program meter has after below outer own whole counts x left.values (inserted_after s i)
        (reported_after (all_globals s.m) i results after)
    pub enters_body : (store : Store) (counts : List ℕ) (func : ℕ) (ty : FuncType) (d : Definition) (args : List Val)
        (others : List Activation)
        → signature (code_of m) func ≡ Some ty → definition (code_of m) func ≡ Some d → imported_funcs m ≤ func
        → IsFuncType ty → AreValues (func_count m) ty.params args
        → EntersBody store counts func ty d args others
    pub moved_block : (s : Site) (ty : FuncType) (last : ℕ) (other frame : Frame) (store : Store) (code second : Code)
        (numbers : List (ℕ × ℕ)) (nest : Nest) (at number : ℕ) → IsBlock nest
        → frame.arity ≡ block_arity (slice_get ty.results 0)
        → AreWeighed meter s frame.labels numbers → other.values ≡ frame.values → IsWeighed meter s nest number
        → branches.IsMoved meter s ty last other (execute_at code store frame nest at)
        (execute_at second (renumbered_view (imports_at s) store)
        (record other { labels = hooked_labels s ty frame.labels numbers last }) (instrumented_nest s nest) number)
    pub moved_branch : (s : Site) (ty : FuncType) (last : ℕ) (other frame : Frame) (store : Store) (code second : Code)
        (numbers : List (ℕ × ℕ)) (i : Instr) (rest : Nest) (at number : ℕ) → IsBranch i
        → frame.arity ≡ block_arity (slice_get ty.results 0)
        → AreWeighed meter s frame.labels numbers → other.values ≡ frame.values → IsWeighed meter s rest (number + 1)
        → branches.IsMoved meter s ty last other (execute_plain code store frame (place rest (at + 1)) i)
        (execute_plain second (renumbered_view (imports_at s) store)
        (record other { labels = hooked_labels s ty frame.labels numbers last })
        (place (instrumented_nest s rest) (number + 1)) i)
    pub called_alike : (outer : Frame) (more : List Val) (store : Store) (frame : Frame) (next here after : Place)
        (i : Instr) → IsCallInstr i
        → IsCalledAlike (imported_funcs m) outer more after (execute_plain (code_of m) store frame next i)
        (execute_plain program.code (renumbered_view (imported_funcs m) store)
        (straight.larger (imported_funcs m) outer more frame here) after (renumbered (imported_funcs m) i))
    pub acted_alike : (store : Store) (args : List Val) (action : Action)
        → IsActedAlike (imported_funcs m) (perform (code_of m) store args action)
        (perform program.code (renumbered_view (imported_funcs m) store) args
        (renumbered_action (imported_funcs m) action))

-- ---- the instrumented program

-- the facts about an instrumented program, for the original under the answers of a script
pub record HasProgram (m : Module) (answers : List (Option Answer)) (program : Program) : Type 0 where
  pub own : (func : ℕ) → nat_lt (renumber (imported_funcs m) func) program.code.imported ≡ nat_lt func (imported_funcs
      m)
  pub answered : (import number : ℕ) → import < imported_funcs m
      → response_to program.answers import number
      ≡ option_map (renumbered_response (imported_funcs m)) (response_to answers import number)
