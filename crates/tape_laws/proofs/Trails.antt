-- Trails: what holds at each moment of a run, given the functions and the calls that are open at that moment.
use Rattle.std.specs.Prelude.{◌≡◌, ℕ, ◌-◌, ◌<◌, ◌≤◌, List, [], ◌∷◌, ◌++◌, length, map, take, Option, Some, None, IfSome, Bool, true, false, cond, nat_lt, slice_get}
use Rattle.std.specs.List.{AllByRecursion}
use Rattle.wasm_syntax.specs.declared.values.Val.{Val}
use Rattle.wasm_syntax.specs.declared.values.ValType.{ValType}
use Rattle.wasm_syntax.specs.declared.signatures.FuncType.{FuncType}
use Rattle.wasm_syntax.specs.declared.signatures.GlobalType.{GlobalType}
use Rattle.wasm_syntax.specs.declared.instructions.Instr.TheVariants as instrs
use Rattle.wasm_syntax.specs.declared.modules.Module.{Module}
use Rattle.wasm_syntax.specs.Index.{imported_funcs, all_globals}
use Rattle.base.specs.declared.outcomes.Outcome.{Outcome}
use Rattle.base.specs.declared.outcomes.Outcome.TheVariants.{Ended, Trapped, HostTrapped}
use Rattle.trace_model.specs.declared.tapes.Origin.TheVariants.{Import, Back}
use Rattle.trace_model.specs.declared.tapes.Next.TheVariants.{Call, Return, End, Trap as ByTrap}
use Rattle.history_spec.specs.declared.entries.Entry.{Entry}
use Rattle.history_spec.specs.declared.entries.Entry.TheVariants.{HostCall, HostReturn, ImportCall, ImportReturn, Enter, Exit, Step, Trap, HostTrap}
use Rattle.history_spec.specs.Store.{Store}
use Rattle.history_spec.specs.Code.{code_of, signature}
use Rattle.history_spec.specs.Instantiation.{table_length}
use Rattle.history_spec.specs.Instruction.{bits_at}
use Rattle.record_replay_spec.specs.Observations.{Observation, Begins, Ends, WritesEntry, ReachesEntry, ResizesTable}
use Rattle.record_replay_spec.specs.Known.{Known, entry_of, entries_after, known_after_all}
use Rattle.record_replay_spec.specs.Changes.{with_changes}
use Rattle.type_safety.specs.Stores.{func_count}
use Rattle.type_safety.specs.Values.{AreValues}
use Rattle.tape_laws.proofs.Relation.{IsKnownOf, AreSeen}
use Rattle.record_replay_spec.specs.Hooks.{HookCall, renumbered_call}
use Rattle.record_replay_spec.specs.ReportedCalls.{WaitingCall, Moment, reported_by_step, reported_by_trap, waiting_after_step}
use Rattle.record_replay_spec.specs.Order.{HookedShape, OrderState, OrderFrame, InFunction, InCall, may_report, ordered_step}
use Rattle.record_replay_spec.specs.Logs.{notices_size, own_events}
use Rattle.tape_laws.specs.ReportedObservations.{is_mutable}
use Rattle.tape_laws.proofs.CallObservations.{seen_by, as_reported}

-- ---- open functions and calls

-- a function that was entered; or a call that waits, by the function's index or by the table: of an import that the
-- host does not answer yet, or of any function, whether that was entered; with the arguments
pub data Level : Type 0 where
  AtFunction : (func : ℕ) → Level
  AtImport : (direct : Bool) (callee : ℕ) (args : List Val) → Level
  AtCall : (direct : Bool) (callee : ℕ) (entered : Bool) (args : List Val) → Level

-- a call that begins, of an import or of a defined function
abbrev pub call_level : (imported direct : Bool) → (callee : ℕ) → (args : List Val) → Level
call_level true direct callee args = AtImport direct callee args
call_level false direct callee args = AtCall direct callee false args

-- the levels as frames in the order of hook calls
abbrev pub order_frame : Level → OrderFrame
order_frame (AtFunction func) = InFunction func
order_frame (AtImport direct callee args) = InCall direct (Some callee) false
order_frame (AtCall direct callee entered args) = InCall direct (Some callee) entered

abbrev pub order_frames : List Level → List OrderFrame
order_frames levels = map order_frame levels

-- the waiting calls, as hooks report them
abbrev pub waiting_calls : List Level → List WaitingCall
waiting_calls [] = []
waiting_calls (AtFunction func ∷ levels) = waiting_calls levels
waiting_calls (AtImport direct callee args ∷ levels) =
    record { callee = cond direct (Some callee) None; args = args } ∷ waiting_calls levels
waiting_calls (AtCall direct callee entered args ∷ levels) =
    record { callee = cond direct (Some callee) None; args = args } ∷ waiting_calls levels

-- control is at the host: nothing is open, or the call of one of the `n` imports
abbrev pub at_host : (n : ℕ) → List Level → Bool
at_host n [] = true
at_host n (AtFunction func ∷ levels) = false
at_host n (AtImport direct callee args ∷ levels) = false
at_host n (AtCall direct callee entered args ∷ levels) = nat_lt callee n

-- the topmost call is entered
abbrev pub with_top_entered : List Level → List Level
with_top_entered [] = []
with_top_entered (AtFunction func ∷ levels) = AtFunction func ∷ levels
with_top_entered (AtImport direct callee args ∷ levels) = AtCall direct callee true args ∷ levels
with_top_entered (AtCall direct callee entered args ∷ levels) = AtCall direct callee true args ∷ levels

-- control is within a function of the module
abbrev pub IsWithin : List Level → Type 0
IsWithin (AtFunction func ∷ levels) = Unit {0}
IsWithin levels = ⊥

-- ---- stores

-- a store has the values of another store for immutable globals
abbrev pub KeepsImmutables : List GlobalType → (store after : Store) → Type 0
KeepsImmutables globals store after =
    (at : ℕ) → is_mutable (slice_get globals at) ≡ false → slice_get after.globals at ≡ slice_get store.globals at

-- the known values of immutable globals are those that a store has
abbrev pub KnowsImmutables : List GlobalType → Known → Store → Type 0
KnowsImmutables globals known store =
    (at : ℕ) → is_mutable (slice_get globals at) ≡ false → known.global at ≡ slice_get store.globals at

-- ---- observations

-- an observation of a module of the form Core changes no table
abbrev pub IsOfCore : Observation → Type 0
IsOfCore (WritesEntry index func) = ⊥
IsOfCore (ResizesTable found left func) = ⊥
IsOfCore o = Unit {0}

-- ---- one moment

-- what holds after a moment, by the open levels, what is known, the store, and the remaining observations
abbrev pub Following : Type 1
Following = List Level → Known → Store → List Observation → Type 0

module _ (m : Module) (shape : HookedShape) where
  -- a function has a type, and values are of a part of it
  pub record IsTypedFor (func : ℕ) (part : FuncType → List ValType) (values : List Val) : Type 0 where
    pub ty : FuncType
    pub has_type : signature (code_of m) func ≡ Some ty
    pub are : AreValues (func_count m) (part ty) values

  -- the host calls a function
  pub record IsHostCall (levels : List Level) (known : Known) (store : Store) (left : List Observation) (moment : Moment) (func : ℕ)
      (args : List Val) (following : Following) : Type 0 where
    pub keeps : KeepsImmutables (all_globals m) store moment.after
    pub host : at_host (imported_funcs m) levels ≡ true
    pub defined : imported_funcs m ≤ func
    pub typed : IsTypedFor func (λ ty. ty.params) args
    pub later : List Observation
    pub observed : left ≡ Ends (Call func args) ∷ later
    pub follows : following (AtFunction func ∷ with_top_entered levels) known moment.after later

  -- the module enters a function that it called
  pub record IsEntered (levels : List Level) (known : Known) (store : Store) (left : List Observation) (moment : Moment) (func : ℕ)
      (following : Following) : Type 0 where
    pub same : moment.after ≡ store
    pub direct : Bool
    pub args : List Val
    pub below : List Level
    pub stands : levels ≡ AtCall direct func false args ∷ below
    pub defined : imported_funcs m ≤ func
    pub typed : IsTypedFor func (λ ty. ty.params) args
    pub follows : following (AtFunction func ∷ AtCall direct func true args ∷ below) known moment.after left

  -- a function returns to the host
  pub record IsHostReturn (levels : List Level) (known : Known) (store : Store) (left : List Observation) (moment : Moment) (func : ℕ)
      (following : Following) : Type 0 where
    pub keeps : KeepsImmutables (all_globals m) store moment.after
    pub below : List Level
    pub stands : levels ≡ AtFunction func ∷ below
    pub host : at_host (imported_funcs m) below ≡ true
    pub later : List Observation
    pub observed : left ≡ Begins Back ∷ later
    pub follows : following below known moment.after later

  -- a function returns to the module
  pub record IsExit (levels : List Level) (known : Known) (store : Store) (left : List Observation) (moment : Moment) (func : ℕ)
      (results : List Val) (following : Following) : Type 0 where
    pub same : moment.after ≡ store
    pub direct : Bool
    pub args : List Val
    pub below : List Level
    pub stands : levels ≡ AtFunction func ∷ AtCall direct func true args ∷ below
    pub defined : imported_funcs m ≤ func
    pub typed : IsTypedFor func (λ ty. ty.results) results
    pub within : IsWithin below
    pub follows : following below known moment.after left

  -- an import is called
  pub record IsImportCall (levels : List Level) (known : Known) (store : Store) (left : List Observation) (moment : Moment)
      (import : ℕ) (following : Following) : Type 0 where
    pub keeps : KeepsImmutables (all_globals m) store moment.after
    pub direct : Bool
    pub args : List Val
    pub below : List Level
    pub stands : levels ≡ AtImport direct import args ∷ below
    pub imported : nat_lt import (imported_funcs m) ≡ true
    pub later : List Observation
    pub observed : left ≡ Begins (Import import) ∷ later
    pub follows : following (AtCall direct import false args ∷ below) known moment.after later

  -- an import returns
  pub record IsImportReturn (levels : List Level) (known : Known) (store : Store) (left : List Observation) (moment : Moment)
      (import : ℕ) (results : List Val) (following : Following) : Type 0 where
    pub keeps : KeepsImmutables (all_globals m) store moment.after
    pub direct : Bool
    pub entered : Bool
    pub args : List Val
    pub below : List Level
    pub stands : levels ≡ AtCall direct import entered args ∷ below
    pub imported : nat_lt import (imported_funcs m) ≡ true
    pub typed : IsTypedFor import (λ ty. ty.results) results
    pub later : List Observation
    pub observed : left ≡ Ends (Return (slice_get results 0)) ∷ later
    pub within : IsWithin below
    pub follows : following below known moment.after later

  -- a hook call that changes no frames, and that is in order if control is in a function and no value is pending
  pub record IsReportable (call : HookCall) : Type 0 where
    pub ordered : (order : OrderState) → may_report order ≡ true
        → ordered_step shape order (renumbered_call (imported_funcs m) call) ≡ Some order
    pub own : (n : ℕ) (pending : List Val) (view : Store) → own_events n pending call.kind call.args view ≡ []
    pub quiet : notices_size call.kind ≡ false

  abbrev pub AreReportable : List HookCall → Type 0
  AreReportable = AllByRecursion IsReportable

  -- how an instruction goes on: it stays in its function, or it calls a function by its index or by the table
  pub data Leads (levels after : List Level) (known : Known) (items : List Observation) (moment : Moment)
      (operands results : List Val) : Type 0 where
    Stays : (stands : after ≡ levels)
        (waits : (waiting : List WaitingCall) → waiting_after_step moment.instr operands waiting ≡ waiting)
        (reportable : AreReportable (reported_by_step (all_globals m) moment.instr operands results moment))
        (entries : (known_after_all known items).entries ≡ known.entries)
        → Leads levels after known items moment operands results
    Direct : (callee : ℕ) (calls : moment.instr ≡ Some (instrs.Call callee))
        (stands : after ≡ call_level (nat_lt callee (imported_funcs m)) true callee operands ∷ levels) (there : callee < func_count m)
        (none : items ≡ [])
        → Leads levels after known items moment operands results
    Indirect : (t callee : ℕ) (calls : moment.instr ≡ Some (instrs.CallIndirect t))
        (stands : after
        ≡ call_level (nat_lt callee (imported_funcs m)) false callee (take (length operands - 1) operands) ∷ levels)
        (there : callee < func_count m)
        (entry : entry_of moment.before.table (bits_at operands (length operands - 1)) ≡ Some callee)
        (entries : (known_after_all known items).entries
        ≡ entries_after known.entries
        (ReachesEntry (bits_at operands (length operands - 1)) (table_length moment.before.table)))
        → Leads levels after known items moment operands results

  -- an instruction is executed
  pub record IsStep (levels : List Level) (known : Known) (store : Store) (left : List Observation) (moment : Moment)
      (func : ℕ) (operands results : List Val) (following : Following) : Type 0 where
    pub begins : moment.before ≡ store
    pub below : List Level
    pub stands : levels ≡ AtFunction func ∷ below
    pub items : List Observation
    pub later : List Observation
    pub observed : left ≡ items ++ later
    pub of : IsKnownOf known moment.before
    pub are : AreSeen known moment.before items
    pub core : AllByRecursion IsOfCore items
    pub observes : seen_by shape (imported_funcs m) (all_globals m)
        (reported_by_step (all_globals m) moment.instr operands results moment)
        ≡ as_reported shape (imported_funcs m) (all_globals m) items
    pub changed : moment.after ≡ with_changes moment.before items
    pub after : List Level
    pub leads : Leads levels after known items moment operands results
    pub follows : following after (known_after_all known items) moment.after later

  -- the hook calls of a trap: calls that change no frames, or a call by the table whose entry, if any, is a function
  pub data ReportsTrap (moment : Moment) (operands : List Val) : Type 0 where
    Quiet : (reportable : AreReportable (reported_by_trap moment.instr operands moment)) → ReportsTrap moment operands
    AtEntry : (t : ℕ) (calls : moment.instr ≡ Some (instrs.CallIndirect t))
        (entry : IfSome (entry_of moment.before.table (bits_at operands (length operands - 1)))
        (λ callee. callee < func_count m))
        → ReportsTrap moment operands

  -- an instruction traps, and nothing follows
  pub record IsTrap (levels : List Level) (known : Known) (store : Store) (left : List Observation)
      (outcome : Option Outcome) (later : List Moment) (moment : Moment) (func : ℕ) (operands : List Val) : Type 0 where
    pub begins : moment.before ≡ store
    pub below : List Level
    pub stands : levels ≡ AtFunction func ∷ below
    pub of : IsKnownOf known moment.before
    pub are : AreSeen known moment.before left
    pub core : AllByRecursion IsOfCore left
    pub observes : seen_by shape (imported_funcs m) (all_globals m) (reported_by_trap moment.instr operands moment)
        ≡ as_reported shape (imported_funcs m) (all_globals m) left
    pub reports : ReportsTrap moment operands
    pub last : later ≡ []
    pub over : outcome ≡ Some Trapped

  -- the host traps
  pub record IsHostTrap (levels : List Level) (left : List Observation) (outcome : Option Outcome)
      (later : List Moment) : Type 0 where
    pub host : at_host (imported_funcs m) levels ≡ true
    pub observed : left ≡ Ends ByTrap ∷ []
    pub last : later ≡ []
    pub over : outcome ≡ Some HostTrapped

  -- ---- all moments

  -- the end of a trail
  abbrev pub IsTrailEnd : List Level → List Observation → Option Outcome → Type 0
  IsTrailEnd levels left None = left ≡ []
  IsTrailEnd levels left (Some Ended) = (levels ≡ []) × (left ≡ Ends End ∷ [])
  IsTrailEnd levels left (Some outcome) = ⊥

  abbrev pub IsAtEntry : List Level → Known → Store → List Observation → Option Outcome → List Moment → Moment
      → Entry → Following → Type 0
  IsAtEntry levels known store left outcome later moment (HostCall func args) following =
      IsHostCall levels known store left moment func args following
  IsAtEntry levels known store left outcome later moment (Enter func) following =
      IsEntered levels known store left moment func following
  IsAtEntry levels known store left outcome later moment (HostReturn func results) following =
      IsHostReturn levels known store left moment func following
  IsAtEntry levels known store left outcome later moment (Exit func results) following =
      IsExit levels known store left moment func results following
  IsAtEntry levels known store left outcome later moment (ImportCall import args) following =
      IsImportCall levels known store left moment import following
  IsAtEntry levels known store left outcome later moment (ImportReturn import results) following =
      IsImportReturn levels known store left moment import results following
  IsAtEntry levels known store left outcome later moment (Step func number operands results found) following =
      IsStep levels known store left moment func operands results following
  IsAtEntry levels known store left outcome later moment (Trap func number kind operands found) following =
      IsTrap levels known store left outcome later moment func operands
  IsAtEntry levels known store left outcome later moment HostTrap following = IsHostTrap levels left outcome later

  -- the remaining moments of a run, with its outcome if it has one
  abbrev pub IsTrail : Option Outcome → List Moment → Following
  IsTrail outcome [] levels known store left = IsTrailEnd levels left outcome
  IsTrail outcome (moment ∷ later) levels known store left =
      IsAtEntry levels known store left outcome later moment moment.entry (IsTrail outcome later)
