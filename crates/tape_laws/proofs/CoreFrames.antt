-- The run of a module of the form Core executes instructions of that form alone.
use Rattle.std.proofs.Common.{◌≡◌, ℕ, zero, suc, ◌+◌, ◌-◌, List, [], ◌∷◌, ◌++◌, length, take, map, Option, Some, None, Bool, true, false, cond, nat_lt, slice_get, slice_index, option_to_list, refl, sym, ap, ◌∙◌, subst, arith, length-append}
use Rattle.std.specs.Prelude.{option_map, option_and_then}
use Rattle.std.specs.Option.{option_flatten}
use Rattle.std.specs.List.{AllByRecursion, slice_index_or}
use Rattle.std.proofs.lemmas.Option.{none-some, same_Some}
use Rattle.wasm_syntax.specs.declared.values.Val.{Val}
use Rattle.wasm_syntax.specs.declared.values.ValType.{ValType}
use Rattle.wasm_syntax.specs.declared.values.ValType.TheVariants.{I32}
use Rattle.wasm_syntax.specs.declared.signatures.FuncType.{FuncType}
use Rattle.wasm_syntax.specs.declared.instructions.Instr.{Instr}
use Rattle.wasm_syntax.specs.declared.instructions.Instr.TheVariants as instrs
use Rattle.wasm_syntax.specs.declared.modules.Func.{Func}
use Rattle.wasm_syntax.specs.declared.modules.Module.{Module}
use Rattle.wasm_syntax.specs.Encoding.Forms.{IsCoreInstr, AreCoreInstrs, IsCoreModule}
use Rattle.wasm_syntax.specs.Nest.{Nest, Empty, Plain, InBlock, InLoop, InIf, InIfElse, nest_of}
use Rattle.type_safety.specs.Frames.{AllPlain}
use Rattle.type_safety.proofs.Bodies.{all_in_body}
use Rattle.wasm_syntax.specs.Alike.{same_signature}
use Rattle.wasm_syntax.specs.Opcodes.{Access, load_of, store_of, numeric_shape}
use Rattle.wasm_syntax.proofs.Nests.{body_of_nest}
use Rattle.record_replay_spec.specs.Known.{entry_of}
use Rattle.record_replay_spec.specs.Observations.{bits_from_top}
use Rattle.record_replay_spec.proofs.Operands.{AreOperands, popped, bits_same}
use Rattle.record_replay_spec.specs.ReportedCalls.{next_of_nest}
use Rattle.host_script.specs.declared.scripts.Action.{Action}
use Rattle.host_script.specs.declared.scripts.Response.{Response}
use Rattle.host_script.specs.declared.scripts.ResponseEnd.TheVariants.{Return, Trap as EndsInTrap}
use Rattle.history_spec.specs.Store.{Store, Memory, Table}
use Rattle.history_spec.specs.Code.{Code, Definition, definition_of, code_of, signature, definition}
use Rattle.history_spec.specs.Configuration.{Place, place, Label, Frame, Activation, InModule, InMain, InImport, Config, topmost, Point, leave, with_results}
use Rattle.history_spec.specs.Instruction.{Goes, Calls, Returns, Execution, Did, Traps, NoRule, on, pop, bits_at, choice, gives_in, gives, with_local, calls, enters, block_arity, to_label, to_caller, branch_to, calls_if, calls_entry, load_result, store_result, grow_result, numeric_result, type_of_top, execute_plain, execute_at, execute}
use Rattle.history_spec.specs.Numeric.{NumericValue, Computed, Undefined, Unsupported}
use Rattle.history_spec.specs.Action.{ActionResult, Changes, Enters, Fails, Unfit, perform}
use Rattle.history_spec.specs.Settle.{AtEnd, Within, Gives, TooFew, at_end, SettleEnd, Continues, Finishes, NoRule as NoneHolds, return_from, deliver}
use Rattle.history_spec.specs.Step.{Program, Progress, Running, progress_of, after_settling, frame_of, enter_defined, enter_function, response_to, answer_call, call_function, after_instruction, after_action, step, step_of, start, start_with_call}

-- ---- bodies

abbrev pub CoreNest : Nest → Type 0
CoreNest = AllPlain IsCoreInstr

core_body : (body : List Instr) → AreCoreInstrs body → (nest : Nest) → nest_of body ≡ Some nest → CoreNest nest
core_body body core nest h = all_in_body IsCoreInstr nest body core (body_of_nest nest body h)

core_nest : (o : Option Nest) (f : Nest → Definition) (d : Definition) → ((nest : Nest) → (f nest).body ≡ nest)
    → ((nest : Nest) → o ≡ Some nest → CoreNest nest) → option_map f o ≡ Some d → CoreNest d.body
core_nest None f d same core h = absurd (none-some d h)
core_nest (Some nest) f d same core h =
    subst CoreNest (sym (same nest) ∙ ap (λ (x : Definition). x.body) (same_Some (f nest) d h)) (core nest refl)

core_defined : (funcs : List Func) (i : ℕ) → AllByRecursion (λ func. AreCoreInstrs func.body) funcs → (d : Definition)
    → option_and_then (λ d. d) (slice_get (map definition_of funcs) i) ≡ Some d → CoreNest d.body
core_defined [] i core d h = cc
core_defined (f ∷ funcs) zero core d h =
    core_nest (nest_of f.body) _ d (λ nest. refl) (λ nest is. core_body f.body core.0 nest is) h
core_defined (f ∷ funcs) (suc i) core d h = core_defined funcs i core.1 d h

pub core_definition : (m : Module) → IsCoreModule m → (func : ℕ) (d : Definition)
    → definition (code_of m) func ≡ Some d → CoreNest d.body
core_definition m core func d h = go (nat_lt func (code_of m).imported) h
  where
    go : (b : Bool)
        → cond b None (option_and_then (λ d. d) (slice_get (code_of m).defined (func - (code_of m).imported)))
        ≡ Some d → CoreNest d.body
    go true h = absurd (none-some d h)
    go false h = core_defined m.funcs (func - (code_of m).imported) core.funcs d h

-- ---- activations

abbrev pub CoreLabels : List Label → Type 0
CoreLabels [] = Unit {0}
CoreLabels (label ∷ labels) =
    CoreNest label.target.rest × CoreNest label.after_block.rest × CoreLabels labels

pub record CoreFrame (frame : Frame) : Type 0 where
  pub rest : CoreNest frame.at.rest
  pub labels : CoreLabels frame.labels

abbrev pub CoreStack : List Activation → Type 0
CoreStack [] = Unit {0}
CoreStack (InModule frame ∷ below) = CoreFrame frame × CoreStack below
CoreStack (InMain actions ∷ below) = CoreStack below
CoreStack (InImport import args actions «end» ∷ below) = CoreStack below

record CorePoint (p : Point) : Type 0 where
  pub rest : CoreNest p.at.rest
  pub labels : CoreLabels p.labels

core_left : (labels : List Label) (values : List Val) (rest : Nest) (number : ℕ) → CoreLabels labels → CoreNest rest
    → CorePoint (leave labels values rest number)
core_left [] values rest number l n = record { rest = n; labels = tt }
core_left (label ∷ labels) values Empty number l n =
    core_left labels (values ++ label.below) label.after_block.rest label.after_block.number l.2 l.1
core_left (label ∷ labels) values rest number l n = record { rest = n; labels = l }

pub core_results : (frame : Frame) (results : List Val) → CoreFrame frame → CoreFrame (with_results frame results)
core_results frame results core =
    let p = core_left frame.labels _ frame.at.rest frame.at.number core.labels core.rest in
    record { rest = p.rest; labels = p.labels }

-- ---- instructions

-- the instruction calls no function
abbrev pub IsNoCall : Option Instr → Type 0
IsNoCall (Some (instrs.Call func)) = ⊥
IsNoCall (Some (instrs.CallIndirect t)) = ⊥
IsNoCall i = Unit {0}

-- the instruction calls no function by its index
abbrev pub IsNotDirect : Option Instr → Type 0
IsNotDirect (Some (instrs.Call func)) = ⊥
IsNotDirect i = Unit {0}

-- a call by the table, with its index above the arguments
pub record IsIndirect (store : Store) (values operands : List Val) (func : ℕ) (args : List Val) : Type 0 where
  pub given : args ≡ take (length operands - 1) operands
  pub top : bits_at operands (length operands - 1) ≡ bits_from_top values 0
  pub entry : entry_of store.table (bits_at operands (length operands - 1)) ≡ Some func

-- the function and the arguments of a call
abbrev pub CallsAs : Store → (values : List Val) → Option Instr → (operands : List Val) → (func : ℕ)
    → (args : List Val) → Type 0
CallsAs store values (Some (instrs.Call callee)) operands func args = (callee ≡ func) × (args ≡ operands)
CallsAs store values (Some (instrs.CallIndirect t)) operands func args = IsIndirect store values operands func args
CallsAs store values i operands func args = ⊥

-- activations keep the form Core, and a call is the one that its instruction determines
abbrev pub KeepsCore : Store → (values : List Val) → Option Instr → Execution → Type 0
KeepsCore store values i (Did operands results found (Goes left next)) = CoreFrame next × IsNoCall i
KeepsCore store values i (Did operands results found (Calls waiting func args)) =
    CoreFrame waiting × CallsAs store values i operands func args
KeepsCore store values i (Did operands results found (Returns given)) = IsNoCall i
KeepsCore store values i (Traps kind operands found) = IsNotDirect i
KeepsCore store values i NoRule = Unit {0}

pub record Keeps (store : Store) (values : List Val) (i : Option Instr) (e : Execution) : Type 0 where
  pub kept : KeepsCore store values i e

on_keeps : {X : Type 0} (store : Store) (values : List Val) (i : Option Instr) (o : Option X) (go : X → Execution)
    → ((x : X) → o ≡ Some x → Keeps store values i (go x)) → Keeps store values i (on o go)
on_keeps store values i None go each = record { kept = tt }
on_keeps store values i (Some x) go each = each x refl

not_direct : (i : Option Instr) → IsNoCall i → IsNotDirect i
not_direct None n = tt
not_direct (Some (instrs.Call func)) n = n
not_direct (Some i) n = tt

module _ (code : Code) (store : Store) (frame : Frame) (core : CoreFrame frame) where
  module _ (i : Option Instr) (none : IsNoCall i) where
    caller_keeps : (operands : List Val) (o : Option (List Val)) → Keeps store frame.values i (to_caller operands o)
    caller_keeps operands None = record { kept = tt }
    caller_keeps operands (Some results) = record { kept = none }

    label_keeps : (operands : List Val) (o : Option (List Val)) (labels : List Label) (label : Label)
        → CoreLabels labels → CoreNest label.target.rest
        → Keeps store frame.values i (to_label store frame operands o labels label)
    label_keeps operands None labels label l n = record { kept = tt }
    label_keeps operands (Some carried) labels label l n =
        record { kept = (record { rest = n; labels = l }, none) }

    branch_keeps : (operands values : List Val) (labels : List Label) (l : ℕ) → CoreLabels labels
        → Keeps store frame.values i (branch_to store frame operands values labels l)
    branch_keeps operands values [] zero c = caller_keeps operands (topmost frame.arity values)
    branch_keeps operands values [] (suc l) c = record { kept = tt }
    branch_keeps operands values (label ∷ labels) zero c =
        label_keeps operands (topmost label.arity values) labels label c.2 c.0
    branch_keeps operands values (label ∷ labels) (suc l) c = branch_keeps operands values labels l c.2

    choice_keeps : (n : ℕ) (a b : Execution) → Keeps store frame.values i a → Keeps store frame.values i b → Keeps store frame.values i (choice n a b)
    choice_keeps zero a b x y = y
    choice_keeps (suc n) a b x y = x

    module _ (next : Place) (rest : CoreNest next.rest) where
      going : (s : Store) (operands others results : List Val) (found : Option ℕ)
          → Keeps store frame.values i (gives_in s frame next operands others results found)
      going s operands others results found =
          record { kept = (record { rest = rest; labels = core.labels }, none) }

      local_keeps : (s : Store) (x : ℕ) (value : Val) (operands others results : List Val)
          → Keeps store frame.values i (gives s (with_local frame x value) next operands others results)
      local_keeps s x value operands others results =
          record { kept = (record { rest = rest; labels = core.labels }, none) }

      load_keeps : (memory : Memory) (access : Access) (operands others : List Val) (o : Option (List ℕ))
          → Keeps store frame.values i (load_result store frame next memory access operands others o)
      load_keeps memory access operands others None = record { kept = not_direct i none }
      load_keeps memory access operands others (Some bytes) = going _ _ _ _ _

      store_keeps : (memory : Memory) (operands others : List Val) (o : Option (List ℕ))
          → Keeps store frame.values i (store_result store frame next memory operands others o)
      store_keeps memory operands others None = record { kept = not_direct i none }
      store_keeps memory operands others (Some bytes) = going _ _ _ _ _

      grow_keeps : (memory : Memory) (operands others : List Val) (o : Option Memory)
          → Keeps store frame.values i (grow_result store frame next memory operands others o)
      grow_keeps memory operands others None = going _ _ _ _ _
      grow_keeps memory operands others (Some larger) = going _ _ _ _ _

      numeric_keeps : (ty : ValType) (operands others : List Val) (v : NumericValue)
          → Keeps store frame.values i (numeric_result store frame next ty operands others v)
      numeric_keeps ty operands others (Computed bits) = going _ _ _ _ _
      numeric_keeps ty operands others (Undefined kind) = record { kept = not_direct i none }
      numeric_keeps ty operands others Unsupported = record { kept = tt }

  module _ (next : Place) (rest : CoreNest next.rest) where
    called : (func : ℕ) (operands others : List Val)
        → Keeps store frame.values (Some (instrs.Call func)) (calls frame next operands others None func operands)
    called func operands others =
        record { kept = (record { rest = rest; labels = core.labels }, (refl, refl)) }

    call_if_keeps : (t : ℕ) (b : Bool) (operands others : List Val) (func : ℕ) (args : List Val)
        → IsIndirect store frame.values operands func args
        → Keeps store frame.values (Some (instrs.CallIndirect t)) (calls_if b frame next operands others func args)
    call_if_keeps t true operands others func args is =
        record { kept = (record { rest = rest; labels = core.labels }, is) }
    call_if_keeps t false operands others func args is = record { kept = tt }

    call_entry_keeps : (t : ℕ) (ty : FuncType) (table : Table) → store.table ≡ Some table
        → (operands others : List Val) → AreOperands (ty.params ++ I32 ∷ []) frame.values operands
        → (o : Option (Option ℕ)) → slice_get table.entries (bits_at operands (length ty.params)) ≡ o
        → Keeps store frame.values (Some (instrs.CallIndirect t)) (calls_entry code ty frame next table operands others o)
    call_entry_keeps t ty table is operands others are None e = record { kept = tt }
    call_entry_keeps t ty table is operands others are (Some None) e = record { kept = tt }
    call_entry_keeps t ty table is operands others are (Some (Some func)) e =
        let long = are.number in
        let more = length-append ty.params (I32 ∷ []) in
        let place : length ty.params ≡ length operands - 1 = omega (arith, long, more) in
        on_keeps store frame.values (Some (instrs.CallIndirect t)) (signature code func) _ (λ found s.
        call_if_keeps t (same_signature ty found) operands others func (take (length ty.params) operands)
        (record {
          given = ap (λ n. take n operands) place;
          top = bits_same are (length operands - 1) 0 (omega (arith, long, more));
          entry =
              subst (λ n. entry_of store.table (bits_at operands n) ≡ Some func) place
              (ap (λ o. entry_of o (bits_at operands (length ty.params))) is ∙ ap option_flatten e);
        }))

    plain_keeps : (i : Instr) → IsCoreInstr i → Keeps store frame.values (Some i) (execute_plain code store frame next i)
    plain_keeps instrs.Unreachable h = record { kept = tt }
    plain_keeps instrs.Nop h = going (Some instrs.Nop) tt next rest _ _ _ _ _
    plain_keeps (instrs.Br l) h = branch_keeps (Some (instrs.Br l)) tt [] frame.values frame.labels l core.labels
    plain_keeps (instrs.BrIf l) h =
        on_keeps store frame.values (Some (instrs.BrIf l)) (pop (I32 ∷ []) frame.values) _ (λ p e.
        choice_keeps (Some (instrs.BrIf l)) tt (bits_at p.operands 0) _ _ (branch_keeps (Some (instrs.BrIf l)) tt p.operands p.rest frame.labels l core.labels)
        (going (Some (instrs.BrIf l)) tt next rest store p.operands p.rest _ _))
    plain_keeps (instrs.BrTable labels l) h =
        on_keeps store frame.values (Some (instrs.BrTable labels l)) (pop (I32 ∷ []) frame.values) _ (λ p e.
        branch_keeps (Some (instrs.BrTable labels l)) tt p.operands p.rest frame.labels (slice_index_or labels (bits_at p.operands 0) l) core.labels)
    plain_keeps instrs.Return h = caller_keeps (Some instrs.Return) tt [] (topmost frame.arity frame.values)
    plain_keeps (instrs.Call func) h =
        on_keeps store frame.values (Some (instrs.Call func)) (signature code func) _ (λ ty e.
        on_keeps store frame.values (Some (instrs.Call func)) (pop ty.params frame.values) _ (λ p e. called func p.operands p.rest))
    plain_keeps (instrs.CallIndirect t) h =
        on_keeps store frame.values (Some (instrs.CallIndirect t)) (slice_get code.types t) _ (λ ty e.
        on_keeps store frame.values (Some (instrs.CallIndirect t)) store.table _ (λ table is.
        on_keeps store frame.values (Some (instrs.CallIndirect t)) (pop (ty.params ++ I32 ∷ []) frame.values) _
        (λ p e. call_entry_keeps t ty table is p.operands p.rest
        (popped (ty.params ++ I32 ∷ []) frame.values p e) _ refl)))
    plain_keeps instrs.Drop h =
        on_keeps store frame.values (Some instrs.Drop) (type_of_top frame 0) _ (λ ty e.
        on_keeps store frame.values (Some instrs.Drop) (pop (ty ∷ []) frame.values) _ (λ p e. going (Some instrs.Drop) tt next rest _ p.operands p.rest _ _))
    plain_keeps instrs.Select h =
        on_keeps store frame.values (Some instrs.Select) (type_of_top frame 1) _ (λ ty e.
        on_keeps store frame.values (Some instrs.Select) (pop (ty ∷ ty ∷ I32 ∷ []) frame.values) _
        (λ p e. going (Some instrs.Select) tt next rest _ p.operands p.rest _ _))
    plain_keeps (instrs.LocalGet x) h =
        on_keeps store frame.values (Some (instrs.LocalGet x)) (slice_get frame.locals x) _ (λ value e. going (Some (instrs.LocalGet x)) tt next rest _ _ _ _ _)
    plain_keeps (instrs.LocalSet x) h =
        on_keeps store frame.values (Some (instrs.LocalSet x)) (slice_get frame.locals x) _ (λ old e.
        on_keeps store frame.values (Some (instrs.LocalSet x)) (pop (old.ty ∷ []) frame.values) _
        (λ p e. local_keeps (Some (instrs.LocalSet x)) tt next rest store x _ p.operands p.rest _))
    plain_keeps (instrs.LocalTee x) h =
        on_keeps store frame.values (Some (instrs.LocalTee x)) (slice_get frame.locals x) _ (λ old e.
        on_keeps store frame.values (Some (instrs.LocalTee x)) (pop (old.ty ∷ []) frame.values) _
        (λ p e. local_keeps (Some (instrs.LocalTee x)) tt next rest store x _ p.operands p.rest _))
    plain_keeps (instrs.GlobalGet x) h =
        on_keeps store frame.values (Some (instrs.GlobalGet x)) (slice_get store.globals x) _
        (λ value e. going (Some (instrs.GlobalGet x)) tt next rest _ _ _ _ _)
    plain_keeps (instrs.GlobalSet x) h =
        on_keeps store frame.values (Some (instrs.GlobalSet x)) (slice_get store.globals x) _ (λ old e.
        on_keeps store frame.values (Some (instrs.GlobalSet x)) (pop (old.ty ∷ []) frame.values) _
        (λ p e. going (Some (instrs.GlobalSet x)) tt next rest _ p.operands p.rest _ _))
    plain_keeps (instrs.Load at) h =
        on_keeps store frame.values (Some (instrs.Load at)) (load_of at.op) _ (λ access e.
        on_keeps store frame.values (Some (instrs.Load at)) store.memory _ (λ memory e.
        on_keeps store frame.values (Some (instrs.Load at)) (pop (I32 ∷ []) frame.values) _
        (λ p e. load_keeps (Some (instrs.Load at)) tt next rest memory access p.operands p.rest _)))
    plain_keeps (instrs.Store at) h =
        on_keeps store frame.values (Some (instrs.Store at)) (store_of at.op) _ (λ access e.
        on_keeps store frame.values (Some (instrs.Store at)) store.memory _ (λ memory e.
        on_keeps store frame.values (Some (instrs.Store at)) (pop (I32 ∷ access.ty ∷ []) frame.values) _
        (λ p e. store_keeps (Some (instrs.Store at)) tt next rest memory p.operands p.rest _)))
    plain_keeps instrs.MemorySize h =
        on_keeps store frame.values (Some instrs.MemorySize) store.memory _ (λ memory e. going (Some instrs.MemorySize) tt next rest _ _ _ _ _)
    plain_keeps instrs.MemoryGrow h =
        on_keeps store frame.values (Some instrs.MemoryGrow) store.memory _ (λ memory e.
        on_keeps store frame.values (Some instrs.MemoryGrow) (pop (I32 ∷ []) frame.values) _
        (λ p e. grow_keeps (Some instrs.MemoryGrow) tt next rest memory p.operands p.rest _))
    plain_keeps instrs.MemoryCopy h =
        on_keeps store frame.values (Some instrs.MemoryCopy) store.memory _ (λ memory e.
        on_keeps store frame.values (Some instrs.MemoryCopy) (pop (I32 ∷ I32 ∷ I32 ∷ []) frame.values) _
        (λ p e. store_keeps (Some instrs.MemoryCopy) tt next rest memory p.operands p.rest _))
    plain_keeps instrs.MemoryFill h =
        on_keeps store frame.values (Some instrs.MemoryFill) store.memory _ (λ memory e.
        on_keeps store frame.values (Some instrs.MemoryFill) (pop (I32 ∷ I32 ∷ I32 ∷ []) frame.values) _
        (λ p e. store_keeps (Some instrs.MemoryFill) tt next rest memory p.operands p.rest _))
    plain_keeps (instrs.Const value) h = going (Some (instrs.Const value)) tt next rest _ _ _ _ _
    plain_keeps (instrs.Numeric op) h =
        on_keeps store frame.values (Some (instrs.Numeric op)) (numeric_shape op) _ (λ shape e.
        on_keeps store frame.values (Some (instrs.Numeric op)) (pop shape.operands frame.values) _
        (λ p e. numeric_keeps (Some (instrs.Numeric op)) tt next rest shape.result p.operands p.rest _))
    plain_keeps instrs.RefNull h = absurd h
    plain_keeps (instrs.RefFunc func) h = absurd h
    plain_keeps (instrs.TableSet t) h = absurd h
    plain_keeps (instrs.TableGrow t) h = absurd h
    plain_keeps (instrs.TableSize t) h = absurd h
    plain_keeps i h = record { kept = tt }

choice_core : (n : ℕ) (a b : Place) → CoreNest a.rest → CoreNest b.rest → CoreNest (choice n a b).rest
choice_core zero a b x y = y
choice_core (suc n) a b x y = x

pub execute_keeps : (code : Code) (store : Store) (frame : Frame) → CoreFrame frame
    → Keeps store frame.values (next_of_nest frame.at.rest) (execute code store frame)
execute_keeps code store frame core = go frame.at.rest frame.at.number core.rest
  where
    entered : (operands values : List Val) (arity : ℕ) (body next : Place) → CoreNest body.rest
        → CoreNest next.rest → Keeps store frame.values None (enters store frame operands values arity body next next)
    entered operands values arity body next c l =
        record { kept = (record { rest = c; labels = (l, l, core.labels) }, tt) }

    go : (nest : Nest) (n : ℕ) → CoreNest nest → Keeps store frame.values (next_of_nest nest) (execute_at code store frame nest n)
    go Empty n c = record { kept = tt }
    go (Plain i rest) n c = plain_keeps code store frame core (place rest (n + 1)) c.1 i c.0
    go (InBlock ty body rest) n c = record { kept = (record { rest = c.0; labels = (c.1, c.1, core.labels) }, tt) }
    go (InLoop ty body rest) n c = record { kept = (record { rest = c.0; labels = (c, c.1, core.labels) }, tt) }
    go (InIf ty body rest) n c =
        on_keeps store frame.values None (pop (I32 ∷ []) frame.values) _ (λ p e.
        entered p.operands p.rest (block_arity ty) (choice (bits_at p.operands 0) _ _) _
        (choice_core (bits_at p.operands 0) _ _ c.0 tt) c.1)
    go (InIfElse ty body other rest) n c =
        on_keeps store frame.values None (pop (I32 ∷ []) frame.values) _ (λ p e.
        entered p.operands p.rest (block_arity ty) (choice (bits_at p.operands 0) _ _) _
        (choice_core (bits_at p.operands 0) _ _ c.0 c.1) c.2)

-- ---- steps

abbrev CoreEnd : SettleEnd → Type 0
CoreEnd (Continues stack) = CoreStack stack
CoreEnd e = Unit {0}

core_delivered : (stack : List Activation) (results : List Val) → CoreStack stack
    → CoreEnd (deliver stack results).next
core_delivered [] results c = tt
core_delivered (InModule frame ∷ below) results c =
    go (λ given. core_delivered below given c.1) (at_end (with_results frame results))
  where
    go : ((given : List Val) → CoreEnd (deliver below given).next) → (e : AtEnd)
        → CoreEnd (return_from e (with_results frame results) below (deliver below)).next
    go rest Within = (core_results frame results c.0, c.1)
    go rest (Gives given) = rest given
    go rest TooFew = tt
core_delivered (InMain [] ∷ below) results c = tt
core_delivered (InMain (action ∷ actions) ∷ below) results c = c
core_delivered (InImport import args [] (Return value) ∷ below) results c =
    core_delivered below (option_to_list value) c
core_delivered (InImport import args [] EndsInTrap ∷ below) results c = tt
core_delivered (InImport import args (action ∷ actions) «end» ∷ below) results c = c

-- a run goes on from activations of the form Core, or it is over
abbrev pub CoreProgress : Progress → Type 0
CoreProgress (Running config) = CoreStack config.stack
CoreProgress at = Unit {0}

core_progress : (store : Store) (counts : List ℕ) (e : SettleEnd) → CoreEnd e → CoreProgress (progress_of store counts e)
core_progress store counts (Continues stack) c = c
core_progress store counts (Finishes outcome) c = tt
core_progress store counts NoneHolds c = tt

module _ (m : Module) (core : IsCoreModule m) (program : Program) (same : program.code ≡ code_of m) where
  settled_core : (store : Store) (counts : List ℕ) (stack : List Activation) (results : List Val) → CoreStack stack
      → CoreProgress (after_settling store counts (deliver stack results)).next
  settled_core store counts stack results c = core_progress store counts (deliver stack results).next (core_delivered stack results c)

  entered_core : (store : Store) (counts : List ℕ) (func : ℕ) (args : List Val) (stack : List Activation)
      → CoreStack stack → CoreProgress (enter_function program.code store counts func args stack).next
  entered_core store counts func args stack c =
      go (signature program.code func) (definition program.code func)
      (ap (λ code. definition code func) (sym same))
    where
      go : (ty : Option FuncType) (d : Option Definition) → definition (code_of m) func ≡ d
          → CoreProgress (enter_defined ty d store counts func args stack).next
      go None d e = tt
      go (Some ty) None e = tt
      go (Some ty) (Some d) e =
          settled_core store counts (InModule (frame_of func ty d args) ∷ stack) []
          (record { rest = core_definition m core func d e; labels = tt }, c)

  called_core : (b : Bool) (store : Store) (counts : List ℕ) (func : ℕ) (args : List Val) (stack : List Activation)
      → CoreStack stack → CoreProgress (call_function program b store counts func args stack).next
  called_core false store counts func args stack c = entered_core store counts func args stack c
  called_core true store counts func args stack c = go (response_to program.answers func (slice_index counts func))
    where
      go : (r : Option Response) → CoreProgress (answer_call r store counts func args stack).next
      go None = tt
      go (Some r) = settled_core store _ (InImport func args r.actions r.end ∷ stack) [] c

  acted_core : (config : Config) (stack : List Activation) (r : ActionResult) → CoreStack stack
      → CoreProgress (after_action program config stack r).next
  acted_core config stack (Changes store) c = settled_core store config.counts stack [] c
  acted_core config stack (Enters func args) c = entered_core config.store config.counts func args stack c
  acted_core config stack (Fails kind) c = tt
  acted_core config stack Unfit c = tt

  executed_core : (config : Config) (frame : Frame) (below : List Activation) (i : Option Instr) (e : Execution)
      → KeepsCore config.store frame.values i e → CoreStack below → CoreProgress (after_instruction program config frame below e).next
  executed_core config frame below i (Did operands results found (Goes store next)) k c =
      settled_core store config.counts (InModule next ∷ below) [] (k.0, c)
  executed_core config frame below i (Did operands results found (Calls waiting func args)) k c =
      called_core (nat_lt func program.code.imported) config.store config.counts func args (InModule waiting ∷ below)
      (k.0, c)
  executed_core config frame below i (Did operands results found (Returns given)) k c =
      settled_core config.store config.counts below given c
  executed_core config frame below i (Traps kind operands found) k c = tt
  executed_core config frame below i NoRule k c = tt

  pub core_step : (config : Config) → CoreStack config.stack → CoreProgress (step program config).next
  core_step config c = go config.stack c
    where
      go : (stack : List Activation) → CoreStack stack → CoreProgress (step_of program config stack).next
      go [] c = tt
      go (InModule frame ∷ below) c =
          executed_core config frame below (next_of_nest frame.at.rest) _ (execute_keeps program.code config.store frame c.0).kept c.1
      go (InMain [] ∷ below) c = tt
      go (InMain (action ∷ actions) ∷ below) c =
          acted_core config (InMain actions ∷ below) (perform program.code config.store [] action) c
      go (InImport import args [] «end» ∷ below) c = tt
      go (InImport import args (action ∷ actions) «end» ∷ below) c =
          acted_core config (InImport import args actions «end» ∷ below) (perform program.code config.store args action)
          c

  pub core_start : (func : Option ℕ) (store : Store) (counts : List ℕ) (main : List Action)
      → CoreProgress (start program func store counts main).next
  core_start None store counts main = settled_core store counts (InMain main ∷ []) [] tt
  core_start (Some func) store counts main = go (nat_lt func program.code.imported)
    where
      go : (b : Bool) → CoreProgress (start_with_call program b store counts func (InMain main ∷ [])).next
      go true = settled_core store counts (InMain main ∷ []) [] tt
      go false = entered_core store counts func [] (InMain main ∷ []) tt
