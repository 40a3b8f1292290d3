-- What an instruction of a well-typed activation observes, and what hooks report of it, as the order of hook calls
-- needs.
use Rattle.std.proofs.Common.{◌≡◌, ℕ, ◌+◌, ◌<◌, List, [], ◌∷◌, ◌++◌, length, Option, Some, None, true, slice_get, refl, sym, ap, ◌∙◌, subst, map, reverse}
use Rattle.std.specs.List.{AllByRecursion}
use Rattle.std.proofs.lemmas.Option.{slice_get_within}
use Rattle.base.proofs.Options.{and_then_some}
use Rattle.wasm_syntax.specs.declared.values.ValType.{ValType}
use Rattle.wasm_syntax.specs.declared.values.Val.{Val}
use Rattle.wasm_syntax.specs.declared.signatures.FuncType.{FuncType}
use Rattle.wasm_syntax.specs.declared.signatures.GlobalType.{GlobalType}
use Rattle.wasm_syntax.specs.declared.instructions.Instr.{Instr}
use Rattle.wasm_syntax.specs.declared.instructions.Instr.TheVariants as instrs
use Rattle.wasm_syntax.specs.declared.modules.Module.{Module}
use Rattle.wasm_syntax.specs.Encoding.Forms.{IsCoreInstr}
use Rattle.wasm_syntax.specs.Index.{func_indices, all_globals, all_memories}
use Rattle.wasm_syntax.specs.Nest.{Nest, Plain}
use Rattle.wasm_syntax.specs.Typing.{is_number, IsTyped}
use Rattle.history_spec.specs.Code.{Code, code_of, signature, Definition, definition, zero_of}
use Rattle.history_spec.specs.Configuration.{place, Frame}
use Rattle.history_spec.specs.Instantiation.{table_length}
use Rattle.history_spec.specs.Instruction.{Execution, Did, Traps, NoRule, execute, execute_at}
use Rattle.history_spec.specs.Store.{Store, Memory, Table}
use Rattle.history_spec.specs.Step.{frame_of}
use Rattle.record_replay_spec.specs.Observations as replay
use Rattle.record_replay_spec.specs.Observations.{Observation, ReachesEntry, ReadsEntry, WritesEntry, ResizesTable, bits_from_top, entry_observations, nest_observations}
use Rattle.record_replay_spec.specs.Known.{Known, entries_after, known_after, known_after_all}
use Rattle.type_safety.specs.Frames.{Scope, context, IsFrame, IsAround, IsCode}
use Rattle.type_safety.specs.Stores.{func_count, IsStore}
use Rattle.type_safety.specs.Values.{count_of, AreValues}
use Rattle.type_safety.specs.Configurations.{scope}
use Rattle.type_safety.specs.Heights.{Heights}
use Rattle.type_safety.proofs.Values.{append_values, zero_values}
use Rattle.record_replay_spec.specs.Hooks.{on}
use Rattle.record_replay_spec.specs.Order.{HookedShape, bits_fit}
use Rattle.record_replay_spec.specs.ReportedCalls.{reported_before, reported_after, store_executed, next_of_nest, WaitingCall, waiting_after_step}
use Rattle.tape_laws.proofs.CoreFrames.{CoreNest, IsNoCall}
use Rattle.tape_laws.proofs.Trails.{IsOfCore, AreReportable}
use Rattle.tape_laws.proofs.Reportable.{IsShapeOf, AreReportedWell, IsFine, plain_well, fits_number, in_range, memory_there}
use Rattle.tape_laws.proofs.RunCalls.{global_at}
use Rattle.tape_laws.proofs.MutableGlobals.{sets_mutable}
use Rattle.tape_laws.proofs.ObservedKinds.{UsesTable, ChangesTable, CanObserve, all_observed}

-- ---- the known number of entries

-- an observation is not of the table's size
abbrev pub IsNotOfTable : Observation → Type 0
IsNotOfTable (ReachesEntry index found) = ⊥
IsNotOfTable (ResizesTable found left func) = ⊥
IsNotOfTable o = Unit {0}

entries_stay : (known : Known) (items : List Observation) → AllByRecursion IsNotOfTable items
    → (known_after_all known items).entries ≡ known.entries
entries_stay known [] h = refl
entries_stay known (o ∷ items) h = entries_stay (known_after known o) items h.1 ∙ one o h.0
  where
    one : (o : Observation) → IsNotOfTable o → entries_after known.entries o ≡ known.entries
    one (ReachesEntry index found) h = absurd h
    one (ResizesTable found left func) h = absurd h
    one o h = refl

-- an instruction of a module of the form Core has no size of the table and does not change it
no_change : (i : Instr) → IsCoreInstr i → ChangesTable i → ⊥
no_change (instrs.TableSet t) core changes = absurd core
no_change (instrs.TableSize t) core changes = absurd core
no_change (instrs.TableGrow t) core changes = absurd core
no_change i core changes = absurd changes

-- an instruction of a module of the form Core that calls nothing uses no entries
no_use : (i : Instr) → IsCoreInstr i → IsNoCall (Some i) → UsesTable i → ⊥
no_use (instrs.TableSet t) core none uses = absurd core
no_use (instrs.CallIndirect t) core none uses = absurd none
no_use i core none uses = absurd uses

-- an instruction of a module of the form Core does not change the table
pub nest_of_core : (store : Store) (values : List Val) (nest : Nest) → CoreNest nest
    → AllByRecursion IsOfCore (nest_observations store values nest)
nest_of_core store values nest core =
    all_observed IsOfCore store values nest (λ i rest is. each i (subst CoreNest is core).0)
  where
    each : (i : Instr) → IsCoreInstr i → (o : Observation) → CanObserve i o → IsOfCore o
    each i core (WritesEntry index func) can = no_change i core can
    each i core (ResizesTable found left func) can = no_change i core can
    each i core o can = tt

pub nest_stays : (known : Known) (store : Store) (values : List Val) (nest : Nest) → CoreNest nest
    → IsNoCall (next_of_nest nest) → (known_after_all known (nest_observations store values nest)).entries ≡ known.entries
nest_stays known store values nest core none =
    entries_stay known (nest_observations store values nest)
    (all_observed IsNotOfTable store values nest (λ i rest is.
    each i (subst CoreNest is core).0 (subst (λ n. IsNoCall (next_of_nest n)) is none)))
  where
    each : (i : Instr) → IsCoreInstr i → IsNoCall (Some i) → (o : Observation) → CanObserve i o → IsNotOfTable o
    each i core none (ReachesEntry index found) can = no_use i core none can
    each i core none (ResizesTable found left func) can = no_change i core can
    each i core none o can = tt

-- a call by the table sees the table's size
pub call_sees : (known : Known) (store : Store) (values : List Val) (t : ℕ) (rest nest : Nest) (table : Table)
    → nest ≡ Plain (instrs.CallIndirect t) rest → store.table ≡ Some table
    → (known_after_all known (nest_observations store values nest)).entries
    ≡ entries_after known.entries (ReachesEntry (bits_from_top values 0) (table_length store.table))
call_sees known store values t rest nest table is here =
    ap (λ n. (known_after_all known (nest_observations store values n)).entries) is
    ∙ ap (λ (o : Option Table). (known_after_all known (replay.on o (entry_observations index))).entries) here
    ∙ one (slice_get table.entries index)
    ∙ sym
    (ap (λ (o : Option Table). entries_after known.entries (ReachesEntry index (table_length o))) here)
  where
    index : ℕ
    index = bits_from_top values 0

    one : (o : Option (Option ℕ))
        → (known_after_all known
        (ReachesEntry index (length table.entries) ∷ replay.on o (λ func. ReadsEntry index func ∷ []))).entries
        ≡ entries_after known.entries (ReachesEntry index (length table.entries))
    one None = refl
    one (Some func) = refl

-- a function that has a type exists
pub func_there : (m : Module) (func : ℕ) (ty : FuncType) → signature (code_of m) func ≡ Some ty → func < func_count m
func_there m func ty h =
    let p = and_then_some (slice_get (func_indices m) func) (λ t. slice_get m.types t) ty h in
    slice_get_within (func_indices m) func p.0 p.1

-- ---- what hooks report

pub no_call_waits : (i : Option Instr) (operands : List Val) → IsNoCall i → (waiting : List WaitingCall)
    → waiting_after_step i operands waiting ≡ waiting
no_call_waits None operands none waiting = refl
no_call_waits (Some (instrs.Call func)) operands none waiting = absurd none
no_call_waits (Some (instrs.CallIndirect t)) operands none waiting = absurd none
no_call_waits (Some i) operands none waiting = refl

module _ (m : Module) (shape : HookedShape) (is : IsShapeOf m shape)
    (number : (x : ℕ) (g : GlobalType) → slice_get (all_globals m) x ≡ Some g → is_number g.ty ≡ true) where
  -- the hook calls of the next instruction of a body can be made in order
  abbrev pub AreNestReportedWell : Store → Nest → Execution → Type 0
  AreNestReportedWell store nest (Did operands results found control) =
      AreReportable m shape
      (on (next_of_nest nest) (λ i.
      reported_before i operands store
      ++ reported_after (all_globals m) i results (store_executed store (Did operands results found control))))
  AreNestReportedWell store nest (Traps kind operands found) =
      AreReportable m shape (on (next_of_nest nest) (λ i. reported_before i operands store))
  AreNestReportedWell store nest NoRule = Unit {0}

  silent_nest : (store : Store) (nest : Nest) → next_of_nest nest ≡ None → (e : Execution)
      → AreNestReportedWell store nest e
  silent_nest store nest none (Did operands results found control) =
      subst
      (λ (o : Option Instr). AreReportable m shape
      (on o (λ i.
      reported_before i operands store
      ++ reported_after (all_globals m) i results (store_executed store (Did operands results found control)))))
      (sym none) tt
  silent_nest store nest none (Traps kind operands found) =
      subst (λ (o : Option Instr). AreReportable m shape (on o (λ i. reported_before i operands store))) (sym none) tt
  silent_nest store nest none NoRule = tt

  plain_nest : (store : Store) (values : List Val) (i : Instr) (rest : Nest) (e : Execution)
      → AreReportedWell m shape is store values i e → AreNestReportedWell store (Plain i rest) e
  plain_nest store values i rest (Did operands results found control) h = h
  plain_nest store values i rest (Traps kind operands found) h = h
  plain_nest store values i rest NoRule h = tt

  pub nest_well : (s : Scope) → s.m ≡ m → (code : Code) (store : Store) (frame : Frame) → IsStore m store
      → IsFrame s [] frame → CoreNest frame.at.rest → IsNoCall (next_of_nest frame.at.rest)
      → AreNestReportedWell store frame.at.rest (execute code store frame)
  nest_well s same code store frame fine f core none =
      go frame.at.rest frame.at.number core none f.types f.given f.code.typed
    where
      memory_here : (memory : Memory) → store.memory ≡ Some memory → shape.memory ≡ true
      memory_here memory here =
          is.memory ∙ memory_there (all_memories m) store.memory memory fine.memory here

      global_fine : (x : ℕ) (value : Val) → slice_get store.globals x ≡ Some value
          → IsFine m shape is store frame.values x value
      global_fine x value here =
          let g = global_at (func_count m) (all_globals m) store.globals x value fine.globals here in
          record {
            ty = g.ty;
            declared = g.declared;
            typed = g.typed;
            fits =
                fits_number (func_count m) g.ty.ty value.bits (number x g.ty g.declared)
                (subst (λ ty. value.bits < count_of (func_count m) ty) (sym g.typed)
                (in_range (func_count m) _ store.globals x value fine.globals here));
          }

      top : (value : Val) → slice_get frame.values 0 ≡ Some value → is_number value.ty ≡ true
          → bits_fit value.ty value.bits ≡ true
      top value here n =
          fits_number (func_count m) value.ty value.bits n
          (in_range (func_count m) f.types frame.values 0 value
          (subst (λ own. AreValues (func_count own) f.types frame.values) same f.values) here)

      go : (nest : Nest) (n : ℕ) → CoreNest nest → IsNoCall (next_of_nest nest) → (before after : List ValType)
          → IsTyped (context s f.labels) nest before after
          → AreNestReportedWell store nest (execute_at code store frame nest n)
      go (Plain i rest) n c none before after typed =
          plain_nest store frame.values i rest (execute_at code store frame (Plain i rest) n)
          (plain_well m shape is store frame.values code frame (place rest (n + 1)) memory_here global_fine top number
          i c.0 none (sets_mutable m s same f.labels i before typed.0 typed.1)).reports
      go nest n c none before after typed =
          silent_nest store nest refl (execute_at code store frame nest n)

-- ---- a function that is entered

-- the activation of a function that is entered is well typed
pub entered_frame : (m : Module) (heights : Heights) (func : ℕ) (ty : FuncType) (body : Definition) (args : List Val)
    → signature (code_of m) func ≡ Some ty → definition (code_of m) func ≡ Some body
    → AreValues (func_count m) ty.params args
    → IsCode (scope m heights func ty body) [] (place body.body 0) 0 [] (reverse ty.results)
    → IsFrame (scope m heights func ty body) [] (frame_of func ty body args)
entered_frame m heights func ty body args has_type defined are code =
    record { labels = []; given = reverse ty.results; types = []; around = around; values = tt; code = code }
  where
    around : IsAround (scope m heights func ty body) [] (reverse ty.results) (frame_of func ty body args)
    around =
        record {
          scope = record { has_type = has_type; defined = defined };
          func = refl;
          arity = refl;
          locals =
              append_values (func_count m) ty.params body.locals args (map zero_of body.locals) are
              (zero_values (func_count m) body.locals);
          blocks = refl;
        }
