-- An instruction of any kind in two stores.
use Rattle.std.proofs.Common.{◌≡◌, ℕ, zero, suc, ◌+◌, List, [], ◌∷◌, Option, Some, None, slice_get, refl}
use Rattle.std.specs.Prelude.{slice_index_or}
use Rattle.wasm_syntax.specs.declared.values.Val.{Val}
use Rattle.wasm_syntax.specs.declared.values.ValType.{ValType}
use Rattle.wasm_syntax.specs.declared.values.ValType.TheVariants.{I32}
use Rattle.wasm_syntax.specs.declared.instructions.Instr.{Instr}
use Rattle.wasm_syntax.specs.declared.instructions.Instr.TheVariants.{Unreachable, Nop, Br, BrIf, BrTable, Return, Call, CallIndirect, Drop, Select, LocalGet, LocalSet, LocalTee, GlobalGet, GlobalSet, Load, Store as StoreTo, MemorySize, MemoryGrow, MemoryCopy, MemoryFill, Const, Numeric, RefNull, RefFunc, TableSet, TableGrow, TableSize}
use Rattle.wasm_syntax.specs.Nest.{Nest, Empty, Plain, InBlock, InLoop, InIf, InIfElse}
use Rattle.wasm_syntax.specs.Opcodes.{numeric_shape}
use Rattle.history_spec.specs.Store.{Store}
use Rattle.history_spec.specs.Code.{Code, signature}
use Rattle.history_spec.specs.Numeric.{NumericValue, Computed, Undefined, Unsupported, numeric_value}
use Rattle.history_spec.specs.Configuration.{Place, place, Label, Frame, topmost}
use Rattle.history_spec.specs.Instruction.{Execution, Did, Goes, bits_at, gives, with_local, to_label, to_caller, branch_to, numeric_result, type_of_top, execute_plain, execute_at}
use Rattle.record_replay_spec.specs.Observations.{Observation, plain_observations, nest_observations}
use Rattle.record_replay_spec.specs.StoreAnswers.{SameKind, HasWholePages, AnswersAll, AnswersAlike}
use Rattle.record_replay_spec.specs.Changes.{IsChangedAs}
use Rattle.record_replay_spec.specs.Executions.{Shares}
use Rattle.record_replay_spec.specs.ObservedStepLaws.{ObservedStepsAreAlike}
use Rattle.record_replay_spec.proofs.Operands.{topmost_length}
use Rattle.record_replay_spec.proofs.AlikeStores.{Alike, on_alike, one_alike, takes_alike, choice_alike, goes_alike, calls_alike, same_activation}
use Rattle.record_replay_spec.proofs.GlobalSteps.{get_alike, set_global_alike}
use Rattle.record_replay_spec.proofs.MemorySteps.{load_alike, store_alike, size_alike, grow_alike, copy_alike, fill_alike}
use Rattle.record_replay_spec.proofs.TableSteps.{call_indirect_alike, set_alike, table_size_alike, table_grow_alike}

-- a store is unchanged if nothing is observed
unchanged : (store : Store) → IsChangedAs store [] store
unchanged store = record { possible = tt; changed = refl }

module _ (code other_code : Code) (shares : Shares code other_code) (store other : Store) (frame : Frame) where
  abbrev Same : List Observation → Execution → Execution → Type 0
  Same seen first second = Alike code store other frame seen first second

  -- ---- instructions that observe nothing

  -- control goes on within the activation, at any point
  stays : (operands results : List Val) (next : Frame) → next.func ≡ frame.func → next.arity ≡ frame.arity
      → Same [] (Did operands results None (Goes store next)) (Did operands results None (Goes other next))
  stays operands results next func arity =
      goes_alike code store other frame [] operands results None next store other (unchanged store) (unchanged other)
      (record { func = func; arity = arity })

  -- control goes on after the instruction, with these results; `here` is the activation, with a local changed or not
  given : (here : Frame) (next : Place) (operands rest results : List Val)
      → here.func ≡ frame.func → here.arity ≡ frame.arity
      → Same [] (gives store here next operands rest results) (gives other here next operands rest results)
  given here next operands rest results func arity = stays operands results _ func arity

  caller_alike : (operands values : List Val) (o : Option (List Val)) → topmost frame.arity values ≡ o
      → Same [] (to_caller operands o) (to_caller operands o)
  caller_alike operands values None e = tt
  caller_alike operands values (Some results) e =
      record {
        first_store = unchanged store;
        second_store = unchanged other;
        same = refl;
        kept = topmost_length frame.arity values results e;
      }

  label_alike : (operands : List Val) (o : Option (List Val)) (labels : List Label) (label : Label)
      → Same [] (to_label store frame operands o labels label) (to_label other frame operands o labels label)
  label_alike operands None labels label = tt
  label_alike operands (Some carried) labels label = stays operands [] _ refl refl

  branch_alike : (operands values : List Val) (labels : List Label) (l : ℕ)
      → Same [] (branch_to store frame operands values labels l) (branch_to other frame operands values labels l)
  branch_alike operands values [] zero = caller_alike operands values (topmost frame.arity values) refl
  branch_alike operands values [] (suc l) = tt
  branch_alike operands values (label ∷ labels) zero = label_alike operands (topmost label.arity values) labels label
  branch_alike operands values (label ∷ labels) (suc l) = branch_alike operands values labels l

  computed_alike : (next : Place) (ty : ValType) (operands rest : List Val) (value : NumericValue)
      → Same [] (numeric_result store frame next ty operands rest value)
      (numeric_result other frame next ty operands rest value)
  computed_alike next ty operands rest (Computed bits) = given frame next operands rest _ refl refl
  computed_alike next ty operands rest (Undefined kind) = refl
  computed_alike next ty operands rest Unsupported = tt

  -- ---- any instruction

  module _ (alike : SameKind store other) (whole : HasWholePages store) (next : Place) where
    plain_alike : (i : Instr) → AnswersAll other (plain_observations store frame.values i)
        → Same (plain_observations store frame.values i) (execute_plain code store frame next i)
        (execute_plain other_code other frame next i)
    plain_alike Unreachable answers = refl
    plain_alike Nop answers = given frame next [] frame.values [] refl refl
    plain_alike (Br l) answers = branch_alike [] frame.values frame.labels l
    plain_alike (BrIf l) answers =
        takes_alike code store other frame [] (I32 ∷ []) _ _ (λ operands rest are.
        choice_alike code store other frame [] (bits_at operands 0) _ _ _ _ (branch_alike operands rest frame.labels l)
        (given frame next operands rest [] refl refl))
    plain_alike (BrTable labels l) answers =
        takes_alike code store other frame [] (I32 ∷ []) _ _ (λ operands rest are.
        branch_alike operands rest frame.labels (slice_index_or labels (bits_at operands 0) l))
    plain_alike Return answers = caller_alike [] frame.values (topmost frame.arity frame.values) refl
    plain_alike (Call func) answers =
        on_alike code store other frame [] (signature code func) (signature other_code func) _ _
        (shares.signatures func) (λ ty has.
        takes_alike code store other frame [] ty.params _ _ (λ operands rest are.
        calls_alike code store other frame [] operands None _ func operands (unchanged store) (unchanged other)
        (same_activation frame next rest)
        (record { given = refl; arguments = record { ty = ty; has_type = has; types = are.typed } })))
    plain_alike (CallIndirect t) answers =
        call_indirect_alike code other_code store other frame next alike.table shares t answers
    plain_alike Drop answers =
        one_alike code store other frame [] (type_of_top frame 0) _ _ (λ ty has.
        takes_alike code store other frame [] (ty ∷ []) _ _ (λ operands rest are.
        given frame next operands rest [] refl refl))
    plain_alike Select answers =
        one_alike code store other frame [] (type_of_top frame 1) _ _ (λ ty has.
        takes_alike code store other frame [] (ty ∷ ty ∷ I32 ∷ []) _ _ (λ operands rest are.
        given frame next operands rest _ refl refl))
    plain_alike (LocalGet x) answers =
        one_alike code store other frame [] (slice_get frame.locals x) _ _ (λ value has.
        given frame next [] frame.values _ refl refl)
    plain_alike (LocalSet x) answers =
        one_alike code store other frame [] (slice_get frame.locals x) _ _ (λ old has.
        takes_alike code store other frame [] (old.ty ∷ []) _ _ (λ operands rest are.
        given (with_local frame x (slice_index_or operands 0 old)) next operands rest [] refl refl))
    plain_alike (LocalTee x) answers =
        one_alike code store other frame [] (slice_get frame.locals x) _ _ (λ old has.
        takes_alike code store other frame [] (old.ty ∷ []) _ _ (λ operands rest are.
        given (with_local frame x (slice_index_or operands 0 old)) next operands rest operands refl refl))
    plain_alike (GlobalGet x) answers = get_alike code other_code store other frame next x answers
    plain_alike (GlobalSet x) answers = set_global_alike code other_code store other frame next x alike
    plain_alike (Load at) answers = load_alike code store other frame next whole alike.memory at answers
    plain_alike (StoreTo at) answers = store_alike code store other frame next whole alike.memory at answers
    plain_alike MemorySize answers = size_alike code store other frame next whole alike.memory answers
    plain_alike MemoryGrow answers = grow_alike code store other frame next whole alike.memory answers
    plain_alike MemoryCopy answers = copy_alike code store other frame next whole alike.memory answers
    plain_alike MemoryFill answers = fill_alike code store other frame next whole alike.memory answers
    plain_alike (Const value) answers = given frame next [] frame.values _ refl refl
    plain_alike (Numeric op) answers =
        one_alike code store other frame [] (numeric_shape op) _ _ (λ shape has.
        takes_alike code store other frame [] shape.operands _ _ (λ operands rest are.
        computed_alike next shape.result operands rest (numeric_value op operands)))
    plain_alike RefNull answers = given frame next [] frame.values _ refl refl
    plain_alike (RefFunc func) answers = given frame next [] frame.values _ refl refl
    plain_alike (TableSet t) answers = set_alike code other_code store other frame next alike.table t answers
    plain_alike (TableGrow t) answers = table_grow_alike code other_code store other frame next alike.table t answers
    plain_alike (TableSize t) answers = table_size_alike code other_code store other frame next alike.table t answers
    plain_alike i answers = tt

  nest_alike : (nest : Nest) (n : ℕ) → AnswersAlike store other (nest_observations store frame.values nest)
      → Same (nest_observations store frame.values nest) (execute_at code store frame nest n)
      (execute_at other_code other frame nest n)
  nest_alike Empty n alike = tt
  nest_alike (Plain i rest) n alike = plain_alike alike.kind alike.whole (place rest (n + 1)) i alike.answers
  nest_alike (InBlock ty body rest) n alike = stays [] [] _ refl refl
  nest_alike (InLoop ty body rest) n alike = stays [] [] _ refl refl
  nest_alike (InIf ty body rest) n alike =
      takes_alike code store other frame [] (I32 ∷ []) _ _ (λ operands values are.
      stays operands [] _ refl refl)
  nest_alike (InIfElse ty body «else» rest) n alike =
      takes_alike code store other frame [] (I32 ∷ []) _ _ (λ operands values are.
      stays operands [] _ refl refl)

pub observed_steps_are_alike : ObservedStepsAreAlike
observed_steps_are_alike code other_code store other frame shares alike =
    nest_alike code other_code shares store other frame frame.at.rest frame.at.number alike
