-- A tape's run shows the same whatever calls of imports were counted before: the counts may begin anew.
use Rattle.std.proofs.Common.{◌≡◌, ℕ, zero, suc, List, [], ◌∷◌, ◌++◌, Option, Some, None, Bool, true, false, nat_lt, slice_set, slice_index, refl, sym, ap, ◌∙◌}
use Rattle.std.specs.Prelude.{◌+◌}
use Rattle.std.specs.Option.{option_to_list}
use Rattle.base.specs.declared.outcomes.Outcome.{Outcome}
use Rattle.wasm_syntax.specs.declared.values.Val.{Val}
use Rattle.wasm_syntax.specs.declared.signatures.FuncType.{FuncType}
use Rattle.host_script.specs.declared.scripts.ResponseEnd.TheVariants.{Trap as EndsInTrap}
use Rattle.trace_model.specs.declared.tapes.Origin.{Origin}
use Rattle.trace_model.specs.declared.tapes.Next.{Next}
use Rattle.trace_model.specs.declared.tapes.Next.TheVariants.{Call, Return, End, Trap}
use Rattle.trace_model.specs.declared.tapes.Segment.{Segment}
use Rattle.history_spec.specs.declared.entries.Entry.{Entry}
use Rattle.history_spec.specs.declared.entries.Entry.TheVariants.{HostCall, Enter, ImportCall, ImportReturn, Step}
use Rattle.history_spec.specs.Store.{Store}
use Rattle.history_spec.specs.Code.{Code, Definition, signature, definition}
use Rattle.history_spec.specs.Configuration.{Frame, Activation, InModule, InMain, InImport, Config}
use Rattle.history_spec.specs.Instruction.{Control, Goes, Calls, Returns, Execution, Did, Traps, NoRule, execute}
use Rattle.history_spec.specs.Settle.{SettleEnd, Continues, Finishes, NoRule as NoneHolds, SettleResult, settle, deliver, return_entry}
use Rattle.history_spec.specs.Step.{Progress, Running, Finished, Faulted, Stuck, StepResult, step_result, after_entries, after_settling, enter_defined, enter_function, frame_of, answer_call, call_function, after_control, after_instruction, step}
use Rattle.record_replay_spec.specs.TapeRun.{pause, program_awaiting, TapeConfig, TapeProgress, Plays, Over, Disagrees, NoRule as TapeNoRule, TapeResult, tape_result, after_step, after_next, after_effects, after_segment, after_segment_if, tape_step, tape_after, tape_steps, store_after_effects}
use Rattle.record_replay_spec.specs.Alike.{same_origin}
use Rattle.record_replay_spec.proofs.Awaited.{awaits}
use Rattle.rest_laws.specs.Laws.{CountsDoNotMatter}

-- ---- without the counts

abbrev uncounted : Config → Config
uncounted config = record config { counts = [] }

abbrev plain : Progress → Progress
plain (Running config) = Running (uncounted config)
plain at = at

abbrev plain_step : StepResult → StepResult
plain_step s = step_result s.entries (plain s.next)

abbrev plain_config : TapeConfig → TapeConfig
plain_config t = record t { config = uncounted t.config }

abbrev plain_tape : TapeProgress → TapeProgress
plain_tape (Plays t) = Plays (plain_config t)
plain_tape at = at

abbrev plain_result : TapeResult → TapeResult
plain_result t = tape_result t.entries (plain_tape t.next)

-- ---- steps of the module

settled : (store : Store) (counts other : List ℕ) (s : SettleResult)
    → plain_step (after_settling store counts s) ≡ plain_step (after_settling store other s)
settled store counts other s = go s.next
  where
    go : (e : SettleEnd)
        → plain_step (after_settling store counts (record { entries = s.entries; next = e }))
        ≡ plain_step (after_settling store other (record { entries = s.entries; next = e }))
    go (Continues stack) = refl
    go (Finishes outcome) = refl
    go NoneHolds = refl

in_front : (entries : List Entry) (s u : StepResult) → plain_step s ≡ plain_step u
    → plain_step (after_entries entries s) ≡ plain_step (after_entries entries u)
in_front entries s u h = ap (λ (p : StepResult). after_entries entries p) h

module _ (code : Code) where
  entered : (store : Store) (counts other : List ℕ) (func : ℕ) (args : List Val) (stack : List Activation)
      → plain_step (enter_function code store counts func args stack)
      ≡ plain_step (enter_function code store other func args stack)
  entered store counts other func args stack = go (signature code func) (definition code func)
    where
      go : (ty : Option FuncType) (d : Option Definition)
          → plain_step (enter_defined ty d store counts func args stack)
          ≡ plain_step (enter_defined ty d store other func args stack)
      go None d = refl
      go (Some ty) None = refl
      go (Some ty) (Some d) = settled store counts other (settle (InModule (frame_of func ty d args) ∷ stack))

  called : (b : Bool) (store : Store) (counts other : List ℕ) (func : ℕ) (args : List Val) (stack : List Activation)
      → nat_lt func code.imported ≡ b
      → plain_step (call_function (program_awaiting code) b store counts func args stack)
      ≡ plain_step (call_function (program_awaiting code) b store other func args stack)
  called false store counts other func args stack e =
      in_front (Enter func ∷ []) (enter_function code store counts func args stack)
      (enter_function code store other func args stack) (entered store counts other func args stack)
  called true store counts other func args stack e =
      ap (λ r. plain_step (answer_call r store counts func args stack)) (awaits code func (slice_index counts func) e)
      ∙ in_front (ImportCall func args ∷ [])
      (after_settling store (slice_set counts func (slice_index counts func + 1))
      (settle (InImport func args (pause ∷ []) EndsInTrap ∷ stack)))
      (after_settling store (slice_set other func (slice_index other func + 1))
      (settle (InImport func args (pause ∷ []) EndsInTrap ∷ stack)))
      (settled store (slice_set counts func (slice_index counts func + 1))
      (slice_set other func (slice_index other func + 1))
      (settle (InImport func args (pause ∷ []) EndsInTrap ∷ stack)))
      ∙ sym (ap (λ r. plain_step (answer_call r store other func args stack)) (awaits code func (slice_index other func) e))

  abbrev at : Store → List Activation → List ℕ → Config
  at store stack counts = record { store = store; stack = stack; counts = counts }

  controlled : (store : Store) (stack : List Activation) (counts other : List ℕ) (frame : Frame)
      (below : List Activation) (control : Control)
      → plain_step (after_control (program_awaiting code) (at store stack counts) frame below control)
      ≡ plain_step (after_control (program_awaiting code) (at store stack other) frame below control)
  controlled store stack counts other frame below (Goes after next) =
      settled after counts other (settle (InModule next ∷ below))
  controlled store stack counts other frame below (Calls waiting func args) =
      called (nat_lt func code.imported) store counts other func args (InModule waiting ∷ below) refl
  controlled store stack counts other frame below (Returns results) =
      in_front (return_entry frame.func results below ∷ []) (after_settling store counts (deliver below results))
      (after_settling store other (deliver below results)) (settled store counts other (deliver below results))

  instructed : (store : Store) (stack : List Activation) (counts other : List ℕ) (frame : Frame)
      (below : List Activation) (e : Execution)
      → plain_step (after_instruction (program_awaiting code) (at store stack counts) frame below e)
      ≡ plain_step (after_instruction (program_awaiting code) (at store stack other) frame below e)
  instructed store stack counts other frame below (Did operands results found control) =
      in_front (Step frame.func frame.at.number operands results found ∷ [])
      (after_control (program_awaiting code) (at store stack counts) frame below control)
      (after_control (program_awaiting code) (at store stack other) frame below control)
      (controlled store stack counts other frame below control)
  instructed store stack counts other frame below (Traps kind operands found) = refl
  instructed store stack counts other frame below NoRule = refl

  -- ---- steps of a tape's run

  stepped : (left : List Segment) (came : Origin) (s u : StepResult) → plain_step s ≡ plain_step u
      → plain_result (after_step left came s) ≡ plain_result (after_step left came u)
  stepped left came s u h = one s ∙ ap (λ (p : StepResult). after_step left came p) h ∙ sym (one u)
    where
      one : (s : StepResult) → plain_result (after_step left came s) ≡ after_step left came (plain_step s)
      one s = go s.next
        where
          go : (next : Progress)
              → plain_result (after_step left came (step_result s.entries next))
              ≡ after_step left came (plain_step (step_result s.entries next))
          go (Running config) = refl
          go (Finished outcome) = refl
          go (Faulted kind) = refl
          go Stuck = refl

  abbrev at_place : Store → List Activation → List ℕ → List Segment → Origin → TapeConfig
  at_place store stack counts left came = record { config = at store stack counts; left = left; came = came }

  enters_by_tape : (store : Store) (counts other : List ℕ) (stack : List Activation) (left : List Segment) (came : Origin)
      (func : ℕ) (args : List Val)
      → plain_result
      (after_step left came (after_entries (HostCall func args ∷ []) (enter_function code store counts func args stack)))
      ≡ plain_result
      (after_step left came (after_entries (HostCall func args ∷ []) (enter_function code store other func args stack)))
  enters_by_tape store counts other stack left came func args =
      stepped left came (after_entries (HostCall func args ∷ []) (enter_function code store counts func args stack))
      (after_entries (HostCall func args ∷ []) (enter_function code store other func args stack))
      (in_front (HostCall func args ∷ []) (enter_function code store counts func args stack)
      (enter_function code store other func args stack) (entered store counts other func args stack))

  next_same : (store : Store) (counts other : List ℕ) (stack : List Activation) (left : List Segment) (came : Origin)
      (next : Next)
      → plain_result (after_next code store counts stack left came next)
      ≡ plain_result (after_next code store other stack left came next)
  next_same store counts other [] left came (Call func args) = enters_by_tape store counts other [] left came func args
  next_same store counts other (InModule frame ∷ below) left came (Call func args) =
      enters_by_tape store counts other (InModule frame ∷ below) left came func args
  next_same store counts other (InMain actions ∷ below) left came (Call func args) =
      enters_by_tape store counts other (InMain actions ∷ below) left came func args
  next_same store counts other (InImport import given actions end ∷ below) left came (Call func args) =
      enters_by_tape store counts other (InImport import given actions end ∷ below) left came func args
  next_same store counts other (InImport import given actions end ∷ below) left came (Return result) =
      let results = option_to_list result in
      let s = after_settling store counts (deliver below results) in
      let u = after_settling store other (deliver below results) in
      stepped left came (after_entries (ImportReturn import results ∷ []) s)
      (after_entries (ImportReturn import results ∷ []) u)
      (in_front (ImportReturn import results ∷ []) s u (settled store counts other (deliver below results)))
  next_same store counts other [] left came (Return result) = refl
  next_same store counts other (InModule frame ∷ below) left came (Return result) = refl
  next_same store counts other (InMain actions ∷ below) left came (Return result) = refl
  next_same store counts other [] left came End = refl
  next_same store counts other (InModule frame ∷ below) left came End = refl
  next_same store counts other (InMain actions ∷ below) left came End = refl
  next_same store counts other (InImport import given actions end ∷ below) left came End = refl
  next_same store counts other [] left came Trap = refl
  next_same store counts other (InModule frame ∷ below) left came Trap = refl
  next_same store counts other (InMain actions ∷ below) left came Trap = refl
  next_same store counts other (InImport import given actions end ∷ below) left came Trap = refl

  -- the host takes a segment
  taken : (store : Store) (counts other : List ℕ) (stack : List Activation) (left : List Segment) (came : Origin)
      → plain_result (after_segment code (at store stack counts) left came)
      ≡ plain_result (after_segment code (at store stack other) left came)
  taken store counts other stack [] came = refl
  taken store counts other stack (segment ∷ left) came = by (same_origin segment.origin came)
    where
      done : (o : Option Store)
          → plain_result (after_effects code (at store stack counts) left came segment.next o)
          ≡ plain_result (after_effects code (at store stack other) left came segment.next o)
      done None = refl
      done (Some after) = next_same after counts other stack left came segment.next

      by : (b : Bool)
          → plain_result (after_segment_if b code (at store stack counts) segment left came)
          ≡ plain_result (after_segment_if b code (at store stack other) segment left came)
      by false = refl
      by true = done (store_after_effects segment.effects store)

  step_same : (store : Store) (counts other : List ℕ) (stack : List Activation) (left : List Segment) (came : Origin)
      → plain_result (tape_step code (at_place store stack counts left came))
      ≡ plain_result (tape_step code (at_place store stack other left came))
  step_same store counts other (InModule frame ∷ below) left came =
      stepped left came (step (program_awaiting code) (at store (InModule frame ∷ below) counts))
      (step (program_awaiting code) (at store (InModule frame ∷ below) other))
      (instructed store (InModule frame ∷ below) counts other frame below (execute code store frame))
  step_same store counts other [] left came = taken store counts other [] left came
  step_same store counts other (InMain actions ∷ below) left came =
      taken store counts other (InMain actions ∷ below) left came
  step_same store counts other (InImport import given actions end ∷ below) left came =
      taken store counts other (InImport import given actions end ∷ below) left came

  -- ---- runs

  one : (t : TapeConfig) → plain_result (tape_step code t) ≡ plain_result (tape_step code (plain_config t))
  one t = step_same t.config.store t.config.counts [] t.config.stack t.left t.came

  same_config : (t u : TapeConfig) → Plays t ≡ Plays u → t ≡ u
  same_config t u h = cc

  both : (entries more : List Entry) (r s : TapeResult) → entries ≡ more → plain_result r ≡ plain_result s
      → plain_result (tape_after entries r) ≡ plain_result (tape_after more s)
  both entries more r s e h =
      ap (λ es. tape_result (es ++ r.entries) (plain_tape r.next)) e
      ∙ ap (λ (p : TapeResult). tape_result (more ++ p.entries) p.next) h

  steps_same : (k : ℕ) (at by : TapeProgress) → plain_tape at ≡ plain_tape by
      → plain_result (tape_steps code k at) ≡ plain_result (tape_steps code k by)
  steps_same zero at by h = ap (tape_result []) h
  steps_same (suc k) (Plays t) (Plays u) h =
      let first = one t ∙ ap (λ p. plain_result (tape_step code p)) (same_config (plain_config t) (plain_config u) h)
      ∙ sym (one u) in
      both (tape_step code t).entries (tape_step code u).entries (tape_steps code k (tape_step code t).next)
      (tape_steps code k (tape_step code u).next) (ap (λ (p : TapeResult). p.entries) first)
      (steps_same k (tape_step code t).next (tape_step code u).next (ap (λ (p : TapeResult). p.next) first))
  steps_same (suc k) (Plays t) (Over b) h = cc
  steps_same (suc k) (Plays t) Disagrees h = cc
  steps_same (suc k) (Plays t) TapeNoRule h = cc
  steps_same (suc k) (Over a) (Plays u) h = cc
  steps_same (suc k) (Over a) (Over b) h = ap (tape_result []) h
  steps_same (suc k) (Over a) Disagrees h = cc
  steps_same (suc k) (Over a) TapeNoRule h = cc
  steps_same (suc k) Disagrees (Plays u) h = cc
  steps_same (suc k) Disagrees (Over b) h = cc
  steps_same (suc k) Disagrees Disagrees h = refl
  steps_same (suc k) Disagrees TapeNoRule h = cc
  steps_same (suc k) TapeNoRule (Plays u) h = cc
  steps_same (suc k) TapeNoRule (Over b) h = cc
  steps_same (suc k) TapeNoRule Disagrees h = cc
  steps_same (suc k) TapeNoRule TapeNoRule h = refl

  is_over : (next : TapeProgress) (outcome : Outcome) → plain_tape next ≡ Over outcome → next ≡ Over outcome
  is_over (Plays t) outcome h = cc
  is_over (Over a) outcome h = h
  is_over Disagrees outcome h = cc
  is_over TapeNoRule outcome h = cc

  -- a tape's run that comes to an outcome does so with any counts
  over_with_any : (store : Store) (stack : List Activation) (counts other : List ℕ) (left : List Segment) (came : Origin)
      (k : ℕ) (history : List Entry) (outcome : Outcome)
      → tape_steps code k (Plays (at_place store stack counts left came)) ≡ tape_result history (Over outcome)
      → tape_steps code k (Plays (at_place store stack other left came)) ≡ tape_result history (Over outcome)
  over_with_any store stack counts other left came k history outcome h =
      let same = steps_same k (Plays (at_place store stack other left came))
      (Plays (at_place store stack counts left came)) refl ∙ ap plain_result h in
      let r = tape_steps code k (Plays (at_place store stack other left came)) in
      ap (λ n. tape_result r.entries n) (is_over r.next outcome (ap (λ (p : TapeResult). p.next) same))
      ∙ ap (λ es. tape_result es (Over outcome)) (ap (λ (p : TapeResult). p.entries) same)

pub counts_do_not_matter : CountsDoNotMatter
counts_do_not_matter code = over_with_any code
