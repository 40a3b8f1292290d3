-- A run, the tape that it needs and the run of its replay module have the same number of activities of the host.
use Rattle.std.proofs.Common.{◌≡◌, ℕ, zero, suc, ◌+◌, List, [], ◌∷◌, ◌++◌, length, Option, Some, None, slice_get, refl, sym, ap, ◌∙◌, arith}
use Rattle.std.specs.List.{AllByRecursion}
use Rattle.wasm_syntax.specs.declared.values.Val.{Val}
use Rattle.wasm_syntax.specs.declared.instructions.Instr.{Instr}
use Rattle.wasm_syntax.specs.declared.instructions.Instr.TheVariants.{CallIndirect, GlobalGet, GlobalSet, Load, Store as StoreTo, MemorySize, MemoryGrow, MemoryCopy, MemoryFill, TableSet, TableGrow, TableSize}
use Rattle.wasm_syntax.specs.Nest.{Nest, Plain}
use Rattle.wasm_syntax.specs.Opcodes.{load_of, store_of}
use Rattle.base.specs.declared.outcomes.Outcome.TheVariants.{Ended}
use Rattle.trace_model.specs.declared.tapes.Segment.{Segment}
use Rattle.history_spec.specs.declared.entries.Entry.{Entry}
use Rattle.history_spec.specs.declared.entries.Entry.TheVariants.{HostCall, HostReturn, ImportCall, ImportReturn, HostTrap}
use Rattle.history_spec.specs.Store.{Store, bytes_at, bytes_of, with_bytes_at, with_entry}
use Rattle.history_spec.specs.Instruction.{referent}
use Rattle.history_spec.specs.Configuration.{Activation, InModule}
use Rattle.history_spec.specs.Step.{Program, Progress, Running, Finished, Faulted, Stuck, StepResult, step}
use Rattle.history_spec.specs.Run.{all_one, run_from, steps}
use Rattle.record_replay_spec.specs.Observations.{Observation, Begins, Ends, bits_from_top, on, plain_observations, nest_observations, stack_observations, activity_observations, end_observations, observations, run_observations}
use Rattle.record_replay_spec.specs.Known.{Known}
use Rattle.record_replay_spec.specs.Needed.{AreNeededSegments}
use Rattle.replay_run_spec.specs.Items.{Item, Makes, Changes, Steps, entries_in}
use Rattle.replay_run_spec.specs.Stretches.{stretches, stretches_from}

-- ---- what instructions observe

-- an observation begins no activity of the host
abbrev IsInner : Observation → Type 0
IsInner (Begins origin) = ⊥
IsInner o = Unit {0}

abbrev AreInner : List Observation → Type 0
AreInner seen = AllByRecursion IsInner seen

inner_on : {X : Type 0} (o : Option X) (observe : X → List Observation) → ((x : X) → AreInner (observe x))
    → AreInner (on o observe)
inner_on None observe each = tt
inner_on (Some x) observe each = each x

inner_plain : (store : Store) (values : List Val) (i : Instr) → AreInner (plain_observations store values i)
inner_plain store values (Load at) =
    inner_on (load_of at.op) _ (λ access.
    inner_on store.memory _ (λ memory. (
      tt,
      inner_on (bytes_at memory.bytes (bits_from_top values 0 + at.offset) access.width) _ (λ bytes. (tt, tt)),
    )))
inner_plain store values (StoreTo at) =
    inner_on (store_of at.op) _ (λ access.
    inner_on store.memory _ (λ memory. (
      tt,
      inner_on
          (with_bytes_at memory.bytes (bits_from_top values 1 + at.offset)
          (bytes_of access.width (bits_from_top values 0))) _ (λ all. (tt, tt)),
    )))
inner_plain store values MemorySize = inner_on store.memory _ (λ memory. (tt, tt))
inner_plain store values MemoryGrow = inner_on store.memory _ (λ memory. (tt, tt))
inner_plain store values MemoryCopy =
    inner_on store.memory _ (λ memory. (
      tt,
      (
        tt,
        inner_on (bytes_at memory.bytes (bits_from_top values 1) (bits_from_top values 0)) _ (λ bytes.
            inner_on (with_bytes_at memory.bytes (bits_from_top values 2) bytes) _ (λ all. (tt, (tt, tt)))),
      ),
    ))
inner_plain store values MemoryFill =
    inner_on store.memory _ (λ memory. (
      tt,
      inner_on (with_bytes_at memory.bytes (bits_from_top values 2) _) _ (λ all. (tt, tt)),
    ))
inner_plain store values (CallIndirect t) =
    inner_on store.table _ (λ table. (
      tt,
      inner_on (slice_get table.entries (bits_from_top values 0)) _ (λ func. (tt, tt)),
    ))
inner_plain store values (TableSet t) =
    inner_on store.table _ (λ table. (
      tt,
      inner_on (with_entry table.entries (bits_from_top values 1) (referent (bits_from_top values 0))) _
          (λ all. (tt, tt)),
    ))
inner_plain store values (TableSize t) = inner_on store.table _ (λ table. (tt, tt))
inner_plain store values (TableGrow t) = inner_on store.table _ (λ table. (tt, tt))
inner_plain store values (GlobalGet x) = inner_on (slice_get store.globals x) _ (λ value. (tt, tt))
inner_plain store values (GlobalSet x) = inner_on (slice_get values 0) _ (λ value. (tt, tt))
inner_plain store values i = tt

inner_stack : (store : Store) (stack : List Activation) → AreInner (stack_observations store stack)
inner_stack store (InModule frame ∷ below) = go frame.at.rest
  where
    go : (nest : Nest) → AreInner (nest_observations store frame.values nest)
    go (Plain i rest) = inner_plain store frame.values i
    go nest = tt
inner_stack store stack = tt

-- ---- activities of a run

-- the number of activities that begin
abbrev begins : List Observation → ℕ
begins [] = 0
begins (Begins origin ∷ later) = suc (begins later)
begins (o ∷ later) = begins later

abbrev pub entered : List Entry → ℕ
entered [] = 0
entered (ImportCall import args ∷ later) = suc (entered later)
entered (HostReturn func results ∷ later) = suc (entered later)
entered (entry ∷ later) = entered later

inner_begins : (seen later : List Observation) → AreInner seen → begins (seen ++ later) ≡ begins later
inner_begins [] later inner = refl
inner_begins (Begins origin ∷ seen) later inner = absurd inner.0
inner_begins (o ∷ seen) later inner = inner_begins seen later inner.1

activity_begins : (entries : List Entry) (later : List Observation)
    → begins (activity_observations entries ++ later) ≡ entered entries + begins later
activity_begins [] later = omega arith
activity_begins (HostCall func args ∷ entries) later = activity_begins entries later
activity_begins (HostReturn func results ∷ entries) later = let h = activity_begins entries later in omega (arith, h)
activity_begins (ImportCall import args ∷ entries) later = let h = activity_begins entries later in omega (arith, h)
activity_begins (ImportReturn import results ∷ entries) later = activity_begins entries later
activity_begins (HostTrap ∷ entries) later = activity_begins entries later
activity_begins (entry ∷ entries) later = activity_begins entries later

entered_both : (first second : List Entry) → entered (first ++ second) ≡ entered first + entered second
entered_both [] second = omega arith
entered_both (ImportCall import args ∷ first) second = let h = entered_both first second in omega (arith, h)
entered_both (HostReturn func results ∷ first) second = let h = entered_both first second in omega (arith, h)
entered_both (entry ∷ first) second = entered_both first second

end_begins : (at : Progress) → begins (end_observations at) ≡ 0
end_begins (Finished Ended) = refl
end_begins at = refl

module _ (program : Program) where
  steps_begin : (k : ℕ) (at : Progress)
      → begins (observations program k at) ≡ entered (steps program all_one k at).history
  steps_begin (suc k) (Running config) =
      inner_begins (stack_observations config.store config.stack) _ (inner_stack config.store config.stack)
      ∙ activity_begins (step program config).entries (observations program k (step program config).next)
      ∙ ap (λ n. entered (step program config).entries + n) (steps_begin k (step program config).next)
      ∙ sym
      (entered_both (step program config).entries (steps program all_one k (step program config).next).history)
  steps_begin zero (Running config) = refl
  steps_begin zero (Finished outcome) = end_begins (Finished outcome)
  steps_begin zero (Faulted kind) = refl
  steps_begin zero Stuck = refl
  steps_begin (suc k) (Finished outcome) = end_begins (Finished outcome)
  steps_begin (suc k) (Faulted kind) = refl
  steps_begin (suc k) Stuck = refl

  run_begins : (initial : StepResult) (k : ℕ)
      → begins (run_observations program initial k) ≡ suc (entered (run_from program all_one initial k).history)
  run_begins initial k =
      ap suc
      (activity_begins initial.entries (observations program k initial.next)
      ∙ ap (λ n. entered initial.entries + n) (steps_begin k initial.next)
      ∙ sym (entered_both initial.entries (steps program all_one k initial.next).history))

-- ---- segments and stretches

segments_begin : (opening : Known) (seen later : List Observation) (segments : List Segment)
    → AreNeededSegments opening seen later segments → length segments ≡ begins later
segments_begin opening seen [] [] needed = refl
segments_begin opening seen [] (segment ∷ segments) needed = absurd needed
segments_begin opening seen (Begins origin ∷ Ends next ∷ later) (segment ∷ segments) needed =
    ap suc (segments_begin opening seen later segments needed.1)
segments_begin opening seen (Begins origin ∷ later) segments needed = absurd needed
segments_begin opening seen (o ∷ later) segments needed =
    segments_begin opening (seen ++ o ∷ []) later segments needed

-- a needed tape has one segment more than activities begin in the run
pub needed_count : (program : Program) (initial : StepResult) (k : ℕ) (opening : Known) (segments : List Segment)
    → AreNeededSegments opening [] (run_observations program initial k) segments
    → length segments ≡ suc (entered (run_from program all_one initial k).history)
needed_count program initial k opening segments needed =
    segments_begin opening [] (run_observations program initial k) segments needed ∙ run_begins program initial k

later_count : (items : List Item) → length (stretches_from items).later ≡ entered (entries_in items)
later_count [] = refl
later_count (Makes (ImportCall import args) ∷ items) = ap suc (later_count items)
later_count (Makes (HostReturn func results) ∷ items) = ap suc (later_count items)
later_count (Makes entry ∷ items) = later_count items
later_count (Changes change ∷ items) = later_count items
later_count (Steps block ∷ items) = later_count items

-- items have one stretch more than activities begin in them
pub stretch_count : (items : List Item) → length (stretches items) ≡ suc (entered (entries_in items))
stretch_count items = ap suc (later_count items)
