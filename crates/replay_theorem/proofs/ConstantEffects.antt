-- The effects of a needed tape are constants, if what the run reads is.
use Rattle.std.proofs.Common.{◌≡◌, ℕ, ◌^◌, ◌<◌, List, [], ◌∷◌, ◌++◌, Option, Some, None, true, cond, nat_eq, sym, ap, ◌∙◌, subst, arith}
use Rattle.std.specs.Prelude.{All, IfSome}
use Rattle.std.specs.List.{AllByRecursion}
use Rattle.std.specs.Option.{option_or}
use Rattle.std.proofs.lemmas.Bool.Decides.{nat_tests}
use Rattle.std.proofs.lemmas.List.Elements.{recursion_from_All}
use Rattle.base.proofs.Options.{cond_some}
use Rattle.base.proofs.Booleans.{own_number}
use Rattle.wasm_syntax.specs.declared.values.Val.{Val}
use Rattle.wasm_syntax.specs.Typing.{is_constant}
use Rattle.trace_model.specs.declared.tapes.Effect.{Effect}
use Rattle.trace_model.specs.declared.tapes.Effect.TheVariants.{Grow, Table, Bytes, Entry, Global}
use Rattle.trace_model.specs.declared.tapes.Segment.{Segment}
use Rattle.trace_model.specs.Effects.{are_ordered_after, are_ordered}
use Rattle.record_replay_spec.specs.Alike.{same_option, same_value}
use Rattle.record_replay_spec.specs.Observations.{Observation, Begins, Ends, ReadsEntry, ReadsGlobal}
use Rattle.record_replay_spec.specs.Known.{Known, read_entry, read_global, written_entry, written_global, last_some}
use Rattle.record_replay_spec.specs.Windows.{window, unless_some, first_entry, first_global}
use Rattle.record_replay_spec.specs.Needed.{effect_entry, effect_global, AreNeeded, AreNeededSegments}
use Rattle.record_replay_spec.proofs.OneList.{entries_after, globals_after, ordered_rest}
use Rattle.tape_laws.proofs.Activities.{needed_is}
use Rattle.generated_code_laws.specs.Playable.{WritesBytes, AllWriteBytes}
use Rattle.replay_module_laws.specs.Written.{IsConstantEffect, IsConstantNext, IsConstantSegment}
use Rattle.replay_theorem.proofs.ConstantRuns.{AreConstantSeen, IsConstantSeen}

-- ---- what a window reads first

window_constant : (later : List Observation) → AreConstantSeen later → AreConstantSeen (window later)
window_constant [] all = tt
window_constant (Begins origin ∷ later) all = tt
window_constant (o ∷ later) all = (all.0, window_constant later all.1)

-- what is read first is read by one of the observations
first_of : {X : Type 0} (P : X → Type 0) (read written rest : Option X) (x : X) → ((y : X) → read ≡ Some y → P y)
    → ((y : X) → rest ≡ Some y → P y) → option_or read (unless_some written rest) ≡ Some x → P x
first_of P (Some y) written rest x a b is = a x is
first_of P None (Some w) rest x a b is = cc
first_of P None None rest x a b is = b x is

entry_read : (o : Observation) (at : ℕ) (x : Option ℕ) → IsConstantSeen o → read_entry at o ≡ Some x → at < 2 ^ 32
entry_read (ReadsEntry index func) at x small is =
    let t = (cond_some (nat_eq index at) (Some func) x is).0 in
    let same : index ≡ at = grind (arith, nat_tests, t) in
    omega (arith, same, small)
entry_read o at x small is = cc

first_entries : (seen : List Observation) → AreConstantSeen seen → (at : ℕ) (x : Option ℕ)
    → first_entry seen at ≡ Some x → at < 2 ^ 32
first_entries [] all at x is = cc
first_entries (o ∷ seen) all at x is =
    first_of (λ _. at < 2 ^ 32) (read_entry at o) (written_entry at o) (first_entry seen at) x
    (λ y h. entry_read o at y all.0 h) (λ y h. first_entries seen all.1 at y h) is

abbrev IsConstantGlobal : Option Val → Type 0
IsConstantGlobal found = IfSome found (λ value. is_constant value ≡ true)

global_read : (o : Observation) (at : ℕ) (x : Option Val) → IsConstantSeen o → read_global at o ≡ Some x
    → IsConstantGlobal x
global_read (ReadsGlobal global value) at x constant is =
    let e = (cond_some (nat_eq global at) (Some (Some value)) x is).1 in
    let same : Some value ≡ x = cc in
    subst IsConstantGlobal same constant
global_read o at x constant is = cc

first_globals : (seen : List Observation) → AreConstantSeen seen → (at : ℕ) (x : Option Val)
    → first_global seen at ≡ Some x → IsConstantGlobal x
first_globals [] all at x is = cc
first_globals (o ∷ seen) all at x is =
    first_of IsConstantGlobal (read_global at o) (written_global at o) (first_global seen at) x
    (λ y h. global_read o at y all.0 h) (λ y h. first_globals seen all.1 at y h) is

-- ---- effects in their order

abbrev GiveEntries : List Effect → Type 0
GiveEntries effects = (at : ℕ) (x : Option ℕ) → last_some (effect_entry at) effects ≡ Some x → at < 2 ^ 32

abbrev GiveGlobals : List Effect → Type 0
GiveGlobals effects = (at : ℕ) (x : Option Val) → last_some (effect_global at) effects ≡ Some x → IsConstantGlobal x

one_constant : (effect : Effect) (effects : List Effect) → are_ordered_after effect effects ≡ true
    → GiveEntries (effect ∷ effects) → GiveGlobals (effect ∷ effects) → WritesBytes effect → IsConstantEffect effect
one_constant (Bytes addr bytes) effects order entries globals writes =
    recursion_from_All (λ byte. byte < 256) bytes writes
one_constant (Entry index func) effects order entries globals writes =
    let none = entries_after index func index effects (omega arith) order in
    let own = own_number index in
    entries index func (λ i. option_or (none i) (cond (own i) (Some func) None))
one_constant (Global global value) effects order entries globals writes =
    let none = globals_after global value global effects (omega arith) order in
    let own = own_number global in
    globals global (Some value) (λ i. option_or (none i) (cond (own i) (Some (Some value)) None))
one_constant (Grow pages) effects order entries globals writes = tt
one_constant (Table size) effects order entries globals writes = tt

all_constant : (effects : List Effect) → are_ordered effects ≡ true → GiveEntries effects → GiveGlobals effects
    → AllByRecursion WritesBytes effects → AllByRecursion IsConstantEffect effects
all_constant [] order entries globals writes = tt
all_constant (effect ∷ effects) order entries globals writes = (
  one_constant effect effects order entries globals writes.0,
  all_constant effects (ordered_rest effect effects order)
      (λ at x is. entries at x (ap (λ o. option_or o (effect_entry at effect)) is))
      (λ at x is. globals at x (ap (λ o. option_or o (effect_global at effect)) is)) writes.1,
)

-- ---- segments

effects_constant : (known : Known) (seen : List Observation) (effects : List Effect) → AreConstantSeen seen
    → AreNeeded known seen effects → All WritesBytes effects → AllByRecursion IsConstantEffect effects
effects_constant known seen effects all needed writes =
    all_constant effects needed.ordered
    (λ at x is.
    first_entries seen all at x
    (needed_is (same_option nat_eq) (known.entry at) (first_entry seen at) x (sym (needed.entry at) ∙ is)).0)
    (λ at x is.
    first_globals seen all at x
    (needed_is (same_option same_value) (known.global at) (first_global seen at) x (sym (needed.global at) ∙ is)).0)
    (recursion_from_All WritesBytes effects writes)

pub segments_constant : (opening : Known) (seen later : List Observation) (segments : List Segment)
    → AreNeededSegments opening seen later segments → AreConstantSeen later → AllByRecursion AllWriteBytes segments
    → AllByRecursion IsConstantSegment segments
segments_constant opening seen [] [] needed all writes = tt
segments_constant opening seen [] (segment ∷ segments) needed all writes = absurd needed
segments_constant opening seen (Begins origin ∷ Ends next ∷ later) (segment ∷ segments) needed all writes = (
  record {
    effects = effects_constant _ (window later) segment.effects (window_constant later all.1.1) needed.0.changes
        writes.0;
    next = subst IsConstantNext (sym needed.0.leaves) all.1.0;
  },
  segments_constant opening seen later segments needed.1 all.1.1 writes.1,
)
segments_constant opening seen (Begins origin ∷ later) segments needed all writes = absurd needed
segments_constant opening seen (o ∷ later) segments needed all writes =
    segments_constant opening (seen ++ o ∷ []) later segments needed all.1 writes
