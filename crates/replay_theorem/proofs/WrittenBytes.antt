-- The bytes that the effects of a needed tape write are bytes, if the run reads bytes.
use Rattle.std.proofs.Common.{◌≡◌, ℕ, ◌+◌, ◌-◌, ◌<◌, ◌≤◌, List, [], ◌∷◌, ◌++◌, length, Option, Some, None, true, false, cond, nat_le, nat_lt, nat_eq, slice_get, refl, sym, ap, ◌∙◌, subst, arith}
use Rattle.std.specs.List.{All, AllByRecursion}
use Rattle.std.specs.Option.{option_or}
use Rattle.std.proofs.lemmas.Bool.Decides.{nat_tests}
use Rattle.std.proofs.lemmas.List.Elements.{All-from_recursion}
use Rattle.std.proofs.lemmas.Option.{get_or_from_slice_get}
use Rattle.base.proofs.Booleans.{and_left, and_right}
use Rattle.base.proofs.Lists.{item_there}
use Rattle.history_spec.proofs.PlacedBytes.{byte_in}
use Rattle.trace_model.specs.declared.tapes.Effect.{Effect}
use Rattle.trace_model.specs.declared.tapes.Effect.TheVariants.{Bytes, Entry, Global}
use Rattle.trace_model.specs.declared.tapes.Segment.{Segment}
use Rattle.trace_model.specs.Effects.{are_ordered_after, are_ordered}
use Rattle.record_replay_spec.specs.Observations.{Observation, Begins, Ends}
use Rattle.record_replay_spec.specs.Known.{Known, read_byte, written_byte, last_some}
use Rattle.record_replay_spec.specs.Windows.{window, unless_some, first_byte}
use Rattle.record_replay_spec.specs.Needed.{effect_byte, AreNeeded, AreNeededSegments}
use Rattle.record_replay_spec.proofs.OneList.{ordered_rest}
use Rattle.tape_laws.proofs.Activities.{needed_is}
use Rattle.tape_laws.proofs.FitEffects.{none_after_global}
use Rattle.generated_code_laws.specs.Playable.{WritesBytes, AllWriteBytes}
use Rattle.replay_theorem.proofs.ReadBytes.{AllReadBytes}

-- ---- what a window reads first

window_bytes : (later : List Observation) → AllReadBytes later → AllReadBytes (window later)
window_bytes [] all = tt
window_bytes (Begins origin ∷ later) all = tt
window_bytes (o ∷ later) all = (all.0, window_bytes later all.1)

first_part : (read written rest : Option ℕ) (x : ℕ) → ((y : ℕ) → read ≡ Some y → y < 256)
    → ((y : ℕ) → rest ≡ Some y → y < 256) → option_or read (unless_some written rest) ≡ Some x → x < 256
first_part (Some y) written rest x a b is = a x is
first_part None (Some w) rest x a b is = cc
first_part None None rest x a b is = b x is

first_bytes : (seen : List Observation) → AllReadBytes seen → (at x : ℕ) → first_byte seen at ≡ Some x → x < 256
first_bytes [] all at x is = cc
first_bytes (o ∷ seen) all at x is =
    first_part (read_byte at o) (written_byte at o) (first_byte seen at) x (all.0 at) (first_bytes seen all.1 at) is

-- ---- effects in their order

-- after an effect on an entry no bytes are written; after an effect on bytes, none at or below the end of these
bytes_after_entry : (index : ℕ) (func : Option ℕ) (at : ℕ) (effects : List Effect)
    → are_ordered_after (Entry index func) effects ≡ true → last_some (effect_byte at) effects ≡ None
bytes_after_entry index func at [] h = refl
bytes_after_entry index func at (Entry x f ∷ effects) h =
    ap (λ o. option_or o None)
    (bytes_after_entry x f at effects (and_right (nat_lt index x) (are_ordered_after (Entry x f) effects) h))
bytes_after_entry index func at (Global x v ∷ effects) h =
    ap (λ o. option_or o None) (none_after_global (effect_byte at) (λ x v. refl) x v effects h)
bytes_after_entry index func at (effect ∷ effects) h = cc

bytes_after : (address : ℕ) (bytes : List ℕ) (at : ℕ) (effects : List Effect) → at ≤ address + length bytes
    → are_ordered_after (Bytes address bytes) effects ≡ true → last_some (effect_byte at) effects ≡ None
bytes_after address bytes at [] low h = refl
bytes_after address bytes at (Bytes other more ∷ effects) low h =
    let t : nat_lt (address + length bytes) other ≡ true = and_left (nat_lt (address + length bytes) other)
    (are_ordered_after (Bytes other more) effects) h in
    let less : address + length bytes < other = grind (arith, nat_tests, t) in
    let later = bytes_after other more at effects (omega (arith, low, less))
    (and_right (nat_lt (address + length bytes) other) (are_ordered_after (Bytes other more) effects) h) in
    let above : at < other = omega (arith, low, less) in
    let before : nat_le other at ≡ false = grind (arith, nat_tests, above) in
    (λ i. option_or (later i) (cond (before i) (slice_get more (at - other)) None))
bytes_after address bytes at (Entry index func ∷ effects) low h =
    ap (λ o. option_or o None) (bytes_after_entry index func at effects h)
bytes_after address bytes at (Global global value ∷ effects) low h =
    ap (λ o. option_or o None) (none_after_global (effect_byte at) (λ x v. refl) global value effects h)
bytes_after address bytes at (effect ∷ effects) low h = cc

abbrev GiveBytes : List Effect → Type 0
GiveBytes effects = (at x : ℕ) → last_some (effect_byte at) effects ≡ Some x → x < 256

one_writes : (effect : Effect) (effects : List Effect) → are_ordered_after effect effects ≡ true
    → GiveBytes (effect ∷ effects) → WritesBytes effect
one_writes (Bytes address bytes) effects order give =
    λ k d below.
    let item = item_there bytes k below in
    let none = bytes_after address bytes (address + k) effects (omega (arith, below)) order in
    let here = byte_in address k bytes ∙ item.1 in
    subst (λ n. n < 256) (sym (get_or_from_slice_get bytes k item.0 d item.1))
    (give (address + k) item.0 (λ i. option_or (none i) (here i)))
one_writes effect effects order give = tt

all_write : (effects : List Effect) → are_ordered effects ≡ true → GiveBytes effects
    → AllByRecursion WritesBytes effects
all_write [] order give = tt
all_write (effect ∷ effects) order give = (
  one_writes effect effects order give,
  all_write effects (ordered_rest effect effects order)
      (λ at x is. give at x (ap (λ o. option_or o (effect_byte at effect)) is)),
)

-- ---- segments

needed_write : (known : Known) (seen : List Observation) (effects : List Effect) → AllReadBytes seen
    → AreNeeded known seen effects → All WritesBytes effects
needed_write known seen effects all needed =
    All-from_recursion WritesBytes effects
    (all_write effects needed.ordered
    (λ at x is.
    first_bytes seen all at x
    (needed_is nat_eq (known.byte at) (first_byte seen at) x (sym (needed.byte at) ∙ is)).0))

segments_write : (opening : Known) (seen later : List Observation) (segments : List Segment)
    → AreNeededSegments opening seen later segments → AllReadBytes later → AllByRecursion AllWriteBytes segments
segments_write opening seen [] [] needed all = tt
segments_write opening seen [] (segment ∷ segments) needed all = absurd needed
segments_write opening seen (Begins origin ∷ Ends next ∷ later) (segment ∷ segments) needed all = (
  needed_write _ (window later) segment.effects (window_bytes later all.1.1) needed.0.changes,
  segments_write opening seen later segments needed.1 all.1.1,
)
segments_write opening seen (Begins origin ∷ later) segments needed all = absurd needed
segments_write opening seen (o ∷ later) segments needed all =
    segments_write opening (seen ++ o ∷ []) later segments needed all.1

pub needed_segments_write : (opening : Known) (seen later : List Observation) (segments : List Segment)
    → AreNeededSegments opening seen later segments → AllReadBytes later → All AllWriteBytes segments
needed_segments_write opening seen later segments needed all =
    All-from_recursion AllWriteBytes segments (segments_write opening seen later segments needed all)
