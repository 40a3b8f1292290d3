-- Effects for ascending places: one effect for each place, or the longest runs of bytes.
use Rattle.std.proofs.Common.{◌≡◌, ℕ, zero, suc, ◌+◌, ◌-◌, ◌<◌, ◌≤◌, List, [], ◌∷◌, length, Option, Some, None, Bool, true, false, cond, nat_le, nat_lt, nat_eq, slice_get, refl, sym, ap, ◌∙◌, subst, arith}
use Rattle.std.specs.Prelude.{option_map}
use Rattle.std.specs.Option.{option_or}
use Rattle.std.specs.List.{list_all}
use Rattle.std.proofs.lemmas.Bool.Decides.{nat_tests}
use Rattle.base.proofs.Booleans.{and_left, and_right, and_true}
use Rattle.base.proofs.Options.{or_none}
use Rattle.wasm_syntax.specs.declared.values.Val.{Val}
use Rattle.trace_model.specs.declared.tapes.Effect.{Effect}
use Rattle.trace_model.specs.declared.tapes.Effect.TheVariants.{Bytes, Entry, Global}
use Rattle.trace_model.specs.Effects.{are_ordered_after, are_ordered}
use Rattle.record_replay_spec.specs.Known.{byte_among, last_some}
use Rattle.record_replay_spec.specs.Needed.{effect_byte, has_bytes}
use Rattle.tape_laws.proofs.Effects.{IsChange, AreChanges}

no_choice : {X : Type 0} (b : Bool) (o : Option X) → o ≡ cond b o o
no_choice true o = refl
no_choice false o = refl

-- the values at and after a place
abbrev pub from_place : {X : Type 0} → ℕ → (ℕ → Option X) → ℕ → Option X
from_place at f x = cond (nat_le at x) (f x) None

-- ---- one effect for each place

-- an effect at a place, if any, in front of others
abbrev pub with_effect : {A : Type 0} → (ℕ → A → Effect) → ℕ → Option A → List Effect → List Effect
with_effect make at None rest = rest
with_effect make at (Some a) rest = make at a ∷ rest

-- the effects of `n` places from `at` on, in front of others
abbrev pub effects_from : {A : Type 0} → (ℕ → A → Effect) → (ℕ → Option A) → (at n : ℕ) → List Effect → List Effect
effects_from make f at zero tail = tail
effects_from make f at (suc n) tail = with_effect make at (f at) (effects_from make f (suc at) n tail)

-- one more place in front of the places after it
from_next_place : {X : Type 0} (f : ℕ → Option X) (at x : ℕ) (o : Option X) → f at ≡ o
    → option_or (from_place (suc at) f x) (option_or (cond (nat_eq at x) o None) None) ≡ from_place at f x
from_next_place f at x o is = go (nat_eq at x) refl
  where
    go : (b : Bool) → nat_eq at x ≡ b
        → option_or (cond (nat_le (suc at) x) (f x) None) (option_or (cond (nat_eq at x) o None) None)
        ≡ cond (nat_le at x) (f x) None
    go true p =
        let same : at ≡ x = grind (arith, nat_tests, p) in
        let past : nat_le (suc at) x ≡ false = grind (arith, nat_tests, same) in
        let here : nat_le at x ≡ true = grind (arith, nat_tests, same) in
        (λ i. option_or (cond (past i) (f x) None) (option_or (cond (p i) o None) None))
        ∙ or_none o ∙ sym is ∙ ap f same ∙ sym (ap (λ b. cond b (f x) None) here)
    go false p =
        let both : nat_le (suc at) x ≡ nat_le at x = grind (arith, nat_tests, p) in
        (λ i. option_or (cond (both i) (f x) None) (option_or (cond (p i) o None) None))
        ∙ or_none (cond (nat_le at x) (f x) None)

-- no value is at or after the end
from_end_place : {X : Type 0} (f : ℕ → Option X) (at x : ℕ) → ((x : ℕ) → at ≤ x → f x ≡ None) → None ≡ from_place at f x
from_end_place f at x ends = go (nat_le at x) refl
  where
    go : (b : Bool) → nat_le at x ≡ b → None ≡ cond (nat_le at x) (f x) None
    go true p = sym (ap (λ b. cond b (f x) None) p ∙ ends x (grind (arith, nat_tests, p)))
    go false p = sym (ap (λ b. cond b (f x) None) p)

-- all values are at or after place 0
pub from_first_place : {X : Type 0} (f : ℕ → Option X) (x : ℕ) → from_place 0 f x ≡ f x
from_first_place f x =
    let p : nat_le 0 x ≡ true = grind (arith, nat_tests) in
    ap (λ b. cond b (f x) None) p

module _ {A X : Type 0} (make : ℕ → A → Effect) (wrap : A → X) (part : ℕ → Effect → Option X)
    (own : (i : ℕ) (a : A) (x : ℕ) → part x (make i a) ≡ cond (nat_eq i x) (Some (wrap a)) None) where
  -- effects give the values at their places
  pub effects_give : (f : ℕ → Option A) (at n : ℕ) (tail : List Effect) (x : ℕ) → ((x : ℕ) → at + n ≤ x → f x ≡ None)
      → last_some (part x) tail ≡ None
      → last_some (part x) (effects_from make f at n tail) ≡ from_place at (λ y. option_map wrap (f y)) x
  effects_give f at zero tail x ends none =
      none ∙ from_end_place (λ y. option_map wrap (f y)) at x
      (λ y past. ap (option_map wrap) (ends y (omega (arith, past))))
  effects_give f at (suc n) tail x ends none =
      go (f at) refl (effects_from make f (suc at) n tail)
      (effects_give f (suc at) n tail x (λ y past. ends y (omega (arith, past))) none)
    where
      go : (o : Option A) → f at ≡ o → (rest : List Effect)
          → last_some (part x) rest ≡ from_place (suc at) (λ y. option_map wrap (f y)) x
          → last_some (part x) (with_effect make at (f at) rest) ≡ from_place at (λ y. option_map wrap (f y)) x
      go None is rest later =
          ap (λ o. last_some (part x) (with_effect make at o rest)) is
          ∙ later ∙ sym (or_none (from_place (suc at) (λ y. option_map wrap (f y)) x))
          ∙ ap (λ o. option_or (from_place (suc at) (λ y. option_map wrap (f y)) x) (option_or o None))
          (no_choice (nat_eq at x) None)
          ∙ from_next_place (λ y. option_map wrap (f y)) at x None (ap (option_map wrap) is)
      go (Some a) is rest later =
          ap (λ o. last_some (part x) (with_effect make at o rest)) is
          ∙ (λ i. option_or (later i) (own at a x i))
          ∙ ap (option_or (from_place (suc at) (λ y. option_map wrap (f y)) x))
          (sym (or_none (cond (nat_eq at x) (Some (wrap a)) None)))
          ∙ from_next_place (λ y. option_map wrap (f y)) at x (Some (wrap a)) (ap (option_map wrap) is)

module _ {A : Type 0} (make : ℕ → A → Effect) where
  -- effects give nothing of another part
  pub effects_keep : {X : Type 0} (part : Effect → Option X) → ((i : ℕ) (a : A) → part (make i a) ≡ None)
      → (f : ℕ → Option A) (at n : ℕ) (tail : List Effect)
      → last_some part (effects_from make f at n tail) ≡ last_some part tail
  effects_keep part other f at zero tail = refl
  effects_keep part other f at (suc n) tail =
      go (f at) (effects_from make f (suc at) n tail) (effects_keep part other f (suc at) n tail)
    where
      go : (o : Option A) (rest : List Effect) → last_some part rest ≡ last_some part tail
          → last_some part (with_effect make at o rest) ≡ last_some part tail
      go None rest same = same
      go (Some a) rest same =
          (λ i. option_or (same i) (other at a i)) ∙ or_none (last_some part tail)

-- ordered changes, which may follow an effect at a place below `at`
pub record ArePlaced (From : ℕ → List Effect → Type 0) (at : ℕ) (effects : List Effect) : Type 0 where
  pub changes : AreChanges effects
  pub nonempty : list_all has_bytes effects ≡ true
  pub ordered : are_ordered effects ≡ true
  pub start : From at effects

-- an effect for a place is a change, and may come before effects for later places
pub record IsPlacing {A : Type 0} (make : ℕ → A → Effect) (From : ℕ → List Effect → Type 0) : Type 0 where
  pub is_change : (i : ℕ) (a : A) → IsChange (make i a)
  pub filled : (i : ℕ) (a : A) → has_bytes (make i a) ≡ true
  pub less : (i : ℕ) (effects : List Effect) → From (suc i) effects → From i effects
  pub own : (i : ℕ) (a : A) (effects : List Effect) → From i (make i a ∷ effects)
  pub before : (i : ℕ) (a : A) (effects : List Effect) → From (suc i) effects → are_ordered effects ≡ true
      → are_ordered_after (make i a) effects ≡ true

pub effects_are : {A : Type 0} (make : ℕ → A → Effect) (From : ℕ → List Effect → Type 0) → IsPlacing make From
    → (f : ℕ → Option A) (at n : ℕ) (tail : List Effect) → ((i : ℕ) → ArePlaced From i tail)
    → ArePlaced From at (effects_from make f at n tail)
effects_are make From rules f at zero tail are = are at
effects_are {A = A} make From rules f at (suc n) tail are =
    go (f at) (effects_from make f (suc at) n tail) (effects_are make From rules f (suc at) n tail are)
  where
    go : (o : Option A) (effects : List Effect) → ArePlaced From (suc at) effects
        → ArePlaced From at (with_effect make at o effects)
    go None effects rest =
        record {
          changes = rest.changes;
          nonempty = rest.nonempty;
          ordered = rest.ordered;
          start = rules.less at effects rest.start;
        }
    go (Some a) effects rest =
        record {
          changes = (rules.is_change at a, rest.changes);
          nonempty =
              and_true (has_bytes (make at a)) (list_all has_bytes effects) (rules.filled at a) rest.nonempty;
          ordered = rules.before at a effects rest.start rest.ordered;
          start = rules.own at a effects;
        }

-- ---- globals, entries

abbrev pub GlobalFrom : ℕ → List Effect → Type 0
GlobalFrom at [] = Unit {0}
GlobalFrom at (Global global value ∷ effects) = at ≤ global
GlobalFrom at (effect ∷ effects) = ⊥

abbrev pub EntryFrom : ℕ → List Effect → Type 0
EntryFrom at [] = Unit {0}
EntryFrom at (Entry index func ∷ effects) = at ≤ index
EntryFrom at (Global global value ∷ effects) = Unit {0}
EntryFrom at (effect ∷ effects) = ⊥

less_global : (i : ℕ) (effects : List Effect) → GlobalFrom (suc i) effects → GlobalFrom i effects
less_global i [] h = tt
less_global i (Global global value ∷ effects) h = omega (arith, h)
less_global i (effect ∷ effects) h = absurd h

less_entry : (i : ℕ) (effects : List Effect) → EntryFrom (suc i) effects → EntryFrom i effects
less_entry i [] h = tt
less_entry i (Entry index func ∷ effects) h = omega (arith, h)
less_entry i (Global global value ∷ effects) h = tt
less_entry i (effect ∷ effects) h = absurd h

before_global : (i : ℕ) (value : Val) (effects : List Effect) → GlobalFrom (suc i) effects
    → are_ordered effects ≡ true → are_ordered_after (Global i value) effects ≡ true
before_global i value [] h order = refl
before_global i value (Global x v ∷ effects) h order =
    and_true (nat_lt i x) (are_ordered_after (Global x v) effects) (grind (arith, nat_tests, h)) order
before_global i value (effect ∷ effects) h order = absurd h

before_entry : (i : ℕ) (func : Option ℕ) (effects : List Effect) → EntryFrom (suc i) effects
    → are_ordered effects ≡ true → are_ordered_after (Entry i func) effects ≡ true
before_entry i func [] h order = refl
before_entry i func (Entry x f ∷ effects) h order =
    and_true (nat_lt i x) (are_ordered_after (Entry x f) effects) (grind (arith, nat_tests, h)) order
before_entry i func (Global x v ∷ effects) h order = order
before_entry i func (effect ∷ effects) h order = absurd h

placing : {A : Type 0} (make : ℕ → A → Effect) (From : ℕ → List Effect → Type 0)
    → ((i : ℕ) (a : A) → IsChange (make i a)) → ((i : ℕ) (a : A) → has_bytes (make i a) ≡ true)
    → ((i : ℕ) (a : A) (effects : List Effect) → From i (make i a ∷ effects))
    → ((i : ℕ) (effects : List Effect) → From (suc i) effects → From i effects)
    → ((i : ℕ) (a : A) (effects : List Effect) → From (suc i) effects → are_ordered effects ≡ true
    → are_ordered_after (make i a) effects ≡ true)
    → IsPlacing make From
placing make From change filled own less before =
    record { is_change = change; filled = filled; less = less; own = own; before = before }

pub global_placing : IsPlacing Global GlobalFrom
global_placing =
    placing Global GlobalFrom (λ i a. tt) (λ i a. refl) (λ i a effects. omega arith) less_global before_global

pub entry_placing : IsPlacing Entry EntryFrom
entry_placing = placing Entry EntryFrom (λ i a. tt) (λ i a. refl) (λ i a effects. omega arith) less_entry before_entry

pub globals_then_entries : (at : ℕ) (effects : List Effect) → GlobalFrom 0 effects → EntryFrom at effects
globals_then_entries at [] h = tt
globals_then_entries at (Global global value ∷ effects) h = tt
globals_then_entries at (effect ∷ effects) h = absurd h

-- ---- runs of bytes

-- a byte in front of a run, joined with the run if it is directly before it
abbrev pub with_run : Bool → (at b address : ℕ) → List ℕ → List Effect → List Effect
with_run true at b address bytes rest = Bytes at (b ∷ bytes) ∷ rest
with_run false at b address bytes rest = Bytes at (b ∷ []) ∷ Bytes address bytes ∷ rest

-- a byte at a place, if any, in front of runs at later places
abbrev pub with_byte : ℕ → Option ℕ → List Effect → List Effect
with_byte at None rest = rest
with_byte at (Some b) (Bytes address bytes ∷ rest) = with_run (nat_eq address (suc at)) at b address bytes rest
with_byte at (Some b) rest = Bytes at (b ∷ []) ∷ rest

-- the longest runs of the bytes at `n` places from `at` on, in front of other effects
abbrev pub runs : (ℕ → Option ℕ) → (at n : ℕ) → List Effect → List Effect
runs f at zero tail = tail
runs f at (suc n) tail = with_byte at (f at) (runs f (suc at) n tail)

cons_among : (at b x : ℕ) (bytes : List ℕ)
    → byte_among at (b ∷ bytes) x ≡ option_or (byte_among (suc at) bytes x) (cond (nat_eq at x) (Some b) None)
cons_among at b x bytes = go (nat_eq at x) refl
  where
    after : (c : Bool) → nat_eq at x ≡ false → nat_le (suc at) x ≡ c
        → cond (nat_le at x) (slice_get (b ∷ bytes) (x - at)) None
        ≡ option_or (cond (nat_le (suc at) x) (slice_get bytes (x - suc at)) None) (cond (nat_eq at x) (Some b) None)
    after true p q =
        let low : nat_le at x ≡ true = grind (arith, nat_tests, q) in
        let less : at < x = grind (arith, nat_tests, q) in
        let far : x - at ≡ suc (x - suc at) = omega (arith, less) in
        (λ i. cond (low i) (slice_get (b ∷ bytes) (far i)) None)
        ∙ sym (or_none (slice_get bytes (x - suc at)))
        ∙ sym (λ i. option_or (cond (q i) (slice_get bytes (x - suc at)) None) (cond (p i) (Some b) None))
    after false p q =
        let low : nat_le at x ≡ false = grind (arith, nat_tests, p, q) in
        (λ i. cond (low i) (slice_get (b ∷ bytes) (x - at)) None)
        ∙ sym (λ i. option_or (cond (q i) (slice_get bytes (x - suc at)) None) (cond (p i) (Some b) None))

    go : (c : Bool) → nat_eq at x ≡ c
        → cond (nat_le at x) (slice_get (b ∷ bytes) (x - at)) None
        ≡ option_or (cond (nat_le (suc at) x) (slice_get bytes (x - suc at)) None) (cond (nat_eq at x) (Some b) None)
    go false p = after (nat_le (suc at) x) p refl
    go true p =
        let same : at ≡ x = grind (arith, nat_tests, p) in
        let low : nat_le at x ≡ true = grind (arith, nat_tests, same) in
        let none : x - at ≡ 0 = omega (arith, same) in
        let past : nat_le (suc at) x ≡ false = grind (arith, nat_tests, same) in
        (λ i. cond (low i) (slice_get (b ∷ bytes) (none i)) None)
        ∙ sym (λ i. option_or (cond (past i) (slice_get bytes (x - suc at)) None) (cond (p i) (Some b) None))

one_among : (at b x : ℕ) → byte_among at (b ∷ []) x ≡ cond (nat_eq at x) (Some b) None
one_among at b x =
    cons_among at b x [] ∙ ap (λ o. option_or o (cond (nat_eq at x) (Some b) None)) (go (nat_le (suc at) x))
  where
    go : (c : Bool) → cond c (slice_get {X = ℕ} [] (x - suc at)) None ≡ None
    go true = refl
    go false = refl

or_again : {X : Type 0} (a b c : Option X) → option_or a (option_or b c) ≡ option_or (option_or a b) c
or_again None b c = refl
or_again (Some x) b c = refl

-- a byte in front of runs gives itself
byte_given : (at b x : ℕ) (rest : List Effect)
    → last_some (effect_byte x) (with_byte at (Some b) rest)
    ≡ option_or (last_some (effect_byte x) rest) (cond (nat_eq at x) (Some b) None)
byte_given at b x [] = one_among at b x
byte_given at b x (Bytes address bytes ∷ rest) = go (nat_eq address (suc at)) refl
  where
    go : (c : Bool) → nat_eq address (suc at) ≡ c
        → last_some (effect_byte x) (with_run c at b address bytes rest)
        ≡ option_or (last_some (effect_byte x) (Bytes address bytes ∷ rest)) (cond (nat_eq at x) (Some b) None)
    go true p =
        let same : address ≡ suc at = grind (arith, nat_tests, p) in
        ap (option_or (last_some (effect_byte x) rest))
        (cons_among at b x bytes
        ∙ ap (λ a. option_or (byte_among a bytes x) (cond (nat_eq at x) (Some b) None)) (sym same))
        ∙ or_again (last_some (effect_byte x) rest) (byte_among address bytes x) (cond (nat_eq at x) (Some b) None)
    go false p = ap (option_or (last_some (effect_byte x) (Bytes address bytes ∷ rest))) (one_among at b x)
byte_given at b x (effect ∷ rest) = ap (option_or (last_some (effect_byte x) (effect ∷ rest))) (one_among at b x)

pub runs_give : (f : ℕ → Option ℕ) (at n : ℕ) (tail : List Effect) (x : ℕ) → ((x : ℕ) → at + n ≤ x → f x ≡ None)
    → last_some (effect_byte x) tail ≡ None → last_some (effect_byte x) (runs f at n tail) ≡ from_place at f x
runs_give f at zero tail x ends none = none ∙ from_end_place f at x (λ y past. ends y (omega (arith, past)))
runs_give f at (suc n) tail x ends none =
    go (f at) refl (runs f (suc at) n tail)
    (runs_give f (suc at) n tail x (λ y past. ends y (omega (arith, past))) none)
  where
    go : (o : Option ℕ) → f at ≡ o → (rest : List Effect) → last_some (effect_byte x) rest ≡ from_place (suc at) f x
        → last_some (effect_byte x) (with_byte at (f at) rest) ≡ from_place at f x
    go None is rest later =
        ap (λ o. last_some (effect_byte x) (with_byte at o rest)) is
        ∙ later ∙ sym (or_none (from_place (suc at) f x))
        ∙ ap (λ o. option_or (from_place (suc at) f x) (option_or o None)) (no_choice (nat_eq at x) None)
        ∙ from_next_place f at x None is
    go (Some b) is rest later =
        ap (λ o. last_some (effect_byte x) (with_byte at o rest)) is
        ∙ byte_given at b x rest
        ∙ (λ i. option_or (later i) (cond (nat_eq at x) (Some b) None))
        ∙ ap (option_or (from_place (suc at) f x)) (sym (or_none (cond (nat_eq at x) (Some b) None)))
        ∙ from_next_place f at x (Some b) is

-- runs of bytes give no other part
pub runs_keep : {X : Type 0} (part : Effect → Option X)
    → ((address : ℕ) (bytes : List ℕ) → part (Bytes address bytes) ≡ None)
    → (f : ℕ → Option ℕ) (at n : ℕ) (tail : List Effect)
    → last_some part (runs f at n tail) ≡ last_some part tail
runs_keep part other f at zero tail = refl
runs_keep part other f at (suc n) tail = go (f at) (runs f (suc at) n tail) (runs_keep part other f (suc at) n tail)
  where
    more : (address : ℕ) (bytes : List ℕ) (rest : List Effect)
        → last_some part (Bytes address bytes ∷ rest) ≡ last_some part rest
    more address bytes rest =
        ap (option_or (last_some part rest)) (other address bytes) ∙ or_none (last_some part rest)

    by : (c : Bool) (b address : ℕ) (bytes : List ℕ) (rest : List Effect)
        → last_some part (with_run c at b address bytes rest) ≡ last_some part (Bytes address bytes ∷ rest)
    by true b address bytes rest = more at (b ∷ bytes) rest ∙ sym (more address bytes rest)
    by false b address bytes rest = more at (b ∷ []) (Bytes address bytes ∷ rest)

    go : (o : Option ℕ) (rest : List Effect) → last_some part rest ≡ last_some part tail
        → last_some part (with_byte at o rest) ≡ last_some part tail
    go None rest h = h
    go (Some b) [] h = more at (b ∷ []) [] ∙ h
    go (Some b) (Bytes address bytes ∷ rest) h = by (nat_eq address (suc at)) b address bytes rest ∙ h
    go (Some b) (effect ∷ rest) h = more at (b ∷ []) (effect ∷ rest) ∙ h

-- the effects may follow bytes at places below `at`
abbrev pub BytesFrom : ℕ → List Effect → Type 0
BytesFrom at [] = Unit {0}
BytesFrom at (Bytes address bytes ∷ effects) = at ≤ address
BytesFrom at (Entry index func ∷ effects) = Unit {0}
BytesFrom at (Global global value ∷ effects) = Unit {0}
BytesFrom at (effect ∷ effects) = ⊥

pub entries_then_bytes : (at : ℕ) (effects : List Effect) → EntryFrom 0 effects → BytesFrom at effects
entries_then_bytes at [] h = tt
entries_then_bytes at (Entry index func ∷ effects) h = tt
entries_then_bytes at (Global global value ∷ effects) h = tt
entries_then_bytes at (effect ∷ effects) h = absurd h

longer_ordered : (at b : ℕ) (bytes : List ℕ) (effects : List Effect)
    → are_ordered_after (Bytes (suc at) bytes) effects ≡ true
    → are_ordered_after (Bytes at (b ∷ bytes)) effects ≡ true
longer_ordered at b bytes [] h = refl
longer_ordered at b bytes (Bytes address more ∷ effects) h =
    let t : nat_lt (suc at + length bytes) address ≡ true =
    and_left (nat_lt (suc at + length bytes) address) (are_ordered_after (Bytes address more) effects) h in
    and_true (nat_lt (at + suc (length bytes)) address) (are_ordered_after (Bytes address more) effects)
    (grind (arith, nat_tests, t))
    (and_right (nat_lt (suc at + length bytes) address) (are_ordered_after (Bytes address more) effects) h)
longer_ordered at b bytes (Entry index func ∷ effects) h = h
longer_ordered at b bytes (Global global value ∷ effects) h = h
longer_ordered at b bytes (effect ∷ effects) h = cc

with_byte_are : (at : ℕ) (o : Option ℕ) (rest : List Effect) → ArePlaced BytesFrom (suc at) rest
    → ArePlaced BytesFrom at (with_byte at o rest)
with_byte_are at None rest are =
    record {
      changes = are.changes;
      nonempty = are.nonempty;
      ordered = are.ordered;
      start = low rest are.start;
    }
  where
    low : (rest : List Effect) → BytesFrom (suc at) rest → BytesFrom at rest
    low [] h = tt
    low (Bytes address bytes ∷ rest) h = omega (arith, h)
    low (Entry index func ∷ rest) h = tt
    low (Global global value ∷ rest) h = tt
    low (effect ∷ rest) h = absurd h
with_byte_are at (Some b) [] are =
    record { changes = (tt, tt); nonempty = refl; ordered = refl; start = omega arith }
with_byte_are at (Some b) (Bytes address bytes ∷ rest) are = go (nat_eq address (suc at)) refl
  where
    go : (c : Bool) → nat_eq address (suc at) ≡ c → ArePlaced BytesFrom at (with_run c at b address bytes rest)
    go true p =
        let same : address ≡ suc at = grind (arith, nat_tests, p) in
        record {
          changes = (tt, are.changes.1);
          nonempty = and_right (has_bytes (Bytes address bytes)) (list_all has_bytes rest) are.nonempty;
          ordered =
              longer_ordered at b bytes rest
              (subst (λ a. are_ordered_after (Bytes a bytes) rest ≡ true) same are.ordered);
          start = omega arith;
        }
    go false p =
        let low = are.start in
        record {
          changes = (tt, are.changes);
          nonempty = are.nonempty;
          ordered =
              and_true (nat_lt (at + 1) address) (are_ordered_after (Bytes address bytes) rest)
              (grind (arith, nat_tests, p, low)) are.ordered;
          start = omega arith;
        }
with_byte_are at (Some b) (Entry index func ∷ rest) are =
    record { changes = (tt, are.changes); nonempty = are.nonempty; ordered = are.ordered; start = omega arith }
with_byte_are at (Some b) (Global global value ∷ rest) are =
    record { changes = (tt, are.changes); nonempty = are.nonempty; ordered = are.ordered; start = omega arith }
with_byte_are at (Some b) (effect ∷ rest) are = absurd are.start

pub runs_are : (f : ℕ → Option ℕ) (at n : ℕ) (tail : List Effect) → ((i : ℕ) → ArePlaced BytesFrom i tail)
    → ArePlaced BytesFrom at (runs f at n tail)
runs_are f at zero tail are = are at
runs_are f at (suc n) tail are =
    with_byte_are at (f at) (runs f (suc at) n tail) (runs_are f (suc at) n tail are)
