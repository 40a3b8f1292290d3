-- Two lists of effects in order that give the same at each place are equal.
use Rattle.std.proofs.Common.{◌≡◌, ℕ, suc, ◌+◌, ◌-◌, ◌≤◌, ◌<◌, List, [], ◌∷◌, length, Option, Some, None, true, false, cond, nat_eq, nat_le, slice_get, refl, sym, ap, ◌∙◌, subst, arith}
use Rattle.std.specs.List.{list_all}
use Rattle.std.specs.Option.{option_or}
use Rattle.std.proofs.lemmas.Bool.Decides.{nat_tests}
use Rattle.std.proofs.lemmas.Option.{slice_get_within}
use Rattle.base.proofs.Booleans.{and_parts}
use Rattle.base.proofs.Options.{cond_some, or_none}
use Rattle.wasm_syntax.specs.declared.values.Val.{Val}
use Rattle.trace_model.specs.declared.tapes.Effect.{Effect}
use Rattle.trace_model.specs.declared.tapes.Effect.TheVariants.{Grow, Table, Bytes, Entry, Global}
use Rattle.trace_model.specs.Effects.{is_before, are_ordered_after, are_ordered}
use Rattle.history_spec.proofs.PlacedBytes.{byte_below, byte_in}
use Rattle.record_replay_spec.specs.Known.{byte_among, last_some}
use Rattle.record_replay_spec.specs.Needed.{effect_byte, effect_entry, effect_global, effect_pages, effect_entries, has_bytes, Given, SameGiven, GiveJust, given_by}

-- ---- options

or_some : {X : Type 0} (a : Option X) (x : X) → option_or a (Some x) ≡ None → ⊥
or_some None x h = cc
or_some (Some y) x h = cc

-- ---- a part of effects, and the effects above the effect that gives it

-- Effects above a place give nothing at the place, and neither do the effects after them; the effects after one that
-- gives something at a place are above it.
record IsKind {X : Type 0} (part : Effect → Option X) (Above : Effect → Type 0) : Type 0 where
  gives_none : (f : Effect) → Above f → part f ≡ None
  goes_on : (f g : Effect) → Above f → is_before f g ≡ true → Above g
  next : (e g : Effect) (x : X) → part e ≡ Some x → is_before e g ≡ true → Above g

module _ {X : Type 0} (part : Effect → Option X) (Above : Effect → Type 0) (kind : IsKind part Above) where
  nothing_from : (f : Effect) (fs : List Effect) → Above f → are_ordered_after f fs ≡ true
      → last_some part (f ∷ fs) ≡ None
  nothing_from f [] above h = kind.gives_none f above
  nothing_from f (g ∷ gs) above h =
      let p = and_parts (is_before f g) (are_ordered_after g gs) h in
      ap (λ r. option_or r (part f)) (nothing_from g gs (kind.goes_on f g above p.0) p.1) ∙ kind.gives_none f above

  nothing_after : (e : Effect) (es : List Effect) → ((g : Effect) → is_before e g ≡ true → Above g)
      → are_ordered_after e es ≡ true → last_some part es ≡ None
  nothing_after e [] above h = refl
  nothing_after e (g ∷ gs) above h =
      let p = and_parts (is_before e g) (are_ordered_after g gs) h in nothing_from g gs (above g p.0) p.1

  -- what the first effect gives is what all give
  first_gives : (e : Effect) (es : List Effect) (x : X) → part e ≡ Some x → are_ordered_after e es ≡ true
      → last_some part (e ∷ es) ≡ Some x
  first_gives e es x p h =
      ap (λ r. option_or r (part e)) (nothing_after e es (λ g. kind.next e g x p) h) ∙ p

  first_same : (e f : Effect) (es fs : List Effect) (x y : X) → part e ≡ Some x → part f ≡ Some y
      → are_ordered_after e es ≡ true → are_ordered_after f fs ≡ true
      → last_some part (e ∷ es) ≡ last_some part (f ∷ fs) → x ≡ y
  first_same e f es fs x y p q h k same =
      let a = first_gives e es x p h in
      let b = first_gives f fs y q k in
      cc

  clash : (e f : Effect) (es fs : List Effect) (x : X) → part e ≡ Some x → Above f → are_ordered_after f fs ≡ true
      → last_some part (e ∷ es) ≡ last_some part (f ∷ fs) → ⊥
  clash e f es fs x p above k same =
      or_some (last_some part es) x
      (ap (option_or (last_some part es)) (sym p) ∙ same ∙ nothing_from f fs above k)

  -- after equal first effects, the remaining effects give the same
  rest_same : (e : Effect) (es fs : List Effect) → are_ordered_after e es ≡ true → are_ordered_after e fs ≡ true
      → last_some part (e ∷ es) ≡ last_some part (e ∷ fs) → last_some part es ≡ last_some part fs
  rest_same e es fs h k same = go (part e) refl
    where
      go : (o : Option X) → part e ≡ o → last_some part es ≡ last_some part fs
      go None p =
          sym (ap (option_or (last_some part es)) p ∙ or_none (last_some part es))
          ∙ same
          ∙ ap (option_or (last_some part fs)) p
          ∙ or_none (last_some part fs)
      go (Some x) p =
          nothing_after e es (λ g. kind.next e g x p) h ∙ sym (nothing_after e fs (λ g. kind.next e g x p) k)

-- ---- sizes

abbrev PagesAbove : Effect → Type 0
PagesAbove (Grow pages) = ⊥
PagesAbove f = Unit {0}

above_pages : (f g : Effect) → is_before f g ≡ true → PagesAbove g
above_pages (Grow a) (Grow b) h = cc
above_pages (Table a) (Grow b) h = cc
above_pages (Bytes a c) (Grow b) h = cc
above_pages (Entry a c) (Grow b) h = cc
above_pages (Global a c) (Grow b) h = cc
above_pages f g h = tt

pages_kind : IsKind effect_pages PagesAbove
pages_kind =
    record { gives_none = none; goes_on = λ f g above h. above_pages f g h; next = λ e g x p h. above_pages e g h }
  where
    none : (f : Effect) → PagesAbove f → effect_pages f ≡ None
    none (Grow pages) above = absurd above
    none f above = refl

-- no effect grows the memory after another effect
pub pages_after : (effect : Effect) (effects : List Effect) → are_ordered_after effect effects ≡ true
    → last_some effect_pages effects ≡ None
pages_after effect effects = nothing_after effect_pages PagesAbove pages_kind effect effects (above_pages effect)

abbrev EntriesAbove : Effect → Type 0
EntriesAbove (Grow pages) = ⊥
EntriesAbove (Table size) = ⊥
EntriesAbove f = Unit {0}

entries_kind : IsKind effect_entries EntriesAbove
entries_kind = record { gives_none = none; goes_on = on; next = next }
  where
    none : (f : Effect) → EntriesAbove f → effect_entries f ≡ None
    none (Grow pages) above = refl
    none (Table size) above = absurd above
    none f above = refl

    on : (f g : Effect) → EntriesAbove f → is_before f g ≡ true → EntriesAbove g
    on (Grow a) g above h = absurd above
    on (Table a) g above h = absurd above
    on (Bytes a c) (Grow b) above h = cc
    on (Bytes a c) (Table b) above h = cc
    on (Entry a c) (Grow b) above h = cc
    on (Entry a c) (Table b) above h = cc
    on (Global a c) (Grow b) above h = cc
    on (Global a c) (Table b) above h = cc
    on f g above h = tt

    next : (e g : Effect) (x : ℕ) → effect_entries e ≡ Some x → is_before e g ≡ true → EntriesAbove g
    next (Table a) (Grow b) x p h = cc
    next (Table a) (Table b) x p h = cc
    next (Table a) g x p h = tt
    next e g x p h = cc

-- ---- bytes

byte_within : (address at x : ℕ) (bytes : List ℕ) → byte_among address bytes at ≡ Some x
    → at < address + length bytes
byte_within address at x bytes h =
    let p = cond_some (nat_le address at) (slice_get bytes (at - address)) x h in
    let q : address ≤ at = let r : nat_le address at ≡ true = p.0 in grind (arith, nat_tests, r) in
    let w : at - address < length bytes = slice_get_within bytes (at - address) x p.1 in
    omega (arith, q, w)

abbrev ByteAbove : ℕ → Effect → Type 0
ByteAbove at (Grow pages) = ⊥
ByteAbove at (Table size) = ⊥
ByteAbove at (Bytes address bytes) = at < address
ByteAbove at f = Unit {0}

-- effects after bytes are above the place directly after the bytes
bytes_apart : (at address : ℕ) (bytes : List ℕ) (g : Effect) → at ≤ address + length bytes
    → is_before (Bytes address bytes) g ≡ true → ByteAbove at g
bytes_apart at address bytes (Grow a) below h = cc
bytes_apart at address bytes (Table a) below h = cc
bytes_apart at address bytes (Bytes a more) below h =
    let less : address + length bytes < a = grind (arith, nat_tests, h) in omega (arith, less, below)
bytes_apart at address bytes g below h = tt

byte_kind : (at : ℕ) → IsKind (effect_byte at) (ByteAbove at)
byte_kind at = record { gives_none = none; goes_on = on; next = next }
  where
    none : (f : Effect) → ByteAbove at f → effect_byte at f ≡ None
    none (Grow pages) above = absurd above
    none (Table size) above = absurd above
    none (Bytes address bytes) above = byte_below address bytes at above
    none f above = refl

    on : (f g : Effect) → ByteAbove at f → is_before f g ≡ true → ByteAbove at g
    on (Grow a) g above h = absurd above
    on (Table a) g above h = absurd above
    on (Bytes a bytes) g above h = bytes_apart at a bytes g (omega (arith, above)) h
    on (Entry a c) (Grow b) above h = cc
    on (Entry a c) (Table b) above h = cc
    on (Entry a c) (Bytes b more) above h = cc
    on (Global a c) (Grow b) above h = cc
    on (Global a c) (Table b) above h = cc
    on (Global a c) (Bytes b more) above h = cc
    on f g above h = tt

    next : (e g : Effect) (x : ℕ) → effect_byte at e ≡ Some x → is_before e g ≡ true → ByteAbove at g
    next (Bytes a bytes) g x p h =
        let below : at < a + length bytes = byte_within a at x bytes p in
        bytes_apart at a bytes g (omega (arith, below)) h
    next e g x p h = cc

-- ---- entries and globals

pub own_place : {X : Type 0} (i : ℕ) (x : X) → cond (nat_eq i i) (Some x) None ≡ Some x
own_place i x =
    let p : nat_eq i i ≡ true = grind (arith, nat_tests) in
    ap (λ b. cond b (Some x) None) p

other_place : {X : Type 0} (i at : ℕ) (x : X) → at < i → cond (nat_eq i at) (Some x) None ≡ None
other_place i at x h =
    let p : nat_eq i at ≡ false = grind (arith, nat_tests, h) in
    ap (λ b. cond b (Some x) None) p

at_place : {X : Type 0} (i at : ℕ) (y x : X) → cond (nat_eq i at) (Some y) None ≡ Some x → i ≡ at
at_place i at y x h =
    let p : nat_eq i at ≡ true = (cond_some (nat_eq i at) (Some y) x h).0 in
    grind (arith, nat_tests, p)

abbrev EntryAbove : ℕ → Effect → Type 0
EntryAbove at (Entry index func) = at < index
EntryAbove at (Global global value) = Unit {0}
EntryAbove at f = ⊥

after_entry : (at i : ℕ) (func : Option ℕ) (g : Effect) → at ≤ i → is_before (Entry i func) g ≡ true → EntryAbove at g
after_entry at i func (Entry index other) le h =
    let less : i < index = grind (arith, nat_tests, h) in omega (arith, less, le)
after_entry at i func (Global global value) le h = tt
after_entry at i func g le h = cc

entry_kind : (at : ℕ) → IsKind (effect_entry at) (EntryAbove at)
entry_kind at = record { gives_none = none; goes_on = on; next = next }
  where
    none : (f : Effect) → EntryAbove at f → effect_entry at f ≡ None
    none (Entry index func) above = other_place index at func above
    none (Global global value) above = refl
    none f above = absurd above

    on : (f g : Effect) → EntryAbove at f → is_before f g ≡ true → EntryAbove at g
    on (Entry index func) g above h = after_entry at index func g (omega (arith, above)) h
    on (Global a c) (Global b d) above h = tt
    on (Global a c) g above h = cc
    on f g above h = absurd above

    next : (e g : Effect) (x : Option ℕ) → effect_entry at e ≡ Some x → is_before e g ≡ true → EntryAbove at g
    next (Entry index func) g x p h =
        let e : index ≡ at = at_place index at func x p in after_entry at index func g (omega (arith, e)) h
    next e g x p h = cc

abbrev GlobalAbove : ℕ → Effect → Type 0
GlobalAbove at (Global global value) = at < global
GlobalAbove at f = ⊥

after_global : (at i : ℕ) (value : Val) (g : Effect) → at ≤ i → is_before (Global i value) g ≡ true → GlobalAbove at g
after_global at i value (Global global other) le h =
    let less : i < global = grind (arith, nat_tests, h) in omega (arith, less, le)
after_global at i value g le h = cc

global_kind : (at : ℕ) → IsKind (effect_global at) (GlobalAbove at)
global_kind at = record { gives_none = none; goes_on = on; next = next }
  where
    none : (f : Effect) → GlobalAbove at f → effect_global at f ≡ None
    none (Global global value) above = other_place global at (Some value) above
    none f above = absurd above

    on : (f g : Effect) → GlobalAbove at f → is_before f g ≡ true → GlobalAbove at g
    on (Global global value) g above h = after_global at global value g (omega (arith, above)) h
    on f g above h = absurd above

    next : (e g : Effect) (x : Option Val) → effect_global at e ≡ Some x → is_before e g ≡ true → GlobalAbove at g
    next (Global global value) g x p h =
        let e : global ≡ at = at_place global at (Some value) x p in
        after_global at global value g (omega (arith, e)) h
    next e g x p h = cc

-- after an entry or a global, only entries or globals with greater indices are set
pub entries_after : (index : ℕ) (func : Option ℕ) (at : ℕ) (effects : List Effect) → at ≤ index
    → are_ordered_after (Entry index func) effects ≡ true → last_some (effect_entry at) effects ≡ None
entries_after index func at effects low =
    nothing_after (effect_entry at) (EntryAbove at) (entry_kind at) (Entry index func) effects
    (λ g. after_entry at index func g low)

pub globals_after : (global : ℕ) (value : Val) (at : ℕ) (effects : List Effect) → at ≤ global
    → are_ordered_after (Global global value) effects ≡ true → last_some (effect_global at) effects ≡ None
globals_after global value at effects low =
    nothing_after (effect_global at) (GlobalAbove at) (global_kind at) (Global global value) effects
    (λ g. after_global at global value g low)

-- ---- two lists that give the same are equal

pub same_reversed : (a b : Given) → SameGiven a b → SameGiven b a
same_reversed a b same =
    record {
      pages = sym same.pages;
      entries = sym same.entries;
      byte = λ at. sym (same.byte at);
      entry = λ at. sym (same.entry at);
      global = λ at. sym (same.global at);
    }

pub just_of_same : (a b : Given) (effects : List Effect) → SameGiven a b → GiveJust a effects → GiveJust b effects
just_of_same a b effects same just =
    record {
      ordered = just.ordered;
      nonempty = just.nonempty;
      pages = just.pages ∙ same.pages;
      entries = just.entries ∙ same.entries;
      byte = λ at. just.byte at ∙ same.byte at;
      entry = λ at. just.entry at ∙ same.entry at;
      global = λ at. just.global at ∙ same.global at;
    }

abbrev GiveSame : List Effect → List Effect → Type 0
GiveSame es fs = SameGiven (given_by es) (given_by fs)

-- an effect, with others after it, gives something
gives_more : (f : Effect) (fs : List Effect) → has_bytes f ≡ true → GiveSame (f ∷ fs) [] → ⊥
gives_more (Grow pages) fs h same = or_some (last_some effect_pages fs) pages same.pages
gives_more (Table size) fs h same = or_some (last_some effect_entries fs) size same.entries
gives_more (Bytes a []) fs h same = cc
gives_more (Bytes a (b ∷ bs)) fs h same =
    or_some (last_some (effect_byte (a + 0)) fs) b
    (ap (option_or (last_some (effect_byte (a + 0)) fs)) (sym (byte_in a 0 (b ∷ bs))) ∙ same.byte (a + 0))
gives_more (Entry i func) fs h same =
    or_some (last_some (effect_entry i) fs) func
    (ap (option_or (last_some (effect_entry i) fs)) (sym (own_place i func)) ∙ same.entry i)
gives_more (Global i value) fs h same =
    or_some (last_some (effect_global i) fs) (Some value)
    (ap (option_or (last_some (effect_global i) fs)) (sym (own_place i (Some value))) ∙ same.global i)

-- lists with equal items at each place, up to the first where one of them ends, are equal
lists_same : (xs ys : List ℕ)
    → ((k : ℕ) → k ≤ length xs → k ≤ length ys → slice_get xs k ≡ slice_get ys k) → xs ≡ ys
lists_same [] [] h = refl
lists_same [] (y ∷ ys) h = let e = h 0 (omega arith) (omega arith) in cc
lists_same (x ∷ xs) [] h = let e = h 0 (omega arith) (omega arith) in cc
lists_same (x ∷ xs) (y ∷ ys) h =
    let e = h 0 (omega arith) (omega arith) in
    let r = lists_same xs ys (λ k less other. h (suc k) (omega (arith, less)) (omega (arith, other))) in
    cc

neither_less : (i j : ℕ) → (i < j → ⊥) → (j < i → ⊥) → i ≡ j
neither_less i j h k = omega (arith, h, k)

-- ---- the first effect of each list

-- first bytes from the same address on are equal
bytes_same : (a : ℕ) (bs cs : List ℕ) (es fs : List Effect)
    → are_ordered_after (Bytes a bs) es ≡ true → are_ordered_after (Bytes a cs) fs ≡ true
    → GiveSame (Bytes a bs ∷ es) (Bytes a cs ∷ fs) → bs ≡ cs
bytes_same a bs cs es fs h k same =
    lists_same bs cs (λ i less other. sym (given i bs es less h) ∙ same.byte (a + i) ∙ given i cs fs other k)
  where
    given : (i : ℕ) (bytes : List ℕ) (rest : List Effect) → i ≤ length bytes
        → are_ordered_after (Bytes a bytes) rest ≡ true
        → last_some (effect_byte (a + i)) (Bytes a bytes ∷ rest) ≡ slice_get bytes i
    given i bytes rest less order =
        let below : a + i ≤ a + length bytes = omega (arith, less) in
        ap (λ r. option_or r (byte_among a bytes (a + i)))
        (nothing_after (effect_byte (a + i)) (ByteAbove (a + i)) (byte_kind (a + i)) (Bytes a bytes) rest
        (λ g. bytes_apart (a + i) a bytes g below) order)
        ∙ byte_in a i bytes

first_byte_given : (a b : ℕ) (bs : List ℕ) → effect_byte a (Bytes a (b ∷ bs)) ≡ Some b
first_byte_given a b bs =
    let e : a + 0 ≡ a = omega arith in
    subst (λ at. byte_among a (b ∷ bs) at ≡ Some b) e (byte_in a 0 (b ∷ bs))

firsts_same : (e f : Effect) (es fs : List Effect) → has_bytes e ≡ true → has_bytes f ≡ true
    → are_ordered_after e es ≡ true → are_ordered_after f fs ≡ true → GiveSame (e ∷ es) (f ∷ fs) → e ≡ f
firsts_same (Grow a) (Grow b) es fs p q h k same =
    ap Grow
    (first_same effect_pages PagesAbove pages_kind (Grow a) (Grow b) es fs a b refl refl h k same.pages)
firsts_same (Grow a) f es fs p q h k same =
    absurd (clash effect_pages PagesAbove pages_kind (Grow a) f es fs a refl tt k same.pages)
firsts_same e (Grow b) es fs p q h k same =
    absurd (clash effect_pages PagesAbove pages_kind (Grow b) e fs es b refl tt h (sym same.pages))
firsts_same (Table a) (Table b) es fs p q h k same =
    ap Table
    (first_same effect_entries EntriesAbove entries_kind (Table a) (Table b) es fs a b refl refl h k same.entries)
firsts_same (Table a) f es fs p q h k same =
    absurd (clash effect_entries EntriesAbove entries_kind (Table a) f es fs a refl tt k same.entries)
firsts_same e (Table b) es fs p q h k same =
    absurd (clash effect_entries EntriesAbove entries_kind (Table b) e fs es b refl tt h (sym same.entries))
firsts_same (Bytes a []) f es fs p q h k same = cc
firsts_same e (Bytes c []) es fs p q h k same = cc
firsts_same (Bytes a (b ∷ bs)) (Bytes c (d ∷ ds)) es fs p q h k same =
    let e : a ≡ c =
    neither_less a c
    (λ less. clash (effect_byte a) (ByteAbove a) (byte_kind a) (Bytes a (b ∷ bs)) (Bytes c (d ∷ ds)) es fs b
    (first_byte_given a b bs) less k (same.byte a))
    (λ less. clash (effect_byte c) (ByteAbove c) (byte_kind c) (Bytes c (d ∷ ds)) (Bytes a (b ∷ bs)) fs es d
    (first_byte_given c d ds) less h (sym (same.byte c)))
    in
    let r =
    bytes_same a (b ∷ bs) (d ∷ ds) es fs h
    (subst (λ x. are_ordered_after (Bytes x (d ∷ ds)) fs ≡ true) (sym e) k)
    (subst (λ x. GiveSame (Bytes a (b ∷ bs) ∷ es) (Bytes x (d ∷ ds) ∷ fs)) (sym e) same)
    in
    (λ i. Bytes (e i) (r i))
firsts_same (Bytes a (b ∷ bs)) f es fs p q h k same =
    absurd
    (clash (effect_byte a) (ByteAbove a) (byte_kind a) (Bytes a (b ∷ bs)) f es fs b
    (first_byte_given a b bs) tt k (same.byte a))
firsts_same e (Bytes c (d ∷ ds)) es fs p q h k same =
    absurd
    (clash (effect_byte c) (ByteAbove c) (byte_kind c) (Bytes c (d ∷ ds)) e fs es d
    (first_byte_given c d ds) tt h (sym (same.byte c)))
firsts_same (Entry i x) (Entry j y) es fs p q h k same =
    let e : i ≡ j =
    neither_less i j
    (λ less. clash (effect_entry i) (EntryAbove i) (entry_kind i) (Entry i x) (Entry j y) es fs x
    (own_place i x) less k (same.entry i))
    (λ less. clash (effect_entry j) (EntryAbove j) (entry_kind j) (Entry j y) (Entry i x) fs es y
    (own_place j y) less h (sym (same.entry j)))
    in
    let r : x ≡ y =
    first_same (effect_entry i) (EntryAbove i) (entry_kind i) (Entry i x) (Entry j y) es fs x y (own_place i x)
    (subst (λ at. effect_entry at (Entry j y) ≡ Some y) (sym e) (own_place j y)) h k (same.entry i)
    in
    (λ n. Entry (e n) (r n))
firsts_same (Entry i x) f es fs p q h k same =
    absurd
    (clash (effect_entry i) (EntryAbove i) (entry_kind i) (Entry i x) f es fs x (own_place i x) tt k (same.entry i))
firsts_same e (Entry j y) es fs p q h k same =
    absurd
    (clash (effect_entry j) (EntryAbove j) (entry_kind j) (Entry j y) e fs es y (own_place j y) tt h
    (sym (same.entry j)))
firsts_same (Global i x) (Global j y) es fs p q h k same =
    let e : i ≡ j =
    neither_less i j
    (λ less. clash (effect_global i) (GlobalAbove i) (global_kind i) (Global i x) (Global j y) es fs (Some x)
    (own_place i (Some x)) less k (same.global i))
    (λ less. clash (effect_global j) (GlobalAbove j) (global_kind j) (Global j y) (Global i x) fs es (Some y)
    (own_place j (Some y)) less h (sym (same.global j)))
    in
    let r : Some x ≡ Some y =
    first_same (effect_global i) (GlobalAbove i) (global_kind i) (Global i x) (Global j y) es fs (Some x) (Some y)
    (own_place i (Some x)) (subst (λ at. effect_global at (Global j y) ≡ Some (Some y)) (sym e) (own_place j (Some y)))
    h k (same.global i)
    in
    cc

-- ---- the whole lists

pub ordered_rest : (e : Effect) (es : List Effect) → are_ordered_after e es ≡ true → are_ordered es ≡ true
ordered_rest e [] h = refl
ordered_rest e (f ∷ fs) h = (and_parts (is_before e f) (are_ordered_after f fs) h).1

rests_same : (e : Effect) (es fs : List Effect) → are_ordered_after e es ≡ true → are_ordered_after e fs ≡ true
    → GiveSame (e ∷ es) (e ∷ fs) → GiveSame es fs
rests_same e es fs h k same =
    record {
      pages = rest_same effect_pages PagesAbove pages_kind e es fs h k same.pages;
      entries = rest_same effect_entries EntriesAbove entries_kind e es fs h k same.entries;
      byte = λ at. rest_same (effect_byte at) (ByteAbove at) (byte_kind at) e es fs h k (same.byte at);
      entry = λ at. rest_same (effect_entry at) (EntryAbove at) (entry_kind at) e es fs h k (same.entry at);
      global = λ at. rest_same (effect_global at) (GlobalAbove at) (global_kind at) e es fs h k (same.global at);
    }

pub effects_same : (es fs : List Effect) → are_ordered es ≡ true → are_ordered fs ≡ true
    → list_all has_bytes es ≡ true → list_all has_bytes fs ≡ true → GiveSame es fs → es ≡ fs
effects_same [] [] h k p q same = refl
effects_same [] (f ∷ fs) h k p q same =
    absurd (gives_more f fs (and_parts (has_bytes f) (list_all has_bytes fs) q).0 (same_reversed (given_by []) (given_by (f ∷ fs)) same))
effects_same (e ∷ es) [] h k p q same =
    absurd (gives_more e es (and_parts (has_bytes e) (list_all has_bytes es) p).0 same)
effects_same (e ∷ es) (f ∷ fs) h k p q same =
    let a = and_parts (has_bytes e) (list_all has_bytes es) p in
    let b = and_parts (has_bytes f) (list_all has_bytes fs) q in
    let first = firsts_same e f es fs a.0 b.0 h k same in
    let order : are_ordered_after e fs ≡ true = subst (λ x. are_ordered_after x fs ≡ true) (sym first) k in
    let rest =
    effects_same es fs (ordered_rest e es h) (ordered_rest e fs order) a.1 b.1
    (rests_same e es fs h order (subst (λ x. GiveSame (e ∷ es) (x ∷ fs)) (sym first) same))
    in
    (λ i. first i ∷ rest i)

-- effects that give exactly the same are equal
pub just_one : (given : Given) (es fs : List Effect) → GiveJust given es → GiveJust given fs → es ≡ fs
just_one given es fs a b =
    effects_same es fs a.ordered b.ordered a.nonempty b.nonempty
    (record {
      pages = a.pages ∙ sym b.pages;
      entries = a.entries ∙ sym b.entries;
      byte = λ at. a.byte at ∙ sym (b.byte at);
      entry = λ at. a.entry at ∙ sym (b.entry at);
      global = λ at. a.global at ∙ sym (b.global at);
    })
