-- What the events of an observation find is what the observation by itself needs.
use Rattle.std.proofs.Common.{◌≡◌, ℕ, ◌+◌, List, [], ◌∷◌, Option, Some, None, Bool, true, false, cond, nat_eq, nat_lt, refl, sym, ap, ◌∙◌, subst, arith, inl, inr}
use Rattle.std.specs.Prelude.{◌⊎◌, option_map, option_and_then}
use Rattle.std.specs.Option.{option_or}
use Rattle.std.proofs.lemmas.Bool.Decides.{nat_tests}
use Rattle.trace_model.specs.declared.events.Event.{Event}
use Rattle.trace_model.specs.declared.events.Event.TheVariants.{Seen, Table, Bytes}
use Rattle.trace_model.specs.declared.tapes.Effect.{Effect}
use Rattle.trace_model.specs.declared.tapes.Effect.TheVariants as effects
use Rattle.record_replay_spec.specs.Known.{Known}
use Rattle.record_replay_spec.specs.Alike.{same_option}
use Rattle.record_replay_spec.specs.Needed.{needed, effect_pages, effect_entries}
use Rattle.record_replay_spec.specs.Hooks.{renumber, original}
use Rattle.record_replay_spec.specs.Logs.{with_first_byte, differing_runs, unless}
use Rattle.record_replay_spec.specs.LogTapes.{first_some}
use Rattle.tape_laws.proofs.FirstBytes.{finds_of}

-- ---- the known values of a log

-- what a log knows is what the run knows, with the table's functions in the instrumented module
pub record IsReportedKnown (n : ℕ) (known reported : Known) : Type 0 where
  pub byte : (at : ℕ) → reported.byte at ≡ known.byte at
  pub entry : (at : ℕ) → reported.entry at ≡ option_map (renumber n) (known.entry at)
  pub global : (at : ℕ) → reported.global at ≡ known.global at
  pub pages : reported.pages ≡ known.pages
  pub entries : reported.entries ≡ known.entries

-- ---- bytes alone are found by a read of bytes

module _ {X : Type 0} (size : ℕ) (part : Effect → Option X)
    (none : (address : ℕ) (bytes : List ℕ) → part (effects.Bytes address bytes) ≡ None) where
  behind_bytes : (address : ℕ) (bytes : List ℕ) (rest : List Effect)
      → first_some part (effects.Bytes address bytes ∷ rest) ≡ first_some part rest
  behind_bytes address bytes rest = ap (λ o. option_or o (first_some part rest)) (none address bytes)

  none_in_front : (address byte : ℕ) (runs : List Event) → first_some part (finds_of size runs) ≡ None
      → first_some part (finds_of size (with_first_byte address byte runs)) ≡ None
  none_in_front address byte [] h = behind_bytes address (byte ∷ []) []
  none_in_front address byte (Bytes at bytes ∷ runs) h = go (nat_eq at (address + 1))
    where
      go : (b : Bool)
          → first_some part
          (finds_of size
          (cond b (Bytes address (byte ∷ bytes) ∷ runs) (Bytes address (byte ∷ []) ∷ Bytes at bytes ∷ runs)))
          ≡ None
      go true =
          behind_bytes address (byte ∷ bytes) (finds_of size runs)
          ∙ sym (behind_bytes at bytes (finds_of size runs)) ∙ h
      go false = behind_bytes address (byte ∷ []) (finds_of size (Bytes at bytes ∷ runs)) ∙ h
  none_in_front address byte (event ∷ runs) h =
      behind_bytes address (byte ∷ []) (finds_of size (event ∷ runs)) ∙ h

  pub none_differing : (known : ℕ → ℕ) (address : ℕ) (bytes : List ℕ)
      → first_some part (finds_of size (differing_runs known address bytes)) ≡ None
  none_differing known address [] = refl
  none_differing known address (byte ∷ bytes) =
      one (nat_eq byte (known address)) (differing_runs known (address + 1) bytes)
      (none_differing known (address + 1) bytes)
    where
      one : (b : Bool) (runs : List Event) → first_some part (finds_of size runs) ≡ None
          → first_some part (finds_of size (cond b runs (with_first_byte address byte runs))) ≡ None
      one true runs h = h
      one false runs h = none_in_front address byte runs h

-- a log knows what the run knows, with the table's functions numbered as in the instrumented module

-- the last noticed size of the memory is the real one, which the last growth reported, or which is known
pub record IsNoticed (noticed size known real : ℕ) : Type 0 where
  pub is_real : noticed ≡ real
  pub is_reported : (size ≡ noticed) ⊎ (known ≡ noticed)

needed_size : (b : Bool) (known found : ℕ) → nat_eq known found ≡ b
    → needed nat_eq known (Some found) ≡ cond b None (Some found)
needed_size b known found h = ap (λ c. cond c None (Some found)) h

pub found_size : (known found noticed size : ℕ) → IsNoticed noticed size known found
    → first_some effect_pages (finds_of size (unless (nat_eq known noticed) Seen))
    ≡ needed nat_eq known (Some found)
found_size known found noticed size is =
    subst
    (λ real. first_some effect_pages (finds_of size (unless (nat_eq known noticed) Seen))
    ≡ needed nat_eq known (Some real)) is.is_real
    (go (nat_eq known noticed) refl is.is_reported)
  where
    go : (b : Bool) → nat_eq known noticed ≡ b → (size ≡ noticed) ⊎ (known ≡ noticed)
        → first_some effect_pages (finds_of size (unless b Seen)) ≡ needed nat_eq known (Some noticed)
    go true h reported = sym (needed_size true known noticed h)
    go false h (inl same) = ap Some same ∙ sym (needed_size false known noticed h)
    go false h (inr same) =
        let p : nat_eq known noticed ≡ true = grind (arith, nat_tests, same) in
        cc

pub found_entries_number : (known found size : ℕ)
    → first_some effect_entries (finds_of size (unless (nat_eq found known) (Table found)))
    ≡ needed nat_eq known (Some found)
found_entries_number known found size = go (nat_eq found known) refl
  where
    go : (b : Bool) → nat_eq found known ≡ b
        → first_some effect_entries (finds_of size (unless b (Table found))) ≡ needed nat_eq known (Some found)
    go true h =
        let p : nat_eq known found ≡ true = grind (arith, nat_tests, h) in
        sym (needed_size true known found p)
    go false h =
        let p : nat_eq known found ≡ false = grind (arith, nat_tests, h) in
        sym (needed_size false known found p)

-- ---- an entry

same_renumbered : (n a b : ℕ) → nat_eq (renumber n a) (renumber n b) ≡ nat_eq a b
same_renumbered n a b = go (nat_lt a n) (nat_lt b n) refl refl
  where
    go : (c d : Bool) → nat_lt a n ≡ c → nat_lt b n ≡ d
        → nat_eq (cond c a (a + 15)) (cond d b (b + 15)) ≡ nat_eq a b
    go true true p q = refl
    go true false p q = grind (arith, nat_tests, p, q)
    go false true p q = grind (arith, nat_tests, p, q)
    go false false p q = grind (arith, nat_tests, p, q)

pub same_reported_entry : (n : ℕ) (known func : Option ℕ)
    → same_option nat_eq (option_map (renumber n) known) (option_map (renumber n) func) ≡ same_option nat_eq known func
same_reported_entry n None None = refl
same_reported_entry n None (Some b) = refl
same_reported_entry n (Some a) None = refl
same_reported_entry n (Some a) (Some b) = same_renumbered n a b

pub original_entry : (n : ℕ) → ((func : ℕ) → original n (renumber n func) ≡ Some func) → (func : Option ℕ)
    → option_and_then (original n) (option_map (renumber n) func) ≡ func
original_entry n back None = refl
original_entry n back (Some func) = back func

no_place : {X : Type 0} (b : Bool) → cond {A = Option X} b None None ≡ None
no_place true = refl
no_place false = refl

-- what is found of a place that is read and not known
found_place : {X : Type 0} (same : X → X → Bool) (known : ℕ → X) (index at : ℕ) (x : X)
    → cond (same (known index) x) None (cond (nat_eq index at) (Some x) None)
    ≡ needed same (known at) (cond (nat_eq index at) (Some x) None)
found_place same known index at x = go (nat_eq index at) refl
  where
    go : (b : Bool) → nat_eq index at ≡ b
        → cond (same (known index) x) None (cond b (Some x) None) ≡ needed same (known at) (cond b (Some x) None)
    go true h =
        let e : index ≡ at = grind (arith, nat_tests, h) in
        ap (λ place. cond (same (known place) x) None (Some x)) e
    go false h = no_place (same (known index) x)

-- an event finds nothing of a part that it does not give, whether it is reported or not
pub none_reported : {X : Type 0} (size : ℕ) (part : Effect → Option X) (event : Event)
    → first_some part (finds_of size (event ∷ [])) ≡ None → (unreported : Bool)
    → first_some part (finds_of size (unless unreported event)) ≡ None
none_reported size part event none true = refl
none_reported size part event none false = none

-- what is found of a place by its event, which is reported unless the place is known
pub reported_place : {X : Type 0} (size : ℕ) (same : X → X → Bool) (known : ℕ → X) (index : ℕ) (x : X)
    (part : ℕ → Effect → Option X) (event : Event)
    → ((at : ℕ) → first_some (part at) (finds_of size (event ∷ [])) ≡ cond (nat_eq index at) (Some x) None)
    → (unreported : Bool) → same (known index) x ≡ unreported → (at : ℕ)
    → first_some (part at) (finds_of size (unless unreported event))
    ≡ needed same (known at) (cond (nat_eq index at) (Some x) None)
reported_place size same known index x part event one true p at =
    sym (ap (λ b. cond b None (cond (nat_eq index at) (Some x) None)) p) ∙ found_place same known index at x
reported_place size same known index x part event one false p at =
    one at ∙ sym (ap (λ b. cond b None (cond (nat_eq index at) (Some x) None)) p) ∙ found_place same known index at x
