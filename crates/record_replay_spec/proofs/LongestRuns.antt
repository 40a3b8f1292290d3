-- Bytes that are read and are not the known ones are reported in longest runs.
use Rattle.std.proofs.Common.{◌≡◌, ℕ, suc, ◌+◌, ◌-◌, ◌≤◌, List, [], ◌∷◌, length, Option, Some, None, Bool, true, false, cond, ◌&&◌, nat_eq, nat_le, nat_lt, slice_get, refl, sym, ap, ◌∙◌, subst, arith}
use Rattle.std.specs.List.{list_all}
use Rattle.std.specs.Option.{option_or}
use Rattle.std.proofs.lemmas.Bool.Decides.{nat_tests}
use Rattle.base.proofs.Booleans.{and_parts, and_true, same_either}
use Rattle.base.proofs.Options.{or_none}
use Rattle.trace_model.specs.declared.events.Event.{Event}
use Rattle.trace_model.specs.declared.events.Event.TheVariants as events
use Rattle.trace_model.specs.declared.tapes.Effect.{Effect}
use Rattle.trace_model.specs.declared.tapes.Effect.TheVariants.{Bytes}
use Rattle.trace_model.specs.Effects.{is_before, are_ordered_after}
use Rattle.record_replay_spec.specs.Known.{byte_among, last_some}
use Rattle.record_replay_spec.specs.Needed.{needed, effect_byte, has_bytes}
use Rattle.record_replay_spec.proofs.Tested.{byte_later}
use Rattle.record_replay_spec.specs.Logs.{with_first_byte, differing_runs}
use Rattle.record_replay_spec.specs.HookLaws.{effects_of_runs, AreDifferingRuns, DifferingBytesAreReported}

-- ---- runs as effects

-- a byte in front of runs, joined with the first run if that is directly after it
abbrev joined : (address byte : ℕ) → List Effect → List Effect
joined address byte (Bytes at bytes ∷ runs) =
    cond (nat_eq at (address + 1)) (Bytes address (byte ∷ bytes) ∷ runs)
    (Bytes address (byte ∷ []) ∷ Bytes at bytes ∷ runs)
joined address byte runs = Bytes address (byte ∷ []) ∷ runs

abbrev runs_from : (known : ℕ → ℕ) → (address : ℕ) → List ℕ → List Effect
runs_from known address [] = []
runs_from known address (byte ∷ bytes) =
    cond (nat_eq byte (known address)) (runs_from known (address + 1) bytes)
    (joined address byte (runs_from known (address + 1) bytes))

-- the event reports bytes
abbrev is_bytes : Event → Bool
is_bytes (events.Bytes address bytes) = true
is_bytes event = false

first_same : (address byte : ℕ) (runs : List Event) → list_all is_bytes runs ≡ true
    → (effects_of_runs (with_first_byte address byte runs) ≡ joined address byte (effects_of_runs runs))
    × (list_all is_bytes (with_first_byte address byte runs) ≡ true)
first_same address byte [] h = (refl, refl)
first_same address byte (events.Bytes at bytes ∷ runs) h = go (nat_eq at (address + 1))
  where
    go : (b : Bool)
        → (effects_of_runs
        (cond b (events.Bytes address (byte ∷ bytes) ∷ runs)
        (events.Bytes address (byte ∷ []) ∷ events.Bytes at bytes ∷ runs))
        ≡ cond b (Bytes address (byte ∷ bytes) ∷ effects_of_runs runs)
        (Bytes address (byte ∷ []) ∷ Bytes at bytes ∷ effects_of_runs runs))
        × (list_all is_bytes
        (cond b (events.Bytes address (byte ∷ bytes) ∷ runs)
        (events.Bytes address (byte ∷ []) ∷ events.Bytes at bytes ∷ runs))
        ≡ true)
    go true = (refl, h)
    go false = (refl, h)
first_same address byte (event ∷ runs) h = cc

runs_same : (known : ℕ → ℕ) (address : ℕ) (bytes : List ℕ)
    → (effects_of_runs (differing_runs known address bytes) ≡ runs_from known address bytes)
    × (list_all is_bytes (differing_runs known address bytes) ≡ true)
runs_same known address [] = (refl, refl)
runs_same known address (byte ∷ bytes) =
    go (nat_eq byte (known address)) (runs_same known (address + 1) bytes)
    (first_same address byte (differing_runs known (address + 1) bytes) (runs_same known (address + 1) bytes).1)
  where
    go : (b : Bool)
        → (effects_of_runs (differing_runs known (address + 1) bytes) ≡ runs_from known (address + 1) bytes)
        × (list_all is_bytes (differing_runs known (address + 1) bytes) ≡ true)
        → (effects_of_runs (with_first_byte address byte (differing_runs known (address + 1) bytes))
        ≡ joined address byte (effects_of_runs (differing_runs known (address + 1) bytes)))
        × (list_all is_bytes (with_first_byte address byte (differing_runs known (address + 1) bytes)) ≡ true)
        → (effects_of_runs
        (cond b (differing_runs known (address + 1) bytes)
        (with_first_byte address byte (differing_runs known (address + 1) bytes)))
        ≡ cond b (runs_from known (address + 1) bytes) (joined address byte (runs_from known (address + 1) bytes)))
        × (list_all is_bytes
        (cond b (differing_runs known (address + 1) bytes)
        (with_first_byte address byte (differing_runs known (address + 1) bytes)))
        ≡ true)
    go true rest first = rest
    go false rest first = (first.0 ∙ ap (joined address byte) rest.0, first.1)

-- ---- one more byte in front

-- runs are at or after an address
abbrev AreFrom : (address : ℕ) → List Effect → Type 0
AreFrom address [] = Unit {0}
AreFrom address (Bytes at bytes ∷ runs) = address ≤ at
AreFrom address (effect ∷ runs) = ⊥

record Stands (known : ℕ → ℕ) (address : ℕ) (bytes : List ℕ) (runs : List Effect) : Type 0 where
  report : AreDifferingRuns known address bytes runs
  from : AreFrom address runs

-- the byte at the first address
pub byte_first : (address byte : ℕ) (bytes : List ℕ) → byte_among address (byte ∷ bytes) address ≡ Some byte
byte_first address byte bytes =
    let p : nat_le address address ≡ true = grind (arith, nat_tests) in
    let e : address - address ≡ 0 = omega arith in
    ap (λ b. cond b (slice_get (byte ∷ bytes) (address - address)) None) p ∙ ap (slice_get (byte ∷ bytes)) e

pub byte_before : (address : ℕ) (bytes : List ℕ) → byte_among (suc address) bytes address ≡ None
byte_before address bytes =
    let p : nat_le (suc address) address ≡ false = grind (arith, nat_tests) in
    ap (λ b. cond b (slice_get bytes (address - suc address)) None) p

none_of_or : {X : Type 0} (a b : Option X) → option_or a b ≡ None → a ≡ None
none_of_or None b h = refl
none_of_or (Some x) b h = cc

module _ (known : ℕ → ℕ) (address byte : ℕ) (bytes : List ℕ) where
  -- what is reported at an address, by whether that is the first
  everywhere : (runs : List Effect) (part : ℕ → Option ℕ)
      → ((at : ℕ) → last_some (effect_byte at) runs ≡ needed nat_eq (known at) (byte_among (suc address) bytes at))
      → (last_some (effect_byte address) runs ≡ None
      → part address ≡ needed nat_eq (known address) (byte_among address (byte ∷ bytes) address))
      → ((at : ℕ) → nat_eq address at ≡ false → part at ≡ last_some (effect_byte at) runs)
      → (at : ℕ) → part at ≡ needed nat_eq (known at) (byte_among address (byte ∷ bytes) at)
  everywhere runs part report first later at = go (nat_eq address at) refl
    where
      go : (b : Bool) → nat_eq address at ≡ b
          → part at ≡ needed nat_eq (known at) (byte_among address (byte ∷ bytes) at)
      go true same =
          let e : address ≡ at = grind (arith, nat_tests, same) in
          let none = report address ∙ ap (needed nat_eq (known address)) (byte_before address bytes) in
          subst (λ place. part place ≡ needed nat_eq (known place) (byte_among address (byte ∷ bytes) place)) e
          (first none)
      go false other =
          later at other ∙ report at ∙ ap (needed nat_eq (known at)) (sym (byte_later address byte bytes at other))

  -- the byte is known, and is not reported
  known_stands : (runs : List Effect) → nat_eq byte (known address) ≡ true → Stands known (suc address) bytes runs
      → Stands known address (byte ∷ bytes) runs
  known_stands runs same stands =
      record {
        report = record {
          ordered = stands.report.ordered;
          nonempty = stands.report.nonempty;
          byte =
              everywhere runs (λ at. last_some (effect_byte at) runs) stands.report.byte
              (λ none. none ∙ sym (ap (needed nat_eq (known address)) (byte_first address byte bytes) ∙ not_needed))
              (λ at other. refl);
        };
        from = from runs stands.from;
      }
    where
      not_needed : needed nat_eq (known address) (Some byte) ≡ None
      not_needed =
          let p : nat_eq (known address) byte ≡ true = grind (arith, nat_tests, same) in
          ap (λ b. cond b None (Some byte)) p

      from : (runs : List Effect) → AreFrom (suc address) runs → AreFrom address runs
      from [] h = tt
      from (Bytes at more ∷ runs) h = omega (arith, h)
      from (effect ∷ runs) h = absurd h

  module _ (differs : nat_eq byte (known address) ≡ false) where
    is_needed : Some byte ≡ needed nat_eq (known address) (byte_among address (byte ∷ bytes) address)
    is_needed =
        let p : nat_eq (known address) byte ≡ false = grind (arith, nat_tests, differs) in
        sym (ap (needed nat_eq (known address)) (byte_first address byte bytes) ∙ ap (λ b. cond b None (Some byte)) p)

    -- a run that begins with the byte, in front of others
    first_needed : (more : List ℕ) (rest : List Effect) → last_some (effect_byte address) rest ≡ None
        → last_some (effect_byte address) (Bytes address (byte ∷ more) ∷ rest)
        ≡ needed nat_eq (known address) (byte_among address (byte ∷ bytes) address)
    first_needed more rest none =
        ap (λ r. option_or r (byte_among address (byte ∷ more) address)) none
        ∙ byte_first address byte more
        ∙ is_needed

    -- a run of the byte alone gives nothing at other addresses
    alone_later : (runs : List Effect) (at : ℕ) → nat_eq address at ≡ false
        → last_some (effect_byte at) (Bytes address (byte ∷ []) ∷ runs) ≡ last_some (effect_byte at) runs
    alone_later runs at other =
        ap (option_or (last_some (effect_byte at) runs))
        (byte_later address byte [] at other ∙ same_either (nat_le (suc address) at) None)
        ∙ or_none (last_some (effect_byte at) runs)

    alone_reports : (runs : List Effect) → Stands known (suc address) bytes runs → (at : ℕ)
        → last_some (effect_byte at) (Bytes address (byte ∷ []) ∷ runs)
        ≡ needed nat_eq (known at) (byte_among address (byte ∷ bytes) at)
    alone_reports runs stands =
        everywhere runs (λ at. last_some (effect_byte at) (Bytes address (byte ∷ []) ∷ runs)) stands.report.byte
        (first_needed [] runs) (alone_later runs)

    -- the byte is apart from the first run
    apart_stands : (at : ℕ) (more : List ℕ) (rest : List Effect) → nat_eq at (address + 1) ≡ false
        → Stands known (suc address) bytes (Bytes at more ∷ rest)
        → Stands known address (byte ∷ bytes) (Bytes address (byte ∷ []) ∷ Bytes at more ∷ rest)
    apart_stands at more rest apart stands =
        let from : suc address ≤ at = stands.from in
        let past : nat_lt (address + 1) at ≡ true = grind (arith, nat_tests, apart, from) in
        record {
          report = record {
            ordered =
                and_true (nat_lt (address + 1) at) (are_ordered_after (Bytes at more) rest) past stands.report.ordered;
            nonempty = stands.report.nonempty;
            byte = alone_reports (Bytes at more ∷ rest) stands;
          };
          from = omega arith;
        }

    -- the byte joins the first run
    joined_stands : (at : ℕ) (more : List ℕ) (rest : List Effect) → nat_eq at (address + 1) ≡ true
        → Stands known (suc address) bytes (Bytes at more ∷ rest)
        → Stands known address (byte ∷ bytes) (Bytes address (byte ∷ more) ∷ rest)
    joined_stands at more rest next stands =
        record {
          report = record {
            ordered = ordered rest stands.report.ordered;
            nonempty = (and_parts (has_bytes (Bytes at more)) (list_all has_bytes rest) stands.report.nonempty).1;
            byte =
                everywhere (Bytes at more ∷ rest)
                (λ place. last_some (effect_byte place) (Bytes address (byte ∷ more) ∷ rest))
                stands.report.byte
                (λ none. first_needed more rest (none_of_or _ (byte_among at more address) none)) later;
          };
          from = omega arith;
        }
      where
        is_next : at ≡ suc address
        is_next = grind (arith, nat_tests, next)

        before_same : (g : Effect) → is_before (Bytes at more) g ≡ is_before (Bytes address (byte ∷ more)) g
        before_same (Bytes other bytes) =
            let e : at + length more ≡ address + suc (length more) = omega (arith, is_next) in
            ap (λ end. nat_lt end other) e
        before_same g = refl

        ordered : (rest : List Effect) → are_ordered_after (Bytes at more) rest ≡ true
            → are_ordered_after (Bytes address (byte ∷ more)) rest ≡ true
        ordered [] h = refl
        ordered (g ∷ gs) h = sym (ap (λ b. b && are_ordered_after g gs) (before_same g)) ∙ h

        later : (place : ℕ) → nat_eq address place ≡ false
            → last_some (effect_byte place) (Bytes address (byte ∷ more) ∷ rest)
            ≡ last_some (effect_byte place) (Bytes at more ∷ rest)
        later place other =
            ap (option_or (last_some (effect_byte place) rest))
            (byte_later address byte more place other
            ∙ ap (λ begin. byte_among begin more place) (sym is_next))

    differing_stands : (runs : List Effect) → Stands known (suc address) bytes runs
        → Stands known address (byte ∷ bytes) (joined address byte runs)
    differing_stands [] stands =
        record {
          report = record { ordered = refl; nonempty = refl; byte = alone_reports [] stands };
          from = omega arith;
        }
    differing_stands (Bytes at more ∷ rest) stands = go (nat_eq at (address + 1)) refl
      where
        go : (b : Bool) → nat_eq at (address + 1) ≡ b
            → Stands known address (byte ∷ bytes)
            (cond b (Bytes address (byte ∷ more) ∷ rest) (Bytes address (byte ∷ []) ∷ Bytes at more ∷ rest))
        go true next = joined_stands at more rest next stands
        go false apart = apart_stands at more rest apart stands
    differing_stands (effect ∷ rest) stands = absurd stands.from

-- ---- all bytes

all_stand : (known : ℕ → ℕ) (address : ℕ) (bytes : List ℕ)
    → Stands known address bytes (runs_from known address bytes)
all_stand known address [] =
    record {
      report = record { ordered = refl; nonempty = refl; byte = λ at. nothing at (nat_le address at) };
      from = tt;
    }
  where
    nothing : (at : ℕ) (b : Bool) → None ≡ needed nat_eq (known at) (cond b None None)
    nothing at true = refl
    nothing at false = refl
all_stand known address (byte ∷ bytes) =
    let e : address + 1 ≡ suc address = omega arith in
    let rest =
    subst (λ next. Stands known next bytes (runs_from known (address + 1) bytes)) e
    (all_stand known (address + 1) bytes)
    in
    go (nat_eq byte (known address)) refl rest
  where
    go : (b : Bool) → nat_eq byte (known address) ≡ b
        → Stands known (suc address) bytes (runs_from known (address + 1) bytes)
        → Stands known address (byte ∷ bytes)
        (cond b (runs_from known (address + 1) bytes) (joined address byte (runs_from known (address + 1) bytes)))
    go true same rest = known_stands known address byte bytes (runs_from known (address + 1) bytes) same rest
    go false differs rest =
        differing_stands known address byte bytes differs (runs_from known (address + 1) bytes) rest

pub differing_bytes_are_reported : DifferingBytesAreReported
differing_bytes_are_reported known address bytes =
    subst (AreDifferingRuns known address bytes) (sym (runs_same known address bytes).0)
    (all_stand known address bytes).report
