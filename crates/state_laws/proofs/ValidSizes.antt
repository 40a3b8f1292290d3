-- The sizes of a memory and a table in a state: limits that begin with them are valid, match imports, and are small.
use Rattle.std.proofs.Common.{◌≡◌, ℕ, ◌<◌, ◌≤◌, List, [], ◌∷◌, ◌++◌, length, map, Option, Some, None, false, ◌&&◌, cond, nat_lt, nat_le, option_map, refl, ap, ◌∙◌, arith, length-append}
use Rattle.std.specs.Prelude.{IfSome, IsTrue, filter_map}
use Rattle.std.specs.List.{AllByRecursion, cons_option}
use Rattle.std.proofs.lemmas.Bool.Decides.{nat_tests}
use Rattle.std.proofs.lemmas.List.{length-map}
use Rattle.base.proofs.Booleans.{and_parts, and_true}
use Rattle.wasm_syntax.specs.declared.profile.Which.{Which}
use Rattle.wasm_syntax.specs.declared.signatures.Limits.{Limits}
use Rattle.wasm_syntax.specs.Profile.{Limit, past}
use Rattle.wasm_syntax.specs.Validity.{IsLimits}
use Rattle.host_script.specs.Supply.{is_within, keeps_max}
use Rattle.history_spec.specs.Instantiation.{limits_of}
use Rattle.type_safety.specs.Supplies.{Match}
use Rattle.rest_spec.specs.StateModules.{with_min}
use Rattle.state_laws.specs.Valid.{IsSize}

-- ---- a size

pub size_small : (most size : ℕ) (declared : List Limits) (first : Option Limits) → IsSize most declared first size
    → size ≤ most
size_small most size [] first is = omega (arith, is)
size_small most size (declared ∷ more) None is = absurd is
size_small most size (declared ∷ more) (Some first) is = is.2

-- what has a size other than 0 exists
pub size_there : (most size : ℕ) (declared : List Limits) (first : Option Limits) → IsSize most declared first size
    → 0 < size → 0 < length declared
size_there most size [] first is some = absurd (omega (arith, is, some))
size_there most size (declared ∷ more) first is some = omega arith

abbrev pub IsWithin : ℕ → Limits → Type 0
IsWithin size limits = IsTrue (is_within size limits.max)

-- the size is within the maximum of what the module defines
pub own_within : (most size : ℕ) (imports defined : List Limits) (supplied : Option Limits)
    → length (imports ++ defined) ≤ 1 → IsSize most (imports ++ defined) (limits_of imports supplied defined) size
    → AllByRecursion (IsWithin size) defined
own_within most size [] [] supplied one is = tt
own_within most size [] (own ∷ []) supplied one is = (is.1, tt)
own_within most size [] (own ∷ other ∷ more) supplied one is = absurd (omega (arith, one))
own_within most size (wanted ∷ imports) [] supplied one is = tt
own_within most size (wanted ∷ imports) (own ∷ more) supplied one is =
    absurd (omega (arith, one, length-append imports (own ∷ more)))

-- ---- limits that begin with the size

module _ (size : ℕ) where
  -- as many as before
  pub sized_many : (imports defined : List Limits)
      → length (imports ++ defined) ≡ length (imports ++ map (with_min size) defined)
  sized_many imports defined = omega (
    arith,
    length-append imports defined,
    length-append imports (map (with_min size) defined),
    length-map defined (with_min size),
  )

  one_valid : (range : ℕ) → size ≤ range → (limits : Limits) → IsWithin size limits → IsLimits range limits
      → IsLimits range (with_min size limits)
  one_valid range low limits within valid = record { min = low; max = by limits.max within valid.max }
    where
      by : (max : Option ℕ) → IsTrue (is_within size max)
          → IfSome max (λ max. (max ≤ range) × (limits.min ≤ max))
          → IfSome max (λ max. (max ≤ range) × (size ≤ max))
      by None w v = tt
      by (Some max) w v = (v.0, grind (arith, nat_tests, w))

  pub sized_valid : (range : ℕ) → size ≤ range → (defined : List Limits) → AllByRecursion (IsWithin size) defined
      → AllByRecursion (IsLimits range) defined → AllByRecursion (IsLimits range) (map (with_min size) defined)
  sized_valid range low [] within valid = tt
  sized_valid range low (limits ∷ defined) within valid =
      (one_valid range low limits within.0 valid.0, sized_valid range low defined within.1 valid.1)

  -- the supplied limits match the imports
  pub sized_match : (most : ℕ) (imports defined : List Limits) (supplied : Option Limits)
      → IsSize most (imports ++ defined) (limits_of imports supplied defined) size → Match most imports supplied
      → Match most imports (option_map (with_min size) supplied)
  sized_match most [] defined supplied is matches = tt
  sized_match most (wanted ∷ imports) defined None is matches = absurd matches
  sized_match most (wanted ∷ imports) defined (Some given) is matches =
      let first = and_parts (nat_le wanted.min given.min && keeps_max given.max wanted.max && is_within given.min given.max)
      (nat_le given.min most) matches in
      let second = and_parts (nat_le wanted.min given.min && keeps_max given.max wanted.max) (is_within given.min given.max)
      first.0 in
      let third = and_parts (nat_le wanted.min given.min) (keeps_max given.max wanted.max) second.0 in
      let least = is.0 in
      let low = is.2 in
      and_true (nat_le wanted.min size && keeps_max given.max wanted.max && is_within size given.max) (nat_le size most)
      (and_true (nat_le wanted.min size && keeps_max given.max wanted.max) (is_within size given.max)
      (and_true (nat_le wanted.min size) (keeps_max given.max wanted.max) (grind (arith, nat_tests, least)) third.1)
      is.1)
      (grind (arith, nat_tests, low))

  -- ---- quantities

  abbrev pub IsSmall : ℕ → Limits → Type 0
  IsSmall most limits = limits.min ≤ most

  pub sized_small : (most : ℕ) → size ≤ most → (imports defined : List Limits)
      → AllByRecursion (IsSmall most) (imports ++ defined)
      → AllByRecursion (IsSmall most) (imports ++ map (with_min size) defined)
  sized_small most low [] defined small = own defined
    where
      own : (defined : List Limits) → AllByRecursion (IsSmall most) (map (with_min size) defined)
      own [] = tt
      own (limits ∷ defined) = (low, own defined)
  sized_small most low (wanted ∷ imports) defined small = (small.0, sized_small most low imports defined small.1)

-- no minimum is past its limit
pub nothing_past : (most : ℕ) (which : Which) (limits : List Limits) → AllByRecursion (λ l. l.min ≤ most) limits
    → filter_map (λ l. past most which l.min) limits ≡ []
nothing_past most which [] small = refl
nothing_past most which (l ∷ limits) small =
    let low = small.0 in
    let within : nat_lt most l.min ≡ false = grind (arith, nat_tests, low) in
    ap (λ b. cons_option (cond b (Some (Limit which l.min)) None) (filter_map (λ l. past most which l.min) limits)) within
    ∙ nothing_past most which limits small.1
