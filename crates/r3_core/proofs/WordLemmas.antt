-- The words that say a job say no other one.
use Rattle.std.proofs.Common.{◌≡◌, ℕ, ◌^◌, ◌<◌, ◌≤◌, true, List, [], ◌∷◌, ◌++◌, length, map, find, drop, take, decimal, refl, sym, ◌∙◌, ap, subst, arith, Option, Some, None}
use Rattle.std.specs.Option.{option_map, option_map_or}
use Rattle.std.proofs.Math.Seq.{drop-append_seam, take-append_seam}
use Rattle.std.proofs.lemmas.Fmt.{decimal_injective}
use Rattle.std.proofs.lemmas.List.{length-map}
use Rattle.std.proofs.lemmas.Slice.Eq.{bytes_eq-Decides}
use Rattle.std.specs.Str.{bytes_eq}
use Rattle.r3_core.specs.declared.jobs.Job.{Job}
use Rattle.r3_core.specs.declared.jobs.Job.TheVariants.{Make, Instrument, Record, Reduce, Build, History, Replay, Show, Load, Foreign, ForeignHistory, Pair, PairHistory, From}
use Rattle.r3_core.specs.declared.words.NumberRange.{NumberRange}
use Rattle.r3_core.specs.Jobs.{form}
use Rattle.r3_core.specs.Words.{AreInRange, Says}

-- a text is equal to itself
pub bytes_eq-same : (xs ys : List ℕ) → xs ≡ ys → bytes_eq xs ys ≡ true
bytes_eq-same xs ys e = (bytes_eq-Decides xs ys).1 e

-- ---- the command of a name

-- the limits of a job's files, and the ranges of its numbers
record Shape : Type 0 where
  limits : List ℕ
  ranges : List NumberRange

abbrev shape : {B : Type 0} → Job B → Shape
shape job = record {
  limits = map (λ file. file.1) (form job).files;
  ranges = map (λ number. number.1) (form job).numbers;
}

-- how a job is made of the names of its files and of its numbers
abbrev Builder : Type 0
Builder = List (List ℕ) → List ℕ → Option (Job (List ℕ))

abbrev of_file : (List ℕ → Job (List ℕ)) → Builder
of_file K (a ∷ []) [] = Some (K a)
of_file K files numbers = None

abbrev of_file_turns : (List ℕ → ℕ → Job (List ℕ)) → Builder
of_file_turns K (a ∷ []) (n ∷ []) = Some (K a n)
of_file_turns K files numbers = None

abbrev of_two : (List ℕ → List ℕ → ℕ → Job (List ℕ)) → Builder
of_two K (a ∷ b ∷ []) (n ∷ []) = Some (K a b n)
of_two K files numbers = None

abbrev of_two_numbers : (List ℕ → List ℕ → ℕ → ℕ → Job (List ℕ)) → Builder
of_two_numbers K (a ∷ b ∷ []) (n ∷ k ∷ []) = Some (K a b n k)
of_two_numbers K files numbers = None

abbrev of_three : (List ℕ → List ℕ → List ℕ → Job (List ℕ)) → Builder
of_three K (a ∷ b ∷ d ∷ []) [] = Some (K a b d)
of_three K files numbers = None

abbrev of_three_turns : (List ℕ → List ℕ → List ℕ → ℕ → Job (List ℕ)) → Builder
of_three_turns K (a ∷ b ∷ d ∷ []) (n ∷ []) = Some (K a b d n)
of_three_turns K files numbers = None

abbrev of_number : (ℕ → Job (List ℕ)) → Builder
of_number K [] (n ∷ []) = Some (K n)
of_number K files numbers = None

-- a job of each command, and how such a job is made
abbrev kinds : List (Job (Unit {0}) × Builder)
kinds =
    (Make tt tt 0, of_two Make) ∷ (Instrument tt, of_file Instrument) ∷ (Record tt tt 0, of_two Record)
    ∷ (Reduce tt, of_file Reduce) ∷ (Build tt tt tt, of_three Build) ∷ (History tt tt 0, of_two History)
    ∷ (Replay tt 0, of_file_turns Replay) ∷ (Show tt, of_file Show) ∷ (Load 0, of_number Load)
    ∷ (Foreign tt tt tt 0, of_three_turns Foreign) ∷ (ForeignHistory tt tt tt 0, of_three_turns ForeignHistory)
    ∷ (Pair tt tt tt 0, of_three_turns Pair) ∷ (PairHistory tt tt tt 0, of_three_turns PairHistory)
    ∷ (From tt tt 0 0, of_two_numbers From) ∷ []

abbrev kind_of_name : List ℕ → Option (Job (Unit {0}) × Builder)
kind_of_name name = find (λ kind. bytes_eq (form kind.0).name name) kinds

abbrev shape_of_name : List ℕ → Option Shape
shape_of_name name = option_map (λ kind. shape kind.0) (kind_of_name name)

-- the job of the command of a name, with files and numbers
abbrev job_of_name : List ℕ → Builder
job_of_name name files numbers = option_map_or (λ kind. kind.1 files numbers) (kind_of_name name) None

-- numbers of 64 bits
AreSmall : List NumberRange → Type 0
AreSmall [] = Unit {0}
AreSmall (range ∷ ranges) = (range.most < 2 ^ 64) × AreSmall ranges

abbrev names_of : Job (List ℕ) → List (List ℕ)
names_of job = map (λ file. file.0) (form job).files

abbrev numbers_of : Job (List ℕ) → List ℕ
numbers_of job = map (λ number. number.0) (form job).numbers

-- a job is known by the name of its command, its files and its numbers
record IsKnown (job : Job (List ℕ)) : Type 0 where
  has_shape : shape_of_name (form job).name ≡ Some (shape job)
  is_made : job_of_name (form job).name (names_of job) (numbers_of job) ≡ Some job
  small : AreSmall (shape job).ranges

known : (job : Job (List ℕ)) → IsKnown job
unfolding AreSmall
known (Make m s turns) = record { has_shape = refl; is_made = refl; small = (omega arith, tt) }
known (Instrument m) = record { has_shape = refl; is_made = refl; small = tt }
known (Record hooked s turns) = record { has_shape = refl; is_made = refl; small = (omega arith, tt) }
known (Reduce log) = record { has_shape = refl; is_made = refl; small = tt }
known (Build m s tape) = record { has_shape = refl; is_made = refl; small = tt }
known (History m s turns) = record { has_shape = refl; is_made = refl; small = (omega arith, tt) }
known (Replay binary turns) = record { has_shape = refl; is_made = refl; small = (omega arith, tt) }
known (Show trace) = record { has_shape = refl; is_made = refl; small = tt }
known (Load calls) = record { has_shape = refl; is_made = refl; small = (omega arith, tt) }
known (Foreign m decls s turns) = record { has_shape = refl; is_made = refl; small = (omega arith, tt) }
known (ForeignHistory m decls s turns) = record { has_shape = refl; is_made = refl; small = (omega arith, tt) }
known (Pair left right s turns) = record { has_shape = refl; is_made = refl; small = (omega arith, tt) }
known (PairHistory left right s turns) = record { has_shape = refl; is_made = refl; small = (omega arith, tt) }
known (From m s turns call) = record { has_shape = refl; is_made = refl; small = (omega arith, (omega arith, tt)) }

-- ---- two readings of the words

-- two lists of numbers that are written alike
numbers-one : (ns ms : List (ℕ × NumberRange))
    → map (λ number. number.1) ms ≡ map (λ number. number.1) ns → AreSmall (map (λ number. number.1) ns)
    → AreInRange ns → AreInRange ms → map (λ number. decimal number.0) ms ≡ map (λ number. decimal number.0) ns
    → map (λ number. number.0) ms ≡ map (λ number. number.0) ns
unfolding AreSmall
numbers-one [] [] ranges small all others words = refl
numbers-one [] (m ∷ ms) ranges small all others words = cc ranges
numbers-one (n ∷ ns) [] ranges small all others words = cc ranges
numbers-one (n ∷ ns) (m ∷ ms) ranges small all others words =
    let range : m.1 ≡ n.1 = cc ranges in
    let high : m.0 ≤ n.1.most = subst (λ (range : NumberRange). m.0 ≤ range.most) range others.0.1 in
    let first : m.0 ≡ n.0 = decimal_injective m.0 n.0 (omega (arith, high, small.0)) (omega (arith, all.0.1, small.0)) (cc words) in
    let later = numbers-one ns ms (cc ranges) small.1 all.1 others.1 (cc words) in
    ap (λ n. n ∷ map (λ number. number.0) ms) first ∙ ap (λ ns. n.0 ∷ ns) later

module _ (words : List (List ℕ)) (job other : Job (List ℕ)) (says : Says words job) (again : Says words other) where
  same-name : (form other).name ≡ (form job).name
  same-name = cc (sym again.parts ∙ says.parts)

  same-rest : names_of other ++ map (λ number. decimal number.0) (form other).numbers
      ≡ names_of job ++ map (λ number. decimal number.0) (form job).numbers
  same-rest = cc (sym again.parts ∙ says.parts)

  same-shape : shape other ≡ shape job
  same-shape =
      let e : Some (shape other) ≡ Some (shape job) =
      sym (known other).has_shape ∙ ap shape_of_name same-name ∙ (known job).has_shape in
      cc e

  same-count : length (names_of other) ≡ length (names_of job)
  same-count =
      length-map (form other).files (λ file. file.0) ∙ sym (length-map (form other).files (λ file. file.1))
      ∙ ap (λ (s : Shape). length s.limits) same-shape
      ∙ length-map (form job).files (λ file. file.1) ∙ sym (length-map (form job).files (λ file. file.0))

  same-names : names_of other ≡ names_of job
  same-names =
      sym (take-append_seam (names_of other) (map (λ number. decimal number.0) (form other).numbers))
      ∙ ap (take (length (names_of other))) same-rest
      ∙ ap (λ n. take n (names_of job ++ map (λ number. decimal number.0) (form job).numbers)) same-count
      ∙ take-append_seam (names_of job) (map (λ number. decimal number.0) (form job).numbers)

  same-after : map (λ number. decimal number.0) (form other).numbers ≡ map (λ number. decimal number.0) (form job).numbers
  same-after =
      sym (drop-append_seam (names_of other) (map (λ number. decimal number.0) (form other).numbers))
      ∙ ap (drop (length (names_of other))) same-rest
      ∙ ap (λ n. drop n (names_of job ++ map (λ number. decimal number.0) (form job).numbers)) same-count
      ∙ drop-append_seam (names_of job) (map (λ number. decimal number.0) (form job).numbers)

  same-numbers : numbers_of other ≡ numbers_of job
  same-numbers =
      numbers-one (form job).numbers (form other).numbers (ap (λ (s : Shape). s.ranges) same-shape) (known job).small
      says.in_range again.in_range same-after

  -- words say one job
  pub Says-one : other ≡ job
  Says-one =
      let here : job_of_name (form other).name (names_of other) (numbers_of other)
      ≡ job_of_name (form job).name (names_of job) (numbers_of job) =
      ap (λ name. job_of_name name (names_of other) (numbers_of other)) same-name
      ∙ ap (λ names. job_of_name (form job).name names (numbers_of other)) same-names
      ∙ ap (job_of_name (form job).name (names_of job)) same-numbers
      in
      let e : Some other ≡ Some job = sym (known other).is_made ∙ here ∙ (known job).is_made in
      cc e
