-- The functions of a guarded module under their numbers.
use Rattle.std.proofs.Common.{◌≡◌, ℕ, zero, suc, ◌+◌, ◌-◌, ◌<◌, ◌≤◌, List, [], ◌∷◌, ◌++◌, length, map, Some, Bool, true, false, cond, nat_lt, slice_get, option_and_then, refl, sym, ap, ◌∙◌, subst, arith, length-append}
use Rattle.std.specs.Prelude.{drop}
use Rattle.std.specs.List.{enumerate_from}
use Rattle.std.proofs.lemmas.Bool.Decides.{nat_tests}
use Rattle.std.proofs.lemmas.List.{append_assoc, length-map, length-take, map-append, take-append-drop}
use Rattle.std.proofs.lemmas.Option.{slice_get_within}
use Rattle.base.proofs.Lists.{get_after_by, get_front}
use Rattle.base.proofs.Options.{and_then_some}
use Rattle.wasm_syntax.specs.declared.signatures.FuncType.{FuncType}
use Rattle.wasm_syntax.specs.declared.signatures.Limits.{Limits}
use Rattle.wasm_syntax.specs.declared.modules.Func.{Func}
use Rattle.wasm_syntax.specs.declared.modules.Module.{Module}
use Rattle.wasm_syntax.specs.Index.{of_kind, func_import, func_indices, func_type, type_at}
use Rattle.history_spec.specs.Projection.{Layout}
use Rattle.guarded_module_spec.specs.declared.numbers.Numbers.{Numbers}
use Rattle.guarded_module_spec.specs.Numbers.{behind, digest_count, numbers_of, start_place, check_place, next_place, digest_place}
use Rattle.guarded_module_spec.specs.Fronts.{import_front, func_front}
use Rattle.guarded_module_spec.specs.Functions.{start_func, digest_funcs, check_func, next_func, group_funcs, group_func}
use Rattle.guarded_module_spec.specs.GuardedModules.{funcs_in_places, original_funcs, appended_funcs, outside_funcs, redirected, is_called, type_in, import_fronts, func_fronts, own_funcs, own_types, guarded_module}

-- the type indices of functions
abbrev pub types_of : List Func → List ℕ
types_of funcs = map (λ (f : Func). f.ty) funcs

-- ---- lists

abbrev empty : (X : Type 0) → List X
empty X = []

nothing_left : {X : Type 0} (count : ℕ) → drop count (empty X) ≡ []
nothing_left zero = refl
nothing_left (suc count) = refl

pub drop_sum : {X : Type 0} (first second : ℕ) (xs : List X) → drop (first + second) xs ≡ drop second (drop first xs)
drop_sum zero second xs = let same : 0 + second ≡ second = omega arith in ap (λ k. drop k xs) same
drop_sum (suc first) second [] = nothing_left (suc first + second) ∙ sym (nothing_left second)
drop_sum (suc first) second (x ∷ xs) =
    let same : suc first + second ≡ suc (first + second) = omega arith in
    ap (λ k. drop k (x ∷ xs)) same ∙ drop_sum first second xs

regrouped : (a b c d e f : List ℕ) → a ++ (b ++ (c ++ (d ++ (e ++ f)))) ≡ (a ++ (b ++ c)) ++ ((d ++ e) ++ f)
regrouped a b c d e f =
    sym (append_assoc a (b ++ c) ((d ++ e) ++ f)
    ∙ ap (λ l. a ++ l) (append_assoc b c ((d ++ e) ++ f) ∙ ap (λ l. b ++ (c ++ l)) (append_assoc d e f)))

-- the functions of a module by their sides
pub in_parts : (layout : Layout) (funcs : List Func)
    → funcs ≡ funcs_in_places layout funcs ++ (original_funcs layout funcs ++ appended_funcs layout funcs)
in_parts layout funcs =
    sym (ap (λ l. funcs_in_places layout funcs ++ (original_funcs layout funcs ++ l))
    (drop_sum layout.imports layout.defined funcs)
    ∙ ap (λ l. funcs_in_places layout funcs ++ l) (take-append-drop layout.defined (drop layout.imports funcs))
    ∙ take-append-drop layout.imports funcs)

pub types_length : (funcs : List Func) → length (types_of funcs) ≡ length funcs
types_length funcs = length-map funcs (λ (f : Func). f.ty)

-- ---- type indices are kept

module _ (types : List FuncType) (n : Numbers) where
  import_fronts_types : (from : ℕ) (funcs : List Func)
      → types_of (map (λ (e : ℕ × Func). import_front n (type_in types e.1.ty) e.0 e.1.ty) (enumerate_from from funcs))
      ≡ types_of funcs
  import_fronts_types from [] = refl
  import_fronts_types from (f ∷ funcs) = ap (λ l. f.ty ∷ l) (import_fronts_types (from + 1) funcs)

  pub import_fronts_long : (funcs : List Func) → length (import_fronts types n funcs) ≡ length funcs
  import_fronts_long funcs =
      sym (types_length (import_fronts types n funcs))
      ∙ ap length (import_fronts_types 0 funcs)
      ∙ types_length funcs

  front_type : (called : Bool) (type : FuncType) (func ty : ℕ) → (func_front called n type func ty).ty ≡ ty
  front_type true type func ty = refl
  front_type false type func ty = refl

  func_fronts_types : (outside : List Func) (from : ℕ) (funcs : List Func)
      → types_of (func_fronts types n outside from funcs) ≡ types_of funcs
  func_fronts_types outside from [] = refl
  func_fronts_types outside from (f ∷ funcs) =
      ap (λ t. t ∷ types_of (func_fronts types n outside (from + 1) funcs))
      (front_type (is_called from outside) (type_in types f.ty) from f.ty)
      ∙ ap (λ l. f.ty ∷ l) (func_fronts_types outside (from + 1) funcs)

redirected_types : (n : Numbers) (funcs : List Func) → types_of (map (redirected n) funcs) ≡ types_of funcs
redirected_types n [] = refl
redirected_types n (f ∷ funcs) = ap (λ l. f.ty ∷ l) (redirected_types n funcs)

joined_types : (first second : List Func) → types_of (first ++ second) ≡ types_of first ++ types_of second
joined_types first second = map-append (λ (f : Func). f.ty) first second

-- the type indices of all functions, from those of each part
all_types : (fronts originals appended behind_places func_fronts own : List Func)
    → types_of (fronts ++ (originals ++ (appended ++ (behind_places ++ (func_fronts ++ own)))))
    ≡ types_of fronts ++ (types_of originals ++ (types_of appended
    ++ (types_of behind_places ++ (types_of func_fronts ++ types_of own))))
all_types a b c d e f =
    joined_types a (b ++ (c ++ (d ++ (e ++ f))))
    ∙ ap (λ l. types_of a ++ l) (joined_types b (c ++ (d ++ (e ++ f)))
    ∙ ap (λ l. types_of b ++ l) (joined_types c (d ++ (e ++ f))
    ∙ ap (λ l. types_of c ++ l) (joined_types d (e ++ f) ∙ ap (λ l. types_of d ++ l) (joined_types e f))))

digests_long : (n : Numbers) (memories : List Limits)
    → length (digest_funcs (digest_count memories) n) ≡ digest_count memories
digests_long n [] = refl
digests_long n (memory ∷ more) = refl

-- the type indices of the functions of a module without imports
pub indices_of : (m : Module) → m.imports ≡ [] → func_indices m ≡ types_of m.funcs
indices_of m alone = ap (λ imports. of_kind func_import imports ++ types_of m.funcs) alone

-- ---- the guarded module

module _ (m : Module) (layout : Layout) (entry : ℕ) (words : List ℕ) where
  abbrev n : Numbers
  n = numbers_of m layout

  abbrev guarded : Module
  guarded = guarded_module m layout entry words

  abbrev in_places : List Func
  in_places = funcs_in_places layout m.funcs

  abbrev originals : List Func
  originals = original_funcs layout m.funcs

  abbrev appended : List Func
  appended = appended_funcs layout m.funcs

  abbrev own : List Func
  own = own_funcs n entry words

  -- the type indices of the functions that have fronts
  abbrev pub fronted : List ℕ
  fronted = types_of in_places ++ types_of originals

  pub own_parts : types_of m.funcs ≡ types_of in_places ++ (types_of originals ++ types_of appended)
  own_parts =
      ap types_of (in_parts layout m.funcs)
      ∙ joined_types in_places (originals ++ appended)
      ∙ ap (λ l. types_of in_places ++ l) (joined_types originals appended)

  pub types_are : types_of guarded.funcs ≡ types_of m.funcs ++ (fronted ++ types_of own)
  types_are =
      all_types (import_fronts m.types n in_places) originals (map (redirected n) appended)
      (map (redirected n) in_places) (func_fronts m.types n (outside_funcs layout m.funcs) layout.imports originals) own
      ∙ ap (λ l. l ++ (types_of originals ++ (types_of (map (redirected n) appended)
      ++ (types_of (map (redirected n) in_places)
      ++ (types_of (func_fronts m.types n (outside_funcs layout m.funcs) layout.imports originals)
      ++ types_of own)))))
      (import_fronts_types m.types n 0 in_places)
      ∙ ap (λ l. types_of in_places ++ (types_of originals ++ (l ++ (types_of (map (redirected n) in_places)
      ++ (types_of (func_fronts m.types n (outside_funcs layout m.funcs) layout.imports originals)
      ++ types_of own)))))
      (redirected_types n appended)
      ∙ ap (λ l. types_of in_places ++ (types_of originals ++ (types_of appended ++ (l
      ++ (types_of (func_fronts m.types n (outside_funcs layout m.funcs) layout.imports originals)
      ++ types_of own)))))
      (redirected_types n in_places)
      ∙ ap (λ l. types_of in_places ++ (types_of originals ++ (types_of appended ++ (types_of in_places
      ++ (l ++ types_of own)))))
      (func_fronts_types m.types n (outside_funcs layout m.funcs) layout.imports originals)
      ∙ regrouped (types_of in_places) (types_of originals) (types_of appended) (types_of in_places)
      (types_of originals) (types_of own)
      ∙ ap (λ l. l ++ (fronted ++ types_of own)) (sym own_parts)

  module _ (alone : m.imports ≡ []) (within : layout.imports + layout.defined ≤ length m.funcs) where
    pub indices_are : func_indices guarded ≡ types_of m.funcs ++ (fronted ++ types_of own)
    indices_are = ap (λ imports. of_kind func_import imports ++ types_of guarded.funcs) alone ∙ types_are

    pub places_long : length in_places ≡ layout.imports
    places_long = let long = length-take layout.imports m.funcs in omega (arith, long, within)

    pub originals_long : length originals ≡ layout.defined
    originals_long =
        let long = length-take layout.defined (drop layout.imports m.funcs) in
        let whole = length-append in_places (drop layout.imports m.funcs) in
        let all = ap length (take-append-drop layout.imports m.funcs) in
        let first = places_long in omega (arith, long, within, whole, all, first)

    pub fronted_long : length fronted ≡ n.past
    fronted_long =
        let a = length-append (types_of in_places) (types_of originals) in
        let b = types_length in_places in
        let c = types_length originals in
        let d = places_long in
        let e = originals_long in omega (arith, a, b, c, d, e)

    index_kept : (func ty : ℕ) → slice_get (func_indices m) func ≡ Some ty
        → slice_get (func_indices guarded) func ≡ Some ty
    index_kept func ty h =
        let own_h : slice_get (types_of m.funcs) func ≡ Some ty = subst (λ l. slice_get l func ≡ Some ty) (indices_of m alone) h in
        ap (λ l. slice_get l func) indices_are
        ∙ get_front (types_of m.funcs) (fronted ++ types_of own) func
        (slice_get_within (types_of m.funcs) func ty own_h)
        ∙ own_h

    index_behind : (func ty : ℕ) → func < n.past → slice_get (func_indices m) func ≡ Some ty
        → slice_get (func_indices guarded) (n.funcs + func) ≡ Some ty
    index_behind func ty low h =
        let long = fronted_long in
        let many = types_length m.funcs in
        let front : func < length fronted = omega (arith, low, long) in
        let own_h : slice_get (types_of m.funcs) func ≡ Some ty = subst (λ l. slice_get l func ≡ Some ty) (indices_of m alone) h in
        ap (λ l. slice_get l (n.funcs + func)) indices_are
        ∙ get_after_by (types_of m.funcs) (fronted ++ types_of own) (n.funcs + func) func (omega (arith, many))
        ∙ get_front fronted (types_of own) func front
        ∙ sym (get_front fronted (types_of appended) func front)
        ∙ ap (λ l. slice_get l func)
        (append_assoc (types_of in_places) (types_of originals) (types_of appended) ∙ sym own_parts)
        ∙ own_h

    pub type_kept : (t : ℕ) (ty : FuncType) → type_at m t ≡ Some ty → type_at guarded t ≡ Some ty
    type_kept t ty h = get_front m.types own_types t (slice_get_within m.types t ty h) ∙ h

    pub func_kept : (func : ℕ) (ty : FuncType) → func_type m func ≡ Some ty → func_type guarded func ≡ Some ty
    func_kept func ty h =
        let b = and_then_some (slice_get (func_indices m) func) (type_at m) ty h in
        ap (option_and_then (type_at guarded)) (index_kept func b.0 b.1) ∙ type_kept b.0 ty b.2

    pub func_behind : (func : ℕ) (ty : FuncType) → func < n.past → func_type m func ≡ Some ty
        → func_type guarded (n.funcs + func) ≡ Some ty
    func_behind func ty low h =
        let b = and_then_some (slice_get (func_indices m) func) (type_at m) ty h in
        ap (option_and_then (type_at guarded)) (index_behind func b.0 low b.1) ∙ type_kept b.0 ty b.2

    -- the function by which functions outside call another has its type
    pub behind_type : (func : ℕ) (ty : FuncType) → func_type m func ≡ Some ty → func_type guarded (behind n func) ≡ Some ty
    behind_type func ty h = by (nat_lt func n.past) refl
      where
        by : (b : Bool) → nat_lt func n.past ≡ b → func_type guarded (cond b (n.funcs + func) func) ≡ Some ty
        by true e = func_behind func ty (grind (arith, nat_tests, e)) h
        by false e = func_kept func ty h

    -- ---- functions of its own

    pub own_type : (j k : ℕ) (ty : FuncType) → slice_get (types_of own) j ≡ Some (n.types + k) → slice_get own_types k ≡ Some ty
        → func_type guarded (start_place n + j) ≡ Some ty
    own_type j k ty found is =
        let long = fronted_long in
        let many = types_length m.funcs in
        ap (option_and_then (type_at guarded))
        (ap (λ l. slice_get l (start_place n + j)) indices_are
        ∙ get_after_by (types_of m.funcs) (fronted ++ types_of own) (start_place n + j) (n.past + j) (omega (arith, many))
        ∙ get_after_by fronted (types_of own) (n.past + j) j (omega (arith, long))
        ∙ found)
        ∙ get_after_by m.types own_types (n.types + k) k refl
        ∙ is

    -- the functions after that of the digest
    abbrev last : List Func
    last = check_func n ∷ next_func n (length words) ∷ group_funcs n words

    after_digest : (j : ℕ) → slice_get (types_of own) (n.digests + 1 + j) ≡ slice_get (types_of last) j
    after_digest j =
        let first = digests_long n m.memories in
        let many = types_length (start_func n entry ∷ digest_funcs n.digests n) in
        ap (λ l. slice_get l (n.digests + 1 + j)) (joined_types (start_func n entry ∷ digest_funcs n.digests n) last)
        ∙ get_after_by (types_of (start_func n entry ∷ digest_funcs n.digests n)) (types_of last) (n.digests + 1 + j) j
        (omega (arith, first, many))

    pub own_last : (j k : ℕ) (ty : FuncType) → slice_get (types_of last) j ≡ Some (n.types + k)
        → slice_get own_types k ≡ Some ty → func_type guarded (start_place n + (n.digests + 1 + j)) ≡ Some ty
    own_last j k ty found is = own_type (n.digests + 1 + j) k ty (after_digest j ∙ found) is

    pub check_type : func_type guarded (check_place n) ≡ slice_get own_types 1
    check_type =
        ap (func_type guarded) (omega arith) ∙ own_last 0 1 _ refl refl

    pub next_type : func_type guarded (next_place n) ≡ slice_get own_types 2
    next_type =
        ap (func_type guarded) (omega arith) ∙ own_last 1 2 _ refl refl

    pub digest_type : n.digests ≡ 1 → func_type guarded (digest_place n) ≡ slice_get own_types 2
    digest_type one = own_type 1 2 _ (by n.digests one) refl
      where
        by : (k : ℕ) → k ≡ 1 → slice_get (types_of (start_func n entry ∷ (digest_funcs k n ++ last))) 1 ≡ Some (n.types + 2)
        by zero e = absurd (omega (arith, e))
        by (suc k) e = refl

    pub groups_types : (numbers : List ℕ) (part : ℕ → List ℕ) (j : ℕ) → j < length numbers
        → slice_get (types_of (map (λ number. group_func n (part number)) numbers)) j ≡ Some (n.types + 3)
    groups_types [] part j below = absurd (omega (arith, below))
    groups_types (x ∷ numbers) part zero below = refl
    groups_types (x ∷ numbers) part (suc j) below = groups_types numbers part j (omega (arith, below))
