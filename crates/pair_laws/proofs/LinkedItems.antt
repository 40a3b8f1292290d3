-- The items of the index spaces of a linked module, by the numbers of the ends of chains.
use Rattle.std.proofs.Common.{◌≡◌, ℕ, zero, suc, ◌+◌, ◌-◌, ◌<◌, ◌≤◌, List, [], ◌∷◌, ◌++◌, length, map, filter, take, Option, Some, None, Bool, true, false, cond, not, is_some, slice_get, option_map, option_and_then, refl, sym, ap, ◌∙◌, length-append, arith}
use Rattle.std.specs.List.{cons_option, slice_index_or}
use Rattle.std.proofs.lemmas.List.{length-map}
use Rattle.std.proofs.lemmas.Option.{slice_get-map, slice_get_within}
use Rattle.base.proofs.Lists.{get_front, get_after_by}
use Rattle.wasm_syntax.specs.declared.modules.Module.{Module}
use Rattle.wasm_syntax.specs.declared.modules.Import.{Import}
use Rattle.wasm_syntax.specs.declared.modules.ImportKind.{ImportKind}
use Rattle.wasm_syntax.specs.Index.{of_kind}
use Rattle.instance_spec.specs.declared.sides.Side.{Side}
use Rattle.instance_spec.specs.declared.sides.Side.TheVariants.{Left, Right}
use Rattle.instance_spec.specs.ForeignRuns.{count_from}
use Rattle.pair_spec.specs.Pairs.{ModulePair, module_of, is_from_other, host_imports, Space, is_in, imports_in, defined_in}
use Rattle.pair_spec.specs.Chains.{ChainEnd, Defined, HostImport, end_module, end_index}
use Rattle.pair_spec.specs.Numbers.{host_count, all_hosts, number_of}
use Rattle.pair_laws.proofs.Lists.{of_choice, passed_at}
use Rattle.pair_laws.proofs.Imports.{IsKindOf, hosts_counted}
use Rattle.pair_laws.proofs.Chains.{IsEnd, end_side}

-- ---- lists

-- two tests in either order
both_passed : {X : Type 0} (p q : Bool) (x : X) (xs ys : List X) → xs ≡ ys
    → cond q (cond p (x ∷ xs) xs) xs ≡ cond p (cond q (x ∷ ys) ys) ys
both_passed true true x xs ys e = ap (λ l. x ∷ l) e
both_passed true false x xs ys e = e
both_passed false true x xs ys e = e
both_passed false false x xs ys e = e

filters_swapped : {X : Type 0} (p q : X → Bool) (xs : List X) → filter p (filter q xs) ≡ filter q (filter p xs)
filters_swapped p q [] = refl
filters_swapped p q (x ∷ xs) =
    of_choice (filter p) (q x) (x ∷ filter q xs) (filter q xs)
    ∙ both_passed (p x) (q x) x (filter p (filter q xs)) (filter q (filter p xs)) (filters_swapped p q xs)
    ∙ sym (of_choice (filter q) (p x) (x ∷ filter p xs) (filter p xs))

past_none : {X : Type 0} (xs : List X) (y : ℕ) → slice_get xs y ≡ None → length xs ≤ y
past_none [] y h = omega arith
past_none (x ∷ xs) zero h = cc
past_none (x ∷ xs) (suc y) h = let later = past_none xs y h in omega (arith, later)

pub mapped_at : {X : Type 0} (f : ℕ → X) (at count x : ℕ) (d : X) → x < count
    → slice_index_or (map f (count_from at count)) x d ≡ f (at + x)
mapped_at f at zero x d low = absurd (omega (arith, low))
mapped_at f at (suc count) zero d low = let e : at ≡ at + 0 = omega arith in ap f e
mapped_at f at (suc count) (suc x) d low =
    let e : at + 1 + x ≡ at + suc x = omega arith in mapped_at f (at + 1) count x d (omega (arith, low)) ∙ ap f e

-- ---- the items of an index space

-- what a module has in an index space: items that imports bring in, and its own ones
pub record ItemSpace (K : Type 0) (space : Space) : Type 0 where
  pub pick : ImportKind → Option K
  pub same : IsKindOf pick space
  pub own : Module → List K
  pub counts : (m : Module) → length (own m) ≡ defined_in space m

module _ (K : Type 0) (space : Space) (s : ItemSpace K space) where
  -- all items of a module
  abbrev pub items_of : Module → List K
  items_of m = of_kind s.pick m.imports ++ s.own m

  abbrev picked : Import → Option K
  picked i = s.pick i.kind

  abbrev of_space : List Import → List Import
  of_space imports = filter (λ i. is_in space i.kind) imports

  kinds_at : (imports : List Import) (x : ℕ)
      → slice_get (of_kind s.pick imports) x ≡ option_and_then picked (slice_get (of_space imports) x)
  kinds_at [] x = refl
  kinds_at (first ∷ imports) x =
      by (s.pick first.kind) (is_in space first.kind) (s.same first.kind) refl x (kinds_at imports)
    where
      by : (o : Option K) (b : Bool) → b ≡ is_some o → s.pick first.kind ≡ o → (x : ℕ)
          → ((y : ℕ) → slice_get (of_kind s.pick imports) y ≡ option_and_then picked (slice_get (of_space imports) y))
          → slice_get (cons_option o (of_kind s.pick imports)) x
          ≡ option_and_then picked (slice_get (cond b (first ∷ of_space imports) (of_space imports)) x)
      by None true e is x later = cc
      by None false e is x later = later x
      by (Some k) true e is zero later = sym is
      by (Some k) true e is (suc x) later = later x
      by (Some k) false e is x later = cc

  kinds_counted : (imports : List Import) → length (of_kind s.pick imports) ≡ length (of_space imports)
  kinds_counted [] = refl
  kinds_counted (first ∷ imports) =
      by (s.pick first.kind) (is_in space first.kind) (s.same first.kind) (kinds_counted imports)
    where
      by : (o : Option K) (b : Bool) → b ≡ is_some o → length (of_kind s.pick imports) ≡ length (of_space imports)
          → length (cons_option o (of_kind s.pick imports))
          ≡ length (cond b (first ∷ of_space imports) (of_space imports))
      by None true e later = cc
      by None false e later = later
      by (Some k) true e later = ap suc later
      by (Some k) false e later = cc

  pub items_counted : (m : Module) → length (items_of m) ≡ length (imports_in space m) + defined_in space m
  items_counted m =
      let all = length-append (of_kind s.pick m.imports) (s.own m) in
      let first = kinds_counted m.imports in
      let rest = s.counts m in omega (arith, all, first, rest)

  -- an import, by its index
  pub import_item : (m : Module) (x : ℕ) (i : Import) → slice_get (imports_in space m) x ≡ Some i
      → slice_get (items_of m) x ≡ s.pick i.kind
  import_item m x i there =
      let low = slice_get_within (imports_in space m) x i there in
      let long = kinds_counted m.imports in
      get_front (of_kind s.pick m.imports) (s.own m) x (omega (arith, low, long))
      ∙ kinds_at m.imports x
      ∙ ap (option_and_then picked) there

  -- an item of the module's own, by its index
  pub own_item : (m : Module) (x : ℕ) → slice_get (imports_in space m) x ≡ None
      → slice_get (items_of m) x ≡ slice_get (s.own m) (x - length (imports_in space m))
  own_item m x none =
      let past = past_none (imports_in space m) x none in
      let long = kinds_counted m.imports in
      get_after_by (of_kind s.pick m.imports) (s.own m) x (x - length (imports_in space m)) (omega (arith, past, long))

  -- ---- the linked items

  module _ (pair : ModulePair) (number : Side → K → K) where
    abbrev hosts : Side → List K
    hosts side = map (number side) (of_kind s.pick (host_imports side (module_of pair side).imports))

    abbrev own : Side → List K
    own side = map (number side) (s.own (module_of pair side))

    -- the items of the linked module: first the host's, then those of both modules
    abbrev pub linked_items : List K
    linked_items = (hosts Left ++ hosts Right) ++ (own Left ++ own Right)

    hosts_long : (side : Side) → length (hosts side) ≡ host_count pair space side
    hosts_long side =
        length-map (of_kind s.pick (host_imports side (module_of pair side).imports)) (number side)
        ∙ hosts_counted s.pick space s.same side (module_of pair side).imports

    own_long : (side : Side) → length (own side) ≡ defined_in space (module_of pair side)
    own_long side = length-map (s.own (module_of pair side)) (number side) ∙ s.counts (module_of pair side)

    hosts_whole : length (hosts Left ++ hosts Right) ≡ all_hosts pair space
    hosts_whole = length-append (hosts Left) (hosts Right) ∙ (λ j. hosts_long Left j + hosts_long Right j)

    pub linked_counted : length linked_items
        ≡ all_hosts pair space + (defined_in space pair.left + defined_in space pair.right)
    linked_counted =
        length-append (hosts Left ++ hosts Right) (own Left ++ own Right)
        ∙ (λ j. hosts_whole j + (length-append (own Left) (own Right) ∙ (λ i. own_long Left i + own_long Right i)) j)

    host_at : (side : Side) (y : ℕ) (i : Import) (k : K) → slice_get (imports_in space (module_of pair side)) y ≡ Some i
        → is_from_other side i ≡ false → s.pick i.kind ≡ Some k
        → slice_get (hosts side) (length (host_imports side (take y (imports_in space (module_of pair side)))))
        ≡ Some (number side k)
    host_at side y i k there mine is =
        let m = module_of pair side in
        let place = length (host_imports side (take y (imports_in space m))) in
        let test : Import → Bool = λ i. not (is_from_other side i) in
        slice_get-map (number side) (of_kind s.pick (host_imports side m.imports)) place
        ∙ ap (option_map (number side)) (kinds_at (host_imports side m.imports) place)
        ∙ ap (λ l. option_map (number side) (option_and_then picked (slice_get l place)))
        (filters_swapped (λ (i : Import). is_in space i.kind) test m.imports)
        ∙ ap (λ o. option_map (number side) (option_and_then picked o))
        (passed_at test (imports_in space m) y i there (ap not mine))
        ∙ ap (option_map (number side)) is

    host_numbered : (side : Side) (y : ℕ) (i : Import) (k : K)
        → slice_get (imports_in space (module_of pair side)) y ≡ Some i → is_from_other side i ≡ false
        → s.pick i.kind ≡ Some k
        → slice_get linked_items (number_of pair space (HostImport side y)) ≡ Some (number side k)
    host_numbered Left y i k there mine is =
        let at = host_at Left y i k there mine is in
        let place = length (host_imports Left (take y (imports_in space pair.left))) in
        let low = slice_get_within (hosts Left) place (number Left k) at in
        let parts = length-append (hosts Left) (hosts Right) in
        let none : 0 + place ≡ place = omega arith in
        ap (slice_get linked_items) none
        ∙ get_front (hosts Left ++ hosts Right) (own Left ++ own Right) place (omega (arith, low, parts))
        ∙ get_front (hosts Left) (hosts Right) place low
        ∙ at
    host_numbered Right y i k there mine is =
        let at = host_at Right y i k there mine is in
        let place = length (host_imports Right (take y (imports_in space pair.right))) in
        let low = slice_get_within (hosts Right) place (number Right k) at in
        let parts = length-append (hosts Left) (hosts Right) in
        let before = hosts_long Left in
        get_front (hosts Left ++ hosts Right) (own Left ++ own Right) (host_count pair space Left + place)
        (omega (arith, low, parts, before))
        ∙ get_after_by (hosts Left) (hosts Right) (host_count pair space Left + place) place (omega (arith, before))
        ∙ at

    own_at : (side : Side) (j : ℕ) (k : K) → slice_get (s.own (module_of pair side)) j ≡ Some k
        → slice_get (own side) j ≡ Some (number side k)
    own_at side j k there =
        slice_get-map (number side) (s.own (module_of pair side)) j ∙ ap (option_map (number side)) there

    own_numbered : (side : Side) (y : ℕ) (k : K)
        → slice_get (s.own (module_of pair side)) (y - length (imports_in space (module_of pair side))) ≡ Some k
        → slice_get linked_items (number_of pair space (Defined side y)) ≡ Some (number side k)
    own_numbered Left y k there =
        let j = y - length (imports_in space pair.left) in
        let at = own_at Left j k there in
        let low = slice_get_within (own Left) j (number Left k) at in
        let whole = hosts_whole in
        get_after_by (hosts Left ++ hosts Right) (own Left ++ own Right) (all_hosts pair space + j) j (omega (arith, whole))
        ∙ get_front (own Left) (own Right) j low
        ∙ at
    own_numbered Right y k there =
        let j = y - length (imports_in space pair.right) in
        let at = own_at Right j k there in
        let whole = hosts_whole in
        let before = own_long Left in
        get_after_by (hosts Left ++ hosts Right) (own Left ++ own Right)
        (all_hosts pair space + defined_in space pair.left + j) (defined_in space pair.left + j) (omega (arith, whole))
        ∙ get_after_by (own Left) (own Right) (defined_in space pair.left + j) j (omega (arith, before))
        ∙ at

    -- what the linked module has at the number of an end
    pub at_end : (e : ChainEnd) (k : K) → IsEnd pair space e
        → slice_get (items_of (end_module pair e)) (end_index e) ≡ Some k
        → slice_get linked_items (number_of pair space e) ≡ Some (number (end_side e) k)
    at_end (HostImport side y) k (i, there, mine) h =
        host_numbered side y i k there mine (sym (import_item (module_of pair side) y i there) ∙ h)
    at_end (Defined side y) k none h =
        own_numbered side y k (sym (own_item (module_of pair side) y none) ∙ h)
