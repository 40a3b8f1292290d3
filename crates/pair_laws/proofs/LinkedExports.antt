-- The names of a linked module's exports, and the functions that its bodies may refer to.
use Rattle.std.proofs.Common.{◌≡◌, ◌≢◌, ℕ, suc, List, [], ◌∷◌, ◌++◌, map, Bool, true, false, ◌||◌, nat_eq, refl, sym, ap, ◌∙◌, arith, inl, inr}
use Rattle.std.specs.Prelude.{flat_map, filter_map}
use Rattle.std.specs.List.{All, AllPairs, list_any, cons_option, slice_index_or}
use Rattle.std.proofs.lemmas.Grind.{flat_map-append}
use Rattle.std.proofs.lemmas.List.{append_cancel_left, map-append}
use Rattle.std.proofs.lemmas.List.Elements.{All-append, All-head, All-map, All-tail, All-weaker, filter_map-append}
use Rattle.std.proofs.lemmas.List.Folds.{list_any-append}
use Rattle.std.proofs.lemmas.List.Kept.{AllPairs-cons}
use Rattle.base.proofs.Booleans.{or_cases}
use Rattle.wasm_syntax.specs.declared.modules.Export.{Export}
use Rattle.wasm_syntax.specs.declared.modules.ExportKind.{ExportKind}
use Rattle.wasm_syntax.specs.declared.modules.ExportKind.TheVariants as export
use Rattle.wasm_syntax.specs.declared.modules.ElemSeg.{ElemSeg}
use Rattle.wasm_syntax.specs.declared.modules.ElemSeg.TheVariants.{Active, Declared}
use Rattle.wasm_syntax.specs.Validity.{declared_funcs, elem_funcs, exported_func}
use Rattle.instance_spec.specs.declared.sides.Side.{Side}
use Rattle.instance_spec.specs.declared.sides.Side.TheVariants.{Left, Right}
use Rattle.instance_spec.specs.Instances.{Instance}
use Rattle.instance_laws.proofs.DeclaredFuncs.{any_mapped, any_more}
use Rattle.pair_spec.specs.Pairs.{ModulePair, module_of}
use Rattle.pair_spec.specs.Numbers.{side_instance}
use Rattle.pair_spec.specs.Linked.{linked_elem, linked_export, linked_export_kind, linked, side_prefix}

-- ---- names

pairs_head : {X : Type 0} (R : X → X → Type 0) (x : X) (xs : List X) → AllPairs R (x ∷ xs) → All (R x) xs
pairs_head R x xs h k d below = h 0 (suc k) d (omega arith) (omega (arith, below))

pairs_tail : {X : Type 0} (R : X → X → Type 0) (x : X) (xs : List X) → AllPairs R (x ∷ xs) → AllPairs R xs
pairs_tail R x xs h i j d before below = h (suc i) (suc j) d (omega (arith, before)) (omega (arith, below))

no_pairs : {X : Type 0} (R : X → X → Type 0) → AllPairs R []
no_pairs R i j d before below = absurd (omega (arith, below))

pairs_mapped : {X Y : Type 0} (R : X → X → Type 0) (S : Y → Y → Type 0) (f : X → Y) → ((a b : X) → R a b → S (f a) (f b))
    → (xs : List X) → AllPairs R xs → AllPairs S (map f xs)
pairs_mapped R S f each [] h = no_pairs S
pairs_mapped R S f each (x ∷ xs) h =
    AllPairs-cons S (f x) (map f xs)
    (All-map (S (f x)) f xs (All-weaker (R x) (λ y. S (f x) (f y)) (each x) xs (pairs_head R x xs h)))
    (pairs_mapped R S f each xs (pairs_tail R x xs h))

pairs_joined : {X : Type 0} (R : X → X → Type 0) (xs ys : List X) → AllPairs R xs → AllPairs R ys
    → All (λ x. All (R x) ys) xs → AllPairs R (xs ++ ys)
pairs_joined R [] ys first second across = second
pairs_joined R (x ∷ xs) ys first second across =
    AllPairs-cons R x (xs ++ ys)
    (All-append (R x) xs ys (pairs_head R x xs first) (All-head (λ x. All (R x) ys) x xs across))
    (pairs_joined R xs ys (pairs_tail R x xs first) second (All-tail (λ x. All (R x) ys) x xs across))

abbrev Differ : Export → Export → Type 0
Differ e later = e.name ≢ later.name

each_of : {X : Type 0} (P : X → Type 0) → ((x : X) → P x) → (xs : List X) → All P xs
each_of P each xs k d below = each _

module _ (pair : ModulePair) where
  side_differ : (side : Side) (exports : List Export) → AllPairs Differ exports
      → AllPairs Differ (map (linked_export pair side) exports)
  side_differ side exports h =
      pairs_mapped Differ Differ (linked_export pair side)
      (λ a b differ same. differ (append_cancel_left (side_prefix side) a.name b.name same)) exports h

  sides_differ : (a b : Export) → Differ (linked_export pair Left a) (linked_export pair Right b)
  sides_differ a b same =
      let first : 108 ≡ 114 = ap (λ (name : List ℕ). slice_index_or name 0 0) same in absurd (omega (arith, first))

  pub names_linked : AllPairs Differ pair.left.exports → AllPairs Differ pair.right.exports
      → AllPairs Differ (linked pair).exports
  names_linked first second =
      let left = map (linked_export pair Left) pair.left.exports in
      let right = map (linked_export pair Right) pair.right.exports in
      pairs_joined Differ left right (side_differ Left pair.left.exports first)
      (side_differ Right pair.right.exports second)
      (All-map (λ x. All (Differ x) right) (linked_export pair Left) pair.left.exports
      (each_of (λ a. All (Differ (linked_export pair Left a)) right)
      (λ a. All-map (Differ (linked_export pair Left a)) (linked_export pair Right) pair.right.exports
      (each_of (λ b. Differ (linked_export pair Left a) (linked_export pair Right b)) (sides_differ a) pair.right.exports))
      pair.left.exports))

  -- ---- functions that bodies may refer to

  module _ (side : Side) where
    abbrev i : Instance
    i = side_instance pair side

    elems_numbered : (es : List ElemSeg)
        → flat_map elem_funcs (map (linked_elem pair side) es) ≡ map i.funcs (flat_map elem_funcs es)
    elems_numbered [] = refl
    elems_numbered (Active table offset funcs ∷ es) =
        ap (λ more. map i.funcs funcs ++ more) (elems_numbered es)
        ∙ sym (map-append i.funcs funcs (flat_map elem_funcs es))
    elems_numbered (Declared funcs ∷ es) =
        ap (λ more. map i.funcs funcs ++ more) (elems_numbered es)
        ∙ sym (map-append i.funcs funcs (flat_map elem_funcs es))

    one_export : (kind : ExportKind) (more other : List ℕ) → other ≡ map i.funcs more
        → cons_option (exported_func (linked_export_kind i kind)) other
        ≡ map i.funcs (cons_option (exported_func kind) more)
    one_export (export.Func x) more other e = ap (λ l. i.funcs x ∷ l) e
    one_export (export.Table x) more other e = e
    one_export (export.Memory x) more other e = e
    one_export (export.Global x) more other e = e

    exports_numbered : (es : List Export)
        → filter_map (λ (e : Export). exported_func e.kind) (map (linked_export pair side) es)
        ≡ map i.funcs (filter_map (λ (e : Export). exported_func e.kind) es)
    exports_numbered [] = refl
    exports_numbered (e ∷ es) = one_export e.kind _ _ (exports_numbered es)

    -- the functions of a side's segments and exports, by their numbers
    abbrev of_elems : List ℕ
    of_elems = flat_map elem_funcs (module_of pair side).elems

    abbrev of_exports : List ℕ
    of_exports = filter_map (λ (e : Export). exported_func e.kind) (module_of pair side).exports

    abbrev elems_of : List ℕ
    elems_of = map i.funcs of_elems

    abbrev exports_of : List ℕ
    exports_of = map i.funcs of_exports

  declared_whole : declared_funcs (linked pair)
      ≡ (elems_of Left ++ elems_of Right) ++ (exports_of Left ++ exports_of Right)
  declared_whole =
      (λ j. flat_map-append elem_funcs (map (linked_elem pair Left) pair.left.elems)
      (map (linked_elem pair Right) pair.right.elems) j
      ++ filter_map-append (λ (e : Export). exported_func e.kind) (map (linked_export pair Left) pair.left.exports)
      (map (linked_export pair Right) pair.right.exports) j)
      ∙ (λ j. (elems_numbered Left pair.left.elems j ++ elems_numbered Right pair.right.elems j)
      ++ (exports_numbered Left pair.left.exports j ++ exports_numbered Right pair.right.exports j))

  any_after : (f : ℕ) (xs ys : List ℕ) → list_any (nat_eq f) ys ≡ true → list_any (nat_eq f) (xs ++ ys) ≡ true
  any_after f xs ys h =
      list_any-append (nat_eq f) xs ys ∙ ap (λ b. list_any (nat_eq f) xs || b) h ∙ or_true (list_any (nat_eq f) xs)
    where
      or_true : (a : Bool) → (a || true) ≡ true
      or_true true = refl
      or_true false = refl

  in_elems : (side : Side) (f : ℕ) → list_any (nat_eq f) (elems_of side) ≡ true
      → list_any (nat_eq f) ((elems_of Left ++ elems_of Right) ++ (exports_of Left ++ exports_of Right)) ≡ true
  in_elems Left f h =
      any_more f (elems_of Left ++ elems_of Right) (exports_of Left ++ exports_of Right)
      (any_more f (elems_of Left) (elems_of Right) h)
  in_elems Right f h =
      any_more f (elems_of Left ++ elems_of Right) (exports_of Left ++ exports_of Right)
      (any_after f (elems_of Left) (elems_of Right) h)

  in_exports : (side : Side) (f : ℕ) → list_any (nat_eq f) (exports_of side) ≡ true
      → list_any (nat_eq f) ((elems_of Left ++ elems_of Right) ++ (exports_of Left ++ exports_of Right)) ≡ true
  in_exports Left f h =
      any_after f (elems_of Left ++ elems_of Right) (exports_of Left ++ exports_of Right)
      (any_more f (exports_of Left) (exports_of Right) h)
  in_exports Right f h =
      any_after f (elems_of Left ++ elems_of Right) (exports_of Left ++ exports_of Right)
      (any_after f (exports_of Left) (exports_of Right) h)

  pub declared_linked : (side : Side) (f : ℕ) → list_any (nat_eq f) (declared_funcs (module_of pair side)) ≡ true
      → list_any (nat_eq ((side_instance pair side).funcs f)) (declared_funcs (linked pair)) ≡ true
  declared_linked side f h =
      let number = (side_instance pair side).funcs in
      let parts = list_any-append (nat_eq f) (of_elems side) (of_exports side) in
      ap (list_any (nat_eq (number f))) declared_whole
      ∙ elim (or_cases (list_any (nat_eq f) (of_elems side)) (list_any (nat_eq f) (of_exports side)) (sym parts ∙ h)) [
        | inl found ↦ in_elems side (number f) (any_mapped number f (of_elems side) found)
        | inr found ↦ in_exports side (number f) (any_mapped number f (of_exports side) found)
      ]
