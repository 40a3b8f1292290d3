-- Functions that bodies may refer to, if all have other numbers.
use Rattle.std.proofs.Common.{◌≡◌, ℕ, List, [], ◌∷◌, ◌++◌, map, Bool, true, false, ◌||◌, nat_eq, refl, sym, ap, ◌∙◌, arith, append_assoc}
use Rattle.std.specs.Prelude.{flat_map, filter_map}
use Rattle.std.specs.List.{list_any, cons_option}
use Rattle.std.proofs.lemmas.Bool.Decides.{nat_tests}
use Rattle.std.proofs.lemmas.List.{map-append}
use Rattle.std.proofs.lemmas.List.Elements.{filter_map-append}
use Rattle.std.proofs.lemmas.List.Folds.{list_any-append}
use Rattle.wasm_syntax.specs.declared.modules.Export.{Export}
use Rattle.wasm_syntax.specs.declared.modules.ExportKind.{ExportKind}
use Rattle.wasm_syntax.specs.declared.modules.ExportKind.TheVariants as export
use Rattle.wasm_syntax.specs.declared.modules.ElemSeg.{ElemSeg}
use Rattle.wasm_syntax.specs.declared.modules.ElemSeg.TheVariants.{Active, Declared}
use Rattle.wasm_syntax.specs.Validity.{elem_funcs, exported_func}
use Rattle.instance_spec.specs.Instances.{Instance}
use Rattle.instance_spec.specs.Widened.{renamed_elem, renamed_kind, renamed_export}

pub any_mapped : (g : ℕ → ℕ) (f : ℕ) (xs : List ℕ) → list_any (nat_eq f) xs ≡ true → list_any (nat_eq (g f)) (map g xs) ≡ true
any_mapped g f [] h = cc
any_mapped g f (x ∷ xs) h = by (nat_eq f x) refl h (any_mapped g f xs)
  where
    own : (y z : ℕ) → y ≡ z → nat_eq y z ≡ true
    own y z e = grind (arith, nat_tests, e)

    by : (b : Bool) → nat_eq f x ≡ b → (b || list_any (nat_eq f) xs) ≡ true
        → (list_any (nat_eq f) xs ≡ true → list_any (nat_eq (g f)) (map g xs) ≡ true)
        → (nat_eq (g f) (g x) || list_any (nat_eq (g f)) (map g xs)) ≡ true
    by true is h later =
        let same : f ≡ x = grind (arith, nat_tests, is) in
        ap (λ b. b || list_any (nat_eq (g f)) (map g xs)) (own (g f) (g x) (ap g same))
    by false is h later = or_true (nat_eq (g f) (g x)) (list_any (nat_eq (g f)) (map g xs)) (later h)
      where
        or_true : (a b : Bool) → b ≡ true → (a || b) ≡ true
        or_true true b e = refl
        or_true false b e = e

pub any_more : (f : ℕ) (xs ys : List ℕ) → list_any (nat_eq f) xs ≡ true → list_any (nat_eq f) (xs ++ ys) ≡ true
any_more f xs ys h = list_any-append (nat_eq f) xs ys ∙ ap (λ b. b || list_any (nat_eq f) ys) h

module _ (i : Instance) where
  pub elems_mapped : (es : List ElemSeg)
      → flat_map elem_funcs (map (renamed_elem i) es) ≡ map i.funcs (flat_map elem_funcs es)
  elems_mapped [] = refl
  elems_mapped (Active table offset funcs ∷ es) =
      ap (λ more. map i.funcs funcs ++ more) (elems_mapped es)
      ∙ sym (map-append i.funcs funcs (flat_map elem_funcs es))
  elems_mapped (Declared funcs ∷ es) =
      ap (λ more. map i.funcs funcs ++ more) (elems_mapped es)
      ∙ sym (map-append i.funcs funcs (flat_map elem_funcs es))

  one_export : (kind : ExportKind) (more other : List ℕ) → other ≡ map i.funcs more
      → cons_option (exported_func (renamed_kind i kind)) other ≡ map i.funcs (cons_option (exported_func kind) more)
  one_export (export.Func x) more other e = ap (λ l. i.funcs x ∷ l) e
  one_export (export.Table x) more other e = e
  one_export (export.Memory x) more other e = e
  one_export (export.Global x) more other e = e

  pub exports_mapped : (es : List Export)
      → filter_map (λ (e : Export). exported_func e.kind) (map (renamed_export i) es)
      ≡ map i.funcs (filter_map (λ (e : Export). exported_func e.kind) es)
  exports_mapped [] = refl
  exports_mapped (e ∷ es) = one_export e.kind _ _ (exports_mapped es)

  -- those of renamed segments and exports, and more exports
  pub declared_mapped : (f : ℕ) (elems : List ElemSeg) (exports more : List Export)
      → list_any (nat_eq f) (flat_map elem_funcs elems ++ filter_map (λ (e : Export). exported_func e.kind) exports) ≡ true
      → list_any (nat_eq (i.funcs f))
      (flat_map elem_funcs (map (renamed_elem i) elems)
      ++ filter_map (λ (e : Export). exported_func e.kind)
      (map (renamed_export i) exports ++ more))
      ≡ true
  declared_mapped f elems exports more h =
      let first = flat_map elem_funcs elems in
      let second = filter_map (λ (e : Export). exported_func e.kind) exports in
      let third = filter_map (λ (e : Export). exported_func e.kind) more in
      let whole
      : flat_map elem_funcs (map (renamed_elem i) elems)
      ++ filter_map (λ (e : Export). exported_func e.kind)
      (map (renamed_export i) exports ++ more)
      ≡ map i.funcs (first ++ second) ++ third =
      (λ j. elems_mapped elems j
      ++ filter_map-append (λ (e : Export). exported_func e.kind)
      (map (λ (e : Export). record e { kind = renamed_kind i e.kind }) exports) more j)
      ∙ (λ j. map i.funcs first ++ (exports_mapped exports j ++ third))
      ∙ sym (append_assoc (map i.funcs first) (map i.funcs second) third)
      ∙ ap (λ l. l ++ third) (sym (map-append i.funcs first second)) in
      ap (list_any (nat_eq (i.funcs f))) whole
      ∙ any_more (i.funcs f) (map i.funcs (first ++ second)) third
      (any_mapped i.funcs f (first ++ second) h)
