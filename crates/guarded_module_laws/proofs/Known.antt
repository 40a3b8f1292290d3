-- What the bodies of a guardable module refer to is declared in its guarded module.
use Rattle.std.proofs.Common.{◌≡◌, ℕ, ◌≤◌, List, [], ◌∷◌, ◌++◌, length, Option, Some, None, Bool, true, false, nat_lt, nat_eq, refl, sym, ap, ◌∙◌, subst, arith}
use Rattle.std.specs.Prelude.{◌||◌, filter_map}
use Rattle.std.specs.List.{AllByRecursion, cons_option, list_any}
use Rattle.std.proofs.lemmas.Bool.Decides.{nat_tests}
use Rattle.std.proofs.lemmas.List.Folds.{list_any-append}
use Rattle.std.proofs.lemmas.Option.{none-some}
use Rattle.base.proofs.Booleans.{and_parts, and_true}
use Rattle.wasm_syntax.specs.declared.instructions.Instr.{Instr}
use Rattle.wasm_syntax.specs.declared.instructions.Instr.TheVariants.{End, RefFunc}
use Rattle.wasm_syntax.specs.declared.modules.Export.{Export}
use Rattle.wasm_syntax.specs.declared.modules.ExportKind.{ExportKind}
use Rattle.wasm_syntax.specs.declared.modules.ExportKind.TheVariants as export
use Rattle.wasm_syntax.specs.declared.modules.Func.{Func}
use Rattle.wasm_syntax.specs.Nest.{Nest, flat, IsBody}
use Rattle.wasm_syntax.specs.Typing.{Context}
use Rattle.wasm_syntax.specs.Validity.{exported_func}
use Rattle.wasm_syntax.proofs.JoinedLists.{both_parts}
use Rattle.history_spec.specs.Replay.{func_of_exports, func_of_start}
use Rattle.replay_module_spec.specs.Fragments.{referred_func, referred_funcs}
use Rattle.type_safety.proofs.Wider.{IsKnown}

-- ---- the only export

started : (named : Bool) (kind : ExportKind) (entry : ℕ) → func_of_start named kind ≡ Some entry
    → exported_func kind ≡ Some entry
started true (export.Func x) entry h = h
started true (export.Table x) entry h = cc
started true (export.Memory x) entry h = cc
started true (export.Global x) entry h = cc
started false kind entry h = cc

pub exported_is : (exports : List Export) (entry : ℕ) → func_of_exports exports ≡ Some entry
    → filter_map (λ (e : Export). exported_func e.kind) exports ≡ entry ∷ []
exported_is [] entry h = cc
exported_is (x ∷ []) entry h = ap (λ o. cons_option o []) (started _ x.kind entry h)
exported_is (x ∷ y ∷ more) entry h = cc

-- ---- no references

no_either : (a b : Bool) → (a || b) ≡ false → (a ≡ false) × (b ≡ false)
no_either true b h = absurd (cc h)
no_either false b h = (refl, h)

module _ (entry : ℕ) where
  -- an instruction refers to no function, or to another one
  abbrev pub RefersElsewhere : Instr → Type 0
  RefersElsewhere i = (x : ℕ) → i ≡ RefFunc x → nat_eq entry x ≡ false

  body_elsewhere : (body : List Instr) → list_any (nat_eq entry) (filter_map referred_func body) ≡ false
      → AllByRecursion RefersElsewhere body
  body_elsewhere [] h = tt
  body_elsewhere (i ∷ body) h = by (referred_func i) refl (body_elsewhere body) h
    where
      by : (o : Option ℕ) → referred_func i ≡ o
          → (list_any (nat_eq entry) (filter_map referred_func body) ≡ false → AllByRecursion RefersElsewhere body)
          → list_any (nat_eq entry) (cons_option o (filter_map referred_func body)) ≡ false
          → AllByRecursion RefersElsewhere (i ∷ body)
      by None q later h = ((λ x is. absurd (none-some x (sym q ∙ ap referred_func is))), later h)
      by (Some y) q later h =
          let parts = no_either (nat_eq entry y) (list_any (nat_eq entry) (filter_map referred_func body)) h in (
            (λ x is. subst (λ z. nat_eq entry z ≡ false) (same y x (sym q ∙ ap referred_func is)) parts.0),
            later parts.1,
          )
        where
          same : (y x : ℕ) → Some y ≡ Some x → y ≡ x
          same y x e = cc

  pub funcs_elsewhere : (funcs : List Func) → list_any (nat_eq entry) (referred_funcs funcs) ≡ false
      → AllByRecursion (λ (f : Func). AllByRecursion RefersElsewhere f.body) funcs
  funcs_elsewhere [] h = tt
  funcs_elsewhere (f ∷ funcs) h =
      let parts =
      no_either (list_any (nat_eq entry) (filter_map referred_func f.body))
      (list_any (nat_eq entry) (referred_funcs funcs))
      (sym (list_any-append (nat_eq entry) (filter_map referred_func f.body) (referred_funcs funcs)) ∙ h)
      in
      (body_elsewhere f.body parts.0, funcs_elsewhere funcs parts.1)

  -- ---- declared functions

  module _ (ctx wider : Context) (start : ℕ) (in_elems : List ℕ) (declared : ctx.declared ≡ in_elems ++ entry ∷ [])
      (wide : wider.declared ≡ in_elems ++ start ∷ []) (more : length ctx.funcs ≤ length wider.funcs) where
    other_declared : (x : ℕ) → nat_eq entry x ≡ false → list_any (nat_eq x) (in_elems ++ entry ∷ []) ≡ true
        → list_any (nat_eq x) (in_elems ++ start ∷ []) ≡ true
    other_declared x other h =
        list_any-append (nat_eq x) in_elems (start ∷ [])
        ∙ by (list_any (nat_eq x) in_elems) (sym (list_any-append (nat_eq x) in_elems (entry ∷ [])) ∙ h)
      where
        by : (b : Bool) → (b || list_any (nat_eq x) (entry ∷ [])) ≡ true → (b || list_any (nat_eq x) (start ∷ [])) ≡ true
        by true h = refl
        by false h = absurd (here (nat_eq x entry) refl h)
          where
            here : (b : Bool) → nat_eq x entry ≡ b → (b || false) ≡ true → ⊥
            here true q h = grind (arith, nat_tests, q, other)
            here false q h = cc

    instr_known : (i : Instr) → RefersElsewhere i → IsKnown ctx wider i
    instr_known i elsewhere x is h =
        let both = and_parts (nat_lt x (length ctx.funcs)) (list_any (nat_eq x) ctx.declared) h in
        let low = both.0 in
        let found = subst (λ l. list_any (nat_eq x) l ≡ true) declared both.1 in
        and_true (nat_lt x (length wider.funcs)) (list_any (nat_eq x) wider.declared) (grind (arith, nat_tests, low, more))
        (subst (λ l. list_any (nat_eq x) l ≡ true) (sym wide) (other_declared x (elsewhere x is) found))

    code_known : (code : List Instr) → AllByRecursion RefersElsewhere code → AllByRecursion (IsKnown ctx wider) code
    code_known [] elsewhere = tt
    code_known (i ∷ code) elsewhere = (instr_known i elsewhere.0, code_known code elsewhere.1)

    pub nest_known : (nest : Nest) (body : List Instr) → IsBody nest body → AllByRecursion RefersElsewhere body
        → AllByRecursion (IsKnown ctx wider) (flat nest)
    nest_known nest body is elsewhere =
        code_known (flat nest)
        (both_parts RefersElsewhere (flat nest) (End ∷ [])
        (subst (AllByRecursion RefersElsewhere) (sym is.written) elsewhere)).0
