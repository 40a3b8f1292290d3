-- The functions to which typed bodies refer exist.
use Rattle.std.proofs.Common.{ℕ, ◌<◌, ◌≤◌, ◌≡◌, List, [], ◌∷◌, ◌++◌, length, Bool, true, false, refl, subst, arith}
use Rattle.std.specs.Prelude.{filter_map, nat_eq, nat_lt}
use Rattle.std.specs.List.{AllByRecursion, cons_option, list_any}
use Rattle.std.proofs.lemmas.Bool.Decides.{nat_tests}
use Rattle.base.proofs.Booleans.{and_parts}
use Rattle.base.proofs.Lists.{joined_all}
use Rattle.wasm_syntax.specs.declared.values.ValType.{ValType}
use Rattle.wasm_syntax.specs.declared.values.ValType.TheVariants.{FuncRef}
use Rattle.wasm_syntax.specs.declared.instructions.Instr.{Instr}
use Rattle.wasm_syntax.specs.declared.instructions.Instr.TheVariants.{Else, End, RefFunc}
use Rattle.wasm_syntax.specs.declared.modules.Func.{Func}
use Rattle.wasm_syntax.specs.declared.modules.Module.{Module}
use Rattle.wasm_syntax.specs.Index.{func_indices}
use Rattle.wasm_syntax.specs.Nest.{Nest, Empty, Plain, InBlock, InLoop, InIf, InIfElse, flat}
use Rattle.wasm_syntax.specs.Typing.{Context, IsTyped, Leads, Moves, if_true, inside, instr_type, is_declared, results_of}
use Rattle.wasm_syntax.specs.Validity.{IsTypedFunc, body_context}
use Rattle.replay_module_spec.specs.Fragments.{referred_func, referred_funcs}

module _ (below : ℕ) where
  -- a function to which the instruction refers has a smaller index
  abbrev pub RefersBelow : Instr → Type 0
  RefersBelow (RefFunc func) = func < below
  RefersBelow i = Unit {0}

  abbrev pub AllRefer : List Instr → Type 0
  AllRefer body = AllByRecursion RefersBelow body

  abbrev pub FuncsRefer : List Func → Type 0
  FuncsRefer funcs = AllByRecursion (λ func. AllRefer func.body) funcs

-- each function to which a body refers is one of them
refers_of : (below : ℕ) (body : List Instr) → AllRefer below body
    → AllByRecursion (λ func. func < below) (filter_map referred_func body)
refers_of below [] all = tt
refers_of below (i ∷ body) all = one i all.0 (refers_of below body all.1)
  where
    one : (i : Instr) → RefersBelow below i → AllByRecursion (λ func. func < below) (filter_map referred_func body)
        → AllByRecursion (λ func. func < below) (cons_option (referred_func i) (filter_map referred_func body))
    one (RefFunc func) own later = (own, later)
    one i own later = later

pub referred_below : (below : ℕ) (funcs : List Func) → FuncsRefer below funcs
    → AllByRecursion (λ func. func < below) (referred_funcs funcs)
referred_below below [] all = tt
referred_below below (func ∷ funcs) all =
    joined_all (λ func. func < below) (filter_map referred_func func.body) (referred_funcs funcs)
    (refers_of below func.body all.0) (referred_below below funcs all.1)

-- ---- more functions

instr_more : (below more : ℕ) (i : Instr) → below ≤ more → RefersBelow below i → RefersBelow more i
instr_more below more (RefFunc func) least own = omega (arith, least, own)
instr_more below more i least own = tt

body_more : (below more : ℕ) (body : List Instr) → below ≤ more → AllRefer below body → AllRefer more body
body_more below more [] least all = tt
body_more below more (i ∷ body) least all =
    (instr_more below more i least all.0, body_more below more body least all.1)

pub refer_more : (below more : ℕ) (funcs : List Func) → below ≤ more → FuncsRefer below funcs → FuncsRefer more funcs
refer_more below more [] least all = tt
refer_more below more (func ∷ funcs) least all =
    (body_more below more func.body least all.0, refer_more below more funcs least all.1)

-- ---- typed bodies

instr_refers : (ctx : Context) (i : Instr) (before after : List ValType) → Leads ctx (instr_type ctx i) before after
    → RefersBelow (length ctx.funcs) i
instr_refers ctx (RefFunc func) before after leads = go (is_declared ctx func) refl leads
  where
    go : (b : Bool) → is_declared ctx func ≡ b → Leads ctx (if_true b (Moves [] (FuncRef ∷ []))) before after
        → func < length ctx.funcs
    go true e leads' =
        let first = (and_parts (nat_lt func (length ctx.funcs)) (list_any (nat_eq func) ctx.declared) e).0 in
        grind (arith, nat_tests, first)
    go false e leads' = absurd leads'
instr_refers ctx i before after leads = tt

typed_refers : (ctx : Context) (nest : Nest) (before after : List ValType) → IsTyped ctx nest before after
    → AllRefer (length ctx.funcs) (flat nest)
typed_refers ctx Empty before after h = tt
typed_refers ctx (Plain i rest) before after h =
    (instr_refers ctx i before h.0 h.1, typed_refers ctx rest h.0 after h.2)
typed_refers ctx (InBlock ty body rest) before after h = (
  tt,
  joined_all (RefersBelow (length ctx.funcs)) (flat body) (End ∷ flat rest)
      (typed_refers (inside (results_of ty) ctx) body [] (results_of ty) h.1)
      (tt, typed_refers ctx rest (results_of ty ++ before) after h.2),
)
typed_refers ctx (InLoop ty body rest) before after h = (
  tt,
  joined_all (RefersBelow (length ctx.funcs)) (flat body) (End ∷ flat rest)
      (typed_refers (inside [] ctx) body [] (results_of ty) h.1)
      (tt, typed_refers ctx rest (results_of ty ++ before) after h.2),
)
typed_refers ctx (InIf ty body rest) before after h = (
  tt,
  joined_all (RefersBelow (length ctx.funcs)) (flat body) (End ∷ flat rest)
      (typed_refers (inside (results_of ty) ctx) body [] (results_of ty) h.3)
      (tt, typed_refers ctx rest (results_of ty ++ h.0) after h.5),
)
typed_refers ctx (InIfElse ty body other rest) before after h = (
  tt,
  joined_all (RefersBelow (length ctx.funcs)) (flat body) (Else ∷ (flat other ++ End ∷ flat rest))
      (typed_refers (inside (results_of ty) ctx) body [] (results_of ty) h.3) (
        tt,
        joined_all (RefersBelow (length ctx.funcs)) (flat other) (End ∷ flat rest)
            (typed_refers (inside (results_of ty) ctx) other [] (results_of ty) h.4)
            (tt, typed_refers ctx rest (results_of ty ++ h.0) after h.5),
      ),
)

-- the bodies of functions with typings in a module refer to functions of the module
pub funcs_refer : (m : Module) (funcs : List Func) → AllByRecursion (IsTypedFunc m) funcs
    → FuncsRefer (length (func_indices m)) funcs
funcs_refer m [] all = tt
funcs_refer m (func ∷ funcs) all =
    let own = all.0 in (
      subst (AllRefer (length (func_indices m))) own.is_body.written
          (joined_all (RefersBelow (length (func_indices m))) (flat own.nest) (End ∷ [])
          (typed_refers (body_context m own.ty func) own.nest [] _ own.typed) (tt, tt)),
      funcs_refer m funcs all.1,
    )
