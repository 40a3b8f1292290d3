-- The globals with which a state module begins have the values of the state.
use Rattle.std.proofs.Common.{◌≡◌, ℕ, suc, ◌+◌, List, [], ◌∷◌, ◌++◌, length, take, drop, Some, None, Bool, true, false, cond, map, slice_get, refl, sym, ap, ◌∙◌, subst, arith}
use Rattle.std.specs.Prelude.{unwrap_or, All}
use Rattle.std.proofs.lemmas.List.{length-append, length-map, length-take-le, take-append-drop}
use Rattle.std.proofs.lemmas.List.Elements.{All-head, All-tail}
use Rattle.std.proofs.lemmas.Option.{same_Some, slice_get_within}
use Rattle.base.proofs.Lists.{get_front, get_after_by}
use Rattle.base.proofs.Options.{and_then_some}
use Rattle.wasm_syntax.specs.declared.values.Val.{Val}
use Rattle.wasm_syntax.specs.declared.values.ValType.{ValType}
use Rattle.wasm_syntax.specs.declared.signatures.GlobalType.{GlobalType}
use Rattle.wasm_syntax.specs.declared.instructions.Instr.{Instr}
use Rattle.wasm_syntax.specs.declared.instructions.Instr.TheVariants.{End, GlobalGet, Const}
use Rattle.wasm_syntax.specs.declared.modules.Global.{Global}
use Rattle.wasm_syntax.specs.declared.modules.Module.{Module}
use Rattle.wasm_syntax.specs.Index.{imported_globals, all_globals}
use Rattle.wasm_syntax.specs.Validity.{IsConstant, IsGlobal, single, constant_type, immutable_type}
use Rattle.wasm_syntax.proofs.ValidParts.{single_is}
use Rattle.history_spec.specs.Code.{zero_of}
use Rattle.history_spec.specs.Instantiation.{constant, global_value}
use Rattle.rest_spec.specs.StateModules.{state_global, state_globals}

-- other values are the same for immutable types
abbrev pub AreSameImmutables : List GlobalType → (values others : List Val) → Type 0
AreSameImmutables types values others =
    (at : ℕ) (ty : GlobalType) → slice_get types at ≡ Some ty → ty.mutable ≡ false
    → slice_get others at ≡ slice_get values at

-- ---- values in two parts

module _ (types more_types : List GlobalType) (values more_values others more_others : List Val)
    (long : length values ≡ length types) (others_long : length others ≡ length types)
    (same : AreSameImmutables (types ++ more_types) (values ++ more_values) (others ++ more_others)) where
  first_same : AreSameImmutables types values others
  first_same at ty there fixed =
      let below = slice_get_within types at ty there in
      sym (get_front others more_others at (omega (arith, below, others_long)))
      ∙ same at ty (get_front types more_types at below ∙ there) fixed
      ∙ get_front values more_values at (omega (arith, below, long))

  rest_same : AreSameImmutables more_types more_values more_others
  rest_same at ty there fixed =
      let place : ℕ = length types + at in
      sym (get_after_by others more_others place at (omega (arith, others_long)))
      ∙ same place ty (get_after_by types more_types place at refl ∙ there) fixed
      ∙ get_after_by values more_values place at (omega (arith, long))

-- ---- constants

immutable_is : (g : GlobalType) (ty : ValType) → immutable_type g ≡ Some ty → g.mutable ≡ false
immutable_is g ty h = by g.mutable h
  where
    by : (b : Bool) → cond b None (Some g.ty) ≡ Some ty → b ≡ false
    by true e = cc
    by false e = refl

module _ (m : Module) (values others : List Val) (same : AreSameImmutables (imported_globals m) values others) where
  instr_same : (i : Instr) (t : ValType) (other : Val) → constant_type m i ≡ Some t
      → constant others other (i ∷ End ∷ []) ≡ constant values other (i ∷ End ∷ [])
  instr_same (Const value) t other h = refl
  instr_same (GlobalGet x) t other h =
      let g = and_then_some (slice_get (imported_globals m) x) immutable_type t h in
      ap (λ o. unwrap_or o other) (same x g.0 g.1 (immutable_is g.0 t g.2))
  instr_same i t other h = cc

  constant_same : (t : ValType) (body : List Instr) (other : Val) → IsConstant m t body
      → constant others other body ≡ constant values other body
  constant_same t body other h =
      let i = and_then_some (single body) (constant_type m) t h in
      subst (λ l. constant others other l ≡ constant values other l) (sym (single_is body i.0 i.1))
      (instr_same i.0 t other i.2)

  -- ---- defined globals

  global_opens : (global : Global) (value : Val) → IsGlobal m global
      → (global.ty.mutable ≡ false → value ≡ global_value values global)
      → global_value others (state_global global value) ≡ value
  global_opens global value is fixed = go global.ty.mutable refl
    where
      go : (b : Bool) → global.ty.mutable ≡ b
          → global_value others (cond b (record global { init = Const value ∷ End ∷ [] }) global) ≡ value
      go true e = refl
      go false e = constant_same global.ty.ty global.init (zero_of global.ty.ty) is.init ∙ sym (fixed e)

  defined_open : (globals : List Global) (left : List Val) → All (IsGlobal m) globals
      → length left ≡ length globals
      → AreSameImmutables (map (λ g. g.ty) globals) (map (global_value values) globals) left
      → map (global_value others) (state_globals globals left) ≡ left
  defined_open [] [] all long each = refl
  defined_open [] (value ∷ left) all long each = absurd (omega (arith, long))
  defined_open (global ∷ globals) [] all long each = absurd (omega (arith, long))
  defined_open (global ∷ globals) (value ∷ left) all long each =
      let own = global_opens global value (All-head (IsGlobal m) global globals all)
      (λ e. same_Some value (global_value values global) (each 0 global.ty refl e)) in
      let later = defined_open globals left (All-tail (IsGlobal m) global globals all) (omega (arith, long))
      (λ at. each (suc at)) in
      ap (λ v. v ∷ map (global_value others) (state_globals globals left)) own ∙ ap (λ l. value ∷ l) later

-- all globals of the state module
pub globals_open : (m : Module) (supplied globals : List Val) → All (IsGlobal m) m.globals
    → length supplied ≡ length (imported_globals m) → length globals ≡ length (all_globals m)
    → AreSameImmutables (all_globals m) (supplied ++ map (global_value supplied) m.globals) globals
    → take (length supplied) globals
    ++ map (global_value (take (length supplied) globals))
    (state_globals m.globals (drop (length (imported_globals m)) globals))
    ≡ globals
globals_open m supplied globals each long all_long same =
    ap (λ n. take n globals ++ map (global_value (take n globals)) (state_globals m.globals rest)) long
    ∙ ap (λ l. front ++ l) own
    ∙ take-append-drop count globals
  where
    count : ℕ
    count = length (imported_globals m)

    front : List Val
    front = take count globals

    rest : List Val
    rest = drop count globals

    types : List GlobalType
    types = map (λ g. g.ty) m.globals

    defined : List Val
    defined = map (global_value supplied) m.globals

    sizes : count + length m.globals ≡ length globals
    sizes = omega (arith, all_long, length-append (imported_globals m) types, length-map m.globals (λ g. g.ty))

    front_long : length front ≡ count
    front_long = length-take-le count globals (omega (arith, sizes))

    rest_long : length rest ≡ length m.globals
    rest_long =
        omega (arith, sizes, front_long, ap length (take-append-drop count globals), length-append front rest)

    parts : AreSameImmutables (all_globals m) (supplied ++ defined) (front ++ rest)
    parts = subst (AreSameImmutables (all_globals m) (supplied ++ defined)) (sym (take-append-drop count globals)) same

    own : map (global_value front) (state_globals m.globals rest) ≡ rest
    own =
        defined_open m supplied front
        (first_same (imported_globals m) types supplied defined front rest long front_long parts) m.globals rest each
        rest_long
        (rest_same (imported_globals m) types supplied defined front rest long front_long parts)
