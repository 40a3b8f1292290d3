-- The meter of an instrumented module fits it.
use Rattle.std.proofs.Common.{◌≡◌, ℕ, ◌+◌, ◌<◌, ◌≤◌, List, [], ◌∷◌, ◌++◌, length, Option, Some, Bool, true, false, cond, IsTrue, inl, inr, refl, sym, ap, subst, arith}
use Rattle.std.specs.Prelude.{◌-◌, filter, flat_map, slice_get, slice_index}
use Rattle.std.specs.List.{AllByRecursion, AllZip, slice_index_or}
use Rattle.std.proofs.lemmas.Bool.{lt-ltb}
use Rattle.std.proofs.lemmas.List.Elements.{filter-append, recursion_from_All}
use Rattle.wasm_syntax.specs.declared.signatures.FuncType.{FuncType}
use Rattle.wasm_syntax.specs.declared.instructions.Instr.{Instr}
use Rattle.wasm_syntax.specs.declared.instructions.Instr.TheVariants.{Block, Call, Else, End}
use Rattle.wasm_syntax.specs.declared.modules.Func.{Func}
use Rattle.wasm_syntax.specs.declared.modules.Module.{Module}
use Rattle.wasm_syntax.specs.Index.{imported_funcs, type_at}
use Rattle.wasm_syntax.specs.Laws.{BodiesAreRead}
use Rattle.wasm_syntax.specs.Nest.{nest_of}
use Rattle.wasm_syntax.specs.Profile.{is_numbered}
use Rattle.wasm_syntax.specs.Validity.{IsTypedFunc, IsValid}
use Rattle.history_spec.specs.Run.{Meter}
use Rattle.wasm_flat.specs.Meters.{MayWeigh, goes_forward}
use Rattle.record_replay_spec.specs.declared.hooks.Hook.{Hook}
use Rattle.record_replay_spec.specs.declared.hooks.Hook.TheVariants.{Arg, Leave}
use Rattle.record_replay_spec.specs.Hooks.{hook_place}
use Rattle.record_replay_spec.specs.Insertions.{Site, calls, imports_at, inserted_after, inserted_at_end, inserted_at_enter, inserted_before}
use Rattle.record_replay_spec.specs.Instrumented.{each_func, instrumented_func, instrumented_module, instrumented_weights, renumbered, site_of, weightless, weights_of_func}
use Rattle.record_replay_spec.specs.HookLaws.{InstrumentedKeepIndices}
use Rattle.hook_insert.specs.Functions.{func_of_rounds, weights_of_rounds}
use Rattle.hook_insert.specs.Rounds.{code_weights, instrumented_code, round, weights_round}
use Rattle.hook_insert.proofs.FlatFunctions.{func_is, weights_are}
use Rattle.hook_insert.specs.EncodingLaws.{InstrumentedMetersFit, WeightsAreOfMeter}
use Rattle.hook_insert.proofs.Inserted.{HoldsOfKinds, each_after, each_at_end, each_at_enter, each_before}

pub place_less : (kind : Hook) → hook_place kind < 15
place_less Arg = omega arith
place_less kind = omega arith

-- two lists that match, and two others after them
zip_joined : {A B : Type 0} (R : A → B → Type 0) (xs zs : List A) (ys ws : List B) → AllZip R xs ys → AllZip R zs ws
    → AllZip R (xs ++ zs) (ys ++ ws)
zip_joined R [] zs [] ws a b = b
zip_joined R [] zs (y ∷ ys) ws a b = absurd a
zip_joined R (x ∷ xs) zs [] ws a b = absurd a
zip_joined R (x ∷ xs) zs (y ∷ ys) ws a b = (a.0, zip_joined R xs zs ys ws a.1 b)

module _ (keep : InstrumentedKeepIndices) (read : BodiesAreRead) (m : Module) (digest : List ℕ) where
  abbrev hooked : Module
  hooked = instrumented_module m digest

  -- an instruction that has a number and goes forward
  abbrev IsAhead : Instr → Type 0
  IsAhead i = (is_numbered i ≡ true) × IsTrue (goes_forward hooked i)

  -- weights for the instructions that have a number
  abbrev Weigh : List ℕ → List Instr → Type 0
  Weigh weights is = AllZip (MayWeigh hooked) weights (filter is_numbered is)

  hook_ahead : (s : Site) → s.m ≡ m → (kind : Hook) → IsAhead (calls s kind)
  hook_ahead s is kind =
      let more : imported_funcs hooked ≡ imported_funcs m + 15 = (keep m digest).imports in
      let less = place_less kind in
      let same : imported_funcs s.m ≡ imported_funcs m = ap imported_funcs is in
      (refl, lt-ltb (imported_funcs s.m + hook_place kind) (imported_funcs hooked) (omega (arith, more, less, same)))

  kinds : (s : Site) → s.m ≡ m → HoldsOfKinds IsAhead (λ n. Unit {0}) s
  kinds s is = record {
    reported = λ bits q. (refl, refl);
    hook = hook_ahead s is;
    get = λ local there. (refl, refl);
    set = λ local there. (refl, refl);
    tee = (refl, refl);
    wrapped = (refl, refl);
    extended = (refl, refl);
    bits32 = (refl, refl);
    bits64 = (refl, refl);
    own = tt;
    small = λ n less. tt;
  }

  joined : (weights others : List ℕ) (is js : List Instr) → Weigh weights is → Weigh others js
      → Weigh (weights ++ others) (is ++ js)
  joined weights others is js a b =
      subst (AllZip (MayWeigh hooked) (weights ++ others)) (sym (filter-append is_numbered is js))
      (zip_joined (MayWeigh hooked) weights others (filter is_numbered is) (filter is_numbered js) a b)

  kept : (weight : ℕ) (weights : List ℕ) (i : Instr) (is : List Instr) → is_numbered i ≡ true
      → MayWeigh hooked weight i → Weigh weights is → Weigh (weight ∷ weights) (i ∷ is)
  kept weight weights i is numbered may rest =
      subst (λ b. AllZip (MayWeigh hooked) (weight ∷ weights) (cond b (i ∷ filter is_numbered is) (filter is_numbered is)))
      (sym numbered) (may, rest)

  zeros : (is : List Instr) → AllByRecursion IsAhead is → Weigh (weightless is) is
  zeros [] h = tt
  zeros (i ∷ is) h = kept 0 (weightless is) i is h.0.0 (inr (refl, h.0.1)) (zeros is h.1)

  module _ (s : Site) (is : s.m ≡ m) where
    before_weighs : (i : Instr) → Weigh (weightless (inserted_before s i)) (inserted_before s i)
    before_weighs (Call func) = zeros (inserted_before s (Call func)) (each_before IsAhead (λ n. Unit {0}) s (kinds s is) (Call func) tt)
    before_weighs i = zeros (inserted_before s i) (each_before IsAhead (λ n. Unit {0}) s (kinds s is) i tt)

    after_weighs : (i : Instr) → Weigh (weightless (inserted_after s i)) (inserted_after s i)
    after_weighs (Call func) = zeros (inserted_after s (Call func)) (each_after IsAhead (λ n. Unit {0}) s (kinds s is) (Call func) tt)
    after_weighs i = zeros (inserted_after s i) (each_after IsAhead (λ n. Unit {0}) s (kinds s is) i tt)

    numbered_weighs : (i : Instr) → is_numbered (renumbered (imports_at s) i) ≡ true
        → Weigh (weightless (inserted_before s i) ++ 1 ∷ weightless (inserted_after s i)) (round s i)
    numbered_weighs i numbered =
        joined (weightless (inserted_before s i)) (1 ∷ weightless (inserted_after s i)) (inserted_before s i)
        (renumbered (imports_at s) i ∷ inserted_after s i) (before_weighs i)
        (kept 1 (weightless (inserted_after s i)) (renumbered (imports_at s) i) (inserted_after s i) numbered (inl refl) (after_weighs i))

    round_weighs : (i : Instr) → Weigh (weights_round s i) (round s i)
    round_weighs Else = tt
    round_weighs End = tt
    round_weighs i = numbered_weighs i refl

    rounds_weigh : (body : List Instr) → Weigh (flat_map (weights_round s) body) (flat_map (round s) body)
    rounds_weigh [] = tt
    rounds_weigh (i ∷ body) =
        joined (weights_round s i) (flat_map (weights_round s) body) (round s i) (flat_map (round s) body)
        (round_weighs i) (rounds_weigh body)

    end_weighs : Weigh (weightless (inserted_at_end s)) (inserted_at_end s ++ End ∷ [])
    end_weighs = (inr (refl, refl), (inr (refl, (hook_ahead s is Leave).1), tt))

    code_weighs : (ty : FuncType) (body : List Instr) → length ty.params ≤ s.locals
        → Weigh (code_weights s ty body) (instrumented_code s ty body)
    code_weighs ty body few =
        let block : Instr = Block (slice_get ty.results 0) in
        let front : List Instr = inserted_at_enter s ty.params in
        let back : List Instr = inserted_at_end s ++ End ∷ [] in
        joined (weightless front) (0 ∷ (flat_map (weights_round s) body ++ weightless (inserted_at_end s)))
        front (block ∷ (flat_map (round s) body ++ back))
        (zeros front (each_at_enter IsAhead (λ n. Unit {0}) s (kinds s is) ty.params few))
        (kept 0 (flat_map (weights_round s) body ++ weightless (inserted_at_end s)) block (flat_map (round s) body ++ back)
        refl (inr (refl, refl))
        (joined (flat_map (weights_round s) body) (weightless (inserted_at_end s)) (flat_map (round s) body) back
        (rounds_weigh body) end_weighs))

  -- ---- functions

  abbrev FitsFunction : List ℕ → Func → Type 0
  FitsFunction weights f = Weigh weights f.body

  func_weighs : (index : ℕ) (f : Func) → IsTypedFunc m f
      → FitsFunction (weights_of_func m index f (type_at m f.ty) (nest_of f.body))
      (instrumented_func m index f (type_at m f.ty) (nest_of f.body))
  func_weighs index f typed =
      subst (λ weights. FitsFunction weights (instrumented_func m index f (type_at m f.ty) (nest_of f.body)))
      (weights_are read m index typed.ty f typed typed.has_type)
      (subst (FitsFunction (weights_of_rounds m index typed.ty f)) (func_is read m index typed.ty f typed typed.has_type)
      (code_weighs (site_of m index typed.ty f) refl typed.ty f.body (omega arith)))

  funcs_weigh : (index : ℕ) (funcs : List Func) → AllByRecursion (IsTypedFunc m) funcs
      → AllZip FitsFunction (each_func m (weights_of_func m) index funcs) (each_func m (instrumented_func m) index funcs)
  funcs_weigh index [] typed = tt
  funcs_weigh index (f ∷ funcs) typed = (func_weighs index f typed.0, funcs_weigh (index + 1) funcs typed.1)

-- the meter of these weights for this number of imported functions
abbrev meter_after : (count : ℕ) → List (List ℕ) → Meter
meter_after count weights = record {
  instruction = λ func number. slice_index (slice_index_or weights (func - count) []) number;
  action = 1;
}

module _ (read : BodiesAreRead) (keep : InstrumentedKeepIndices) where
  pub instrumented_meters_fit : InstrumentedMetersFit
  instrumented_meters_fit m digest valid =
      funcs_weigh keep read m digest (imported_funcs m) m.funcs (recursion_from_All (IsTypedFunc m) m.funcs valid.bodies)

-- the weights of a function are found by its place among the defined ones
pub weights_are_of_meter : InstrumentedKeepIndices → WeightsAreOfMeter
weights_are_of_meter keep m digest =
    ap (λ count. meter_after count (instrumented_weights m)) (keep m digest).imports
