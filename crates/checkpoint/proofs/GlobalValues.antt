-- Known values of globals.
use Rattle.std.proofs.Common.{◌≡◌, ℕ, suc, ◌+◌, ◌<◌, ◌≤◌, List, [], ◌∷◌, ◌++◌, length, take, drop, Some, slice_get, refl, sym, ap, ◌∙◌, arith, length-drop}
use Rattle.std.proofs.lemmas.List.{get_or-drop, length-take-le}
use Rattle.std.proofs.lemmas.Option.{get_or_from_slice_get, slice_get_within}
use Rattle.std.proofs.Math.Seq.{take-suc}
use Rattle.wasm_syntax.specs.declared.values.Val.{Val}
use Rattle.wasm_syntax.specs.declared.modules.Global.{Global}
use Rattle.rest_spec.specs.StateModules.{state_global, state_globals}

-- one more value
pub one_value : (globals values more : List Val) (first place : ℕ) (value : Val)
    → slice_get globals (first + place) ≡ Some value → values ≡ take place (drop first globals)
    → more ≡ values ++ value ∷ [] → more ≡ take (place + 1) (drop first globals)
one_value globals values more first place value there are pushed =
    let within = slice_get_within globals (first + place) value there in
    let below : place < length (drop first globals) = omega (arith, within, length-drop first globals) in
    let e : suc place ≡ place + 1 = omega arith in
    pushed
    ∙ ap (λ vs. vs ++ value ∷ []) are
    ∙ ap (λ v. take place (drop first globals) ++ v ∷ [])
    (sym (get_or-drop first globals place value ∙ get_or_from_slice_get globals (first + place) value value there))
    ∙ sym (take-suc (drop first globals) place value below)
    ∙ ap (λ k. take k (drop first globals)) e

-- values past those of the globals do not matter
enough : (globals : List Global) (values : List Val)
    → state_globals globals (take (length globals) values) ≡ state_globals globals values
enough [] values = refl
enough (global ∷ globals) [] = refl
enough (global ∷ globals) (value ∷ values) = ap (λ later. state_global global value ∷ later) (enough globals values)

pub globals_by : (globals made : List Global) (values known : List Val) → values ≡ take (length globals) known
    → made ≡ state_globals globals values → made ≡ state_globals globals known
globals_by globals made values known are is = is ∙ ap (state_globals globals) are ∙ enough globals known

-- there are as many values as globals
pub as_many : (globals : List Global) (values known : List Val) (first : ℕ) → first + length globals ≤ length known
    → values ≡ take (length globals) (drop first known) → length globals ≡ length values
as_many globals values known first within are =
    let long : length (take (length globals) (drop first known)) ≡ length globals =
    length-take-le (length globals) (drop first known) (omega (arith, within, length-drop first known)) in
    sym (ap length are ∙ long)
