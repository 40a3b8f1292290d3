-- What is kept of the parameters of several functions, and what holds for all of them.
use Rattle.std.proofs.Common.{◌≡◌, ℕ, ◌<◌, ◌≤◌, List, [], ◌∷◌, map, length, slice_get, Some, None, unwrap_or, Bool, false, ◌&&◌, ◌==◌, ◌⊎◌, inl, inr, refl, sym, ap, ◌∙◌, arith}
use Rattle.std.specs.List.{list_all, range_with_len}
use Rattle.std.proofs.lemmas.Bool.{cases_lt, ne_eqb}
use Rattle.std.proofs.lemmas.Option.{slice_get-get_or, slice_get_past}
use Rattle.std.proofs.lemmas.List.FromFn.{length-map-range_with_len, get_or-map-range_with_len}
use Rattle.wasm_syntax.specs.declared.signatures.FuncType.{FuncType}
use Rattle.script_text.specs.Actions.{is_i32, takes_i32}
use Rattle.script_text.specs.CommonTypes.{params_of_first, HoldsFlags}

-- a test of each number below a count, and no more
kept_below : (test : ℕ → Bool) (count number : ℕ) → number < count
    → slice_get (map test (range_with_len 0 count)) number ≡ Some (test number)
kept_below test count number lt =
    let le : number < length (map test (range_with_len 0 count)) = rw (length-map-range_with_len test 0 count) lt in
    slice_get-get_or (map test (range_with_len 0 count)) number false le ∙ ap Some (get_or-map-range_with_len test 0 count number number false lt (omega arith))

kept_past : (test : ℕ → Bool) (count number : ℕ) → count ≤ number
    → slice_get (map test (range_with_len 0 count)) number ≡ None
kept_past test count number le =
    let le' : length (map test (range_with_len 0 count)) ≤ number = rw (length-map-range_with_len test 0 count) le in
    slice_get_past (map test (range_with_len 0 count)) number le'

-- the flags of the parameters of the first type hold for every parameter number
pub kept_for_first : (types : List FuncType)
    → HoldsFlags (map (λ number. list_all (takes_i32 number) types) (range_with_len 0 (params_of_first types))) types
kept_for_first [] = record { takes = λ number. refl }
kept_for_first (first ∷ types) = record { takes = λ number. rw some_types (by number (cases_lt number (length first.params))) }
  where
    some_types : (length (first ∷ types) == 0) ≡ false
    some_types = ne_eqb (length (first ∷ types)) 0 (λ e. absurd (omega (arith, e)))

    all : ℕ → Bool
    all number = list_all (takes_i32 number) (first ∷ types)

    by : (number : ℕ) → (number < length first.params) ⊎ (length first.params ≤ number)
        → unwrap_or (slice_get (map all (range_with_len 0 (length first.params))) number) false ≡ all number
    by number (inl lt) = ap (λ o. unwrap_or o false) (kept_below all (length first.params) number lt)
    by number (inr le) =
        ap (λ o. unwrap_or o false) (kept_past all (length first.params) number le)
        ∙ sym (ap (λ o. is_i32 o && list_all (takes_i32 number) types) (slice_get_past first.params number le))
