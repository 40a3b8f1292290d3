-- Functions put together of two lists, from the front.
use Rattle.std.proofs.Common.{◌≡◌, ℕ, ◌<◌, ◌+◌, List, [], ◌∷◌, ◌++◌, length, drop, get_or, Option, Some, None, refl, ap, sym, ◌∙◌, arith, append_assoc, add-one, drop-cons, length-drop}
use Rattle.std.specs.Prelude.{option_map}
use Rattle.wasm_syntax.specs.declared.modules.Func.{Func}
use Rattle.wasm_syntax.specs.Encoding.Sections.{Code}
use Rattle.wasm_syntax.specs.Encoding.ReadModules.{funcs_of}

-- these functions, followed by those made of the rest
abbrev pub with_front : List Func → List ℕ → List Code → Option (List Func)
with_front front types codes = option_map (λ others. front ++ others) (funcs_of types codes)

moved : (front : List Func) (f : Func) (o : Option (List Func))
    → option_map (λ others. (front ++ f ∷ []) ++ others) o
    ≡ option_map (λ others. front ++ others) (option_map (λ others. f ∷ others) o)
moved front f None = refl
moved front f (Some others) = ap Some (append_assoc front (f ∷ []) others)

pub one_more : (front new : List Func) (types : List ℕ) (k : ℕ) (code : Code) (codes left : List Code)
    (all : Option (List Func))
    → k < length types → left ≡ code ∷ codes
    → new ≡ front ++ record { ty = get_or types k 0; locals = code.locals; body = code.body } ∷ []
    → with_front front (drop k types) left ≡ all → with_front new (drop (k + 1) types) codes ≡ all
one_more front new types k code codes left all below first pushed h =
    let f : Func = record { ty = get_or types k 0; locals = code.locals; body = code.body } in
    let begins : drop k types ≡ get_or types k 0 ∷ drop (k + 1) types = rw add-one (drop-cons types k 0 below) in
    ap (λ fs. with_front fs (drop (k + 1) types) codes) pushed
    ∙ moved front f (funcs_of (drop (k + 1) types) codes)
    ∙ sym (ap (λ ts. with_front front ts (code ∷ codes)) begins) ∙ sym (ap (with_front front (drop k types)) first) ∙ h

pub codes_end : (front : List Func) (types : List ℕ) (k : ℕ) (left : List Code) (all : Option (List Func))
    → k < length types → left ≡ [] → with_front front (drop k types) left ≡ all → None ≡ all
codes_end front types k left all below none h =
    go (drop k types) (omega (arith, length-drop k types)) ∙ sym (ap (with_front front (drop k types)) none) ∙ h
  where
    go : (ts : List ℕ) → 0 < length ts → None ≡ with_front front ts []
    go [] some = absurd (omega arith)
    go (t ∷ ts) some = refl
