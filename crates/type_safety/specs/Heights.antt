-- Static heights: the number of values above an activation's base before each instruction.
use Rattle.std.specs.Prelude.{◌≡◌, ℕ, zero, suc, ◌+◌, ◌-◌, List, [], ◌++◌, length, reverse, Some, cond, nat_lt, slice_get}
use Rattle.wasm_syntax.specs.declared.values.ValType.{ValType}
use Rattle.wasm_syntax.specs.declared.modules.Func.{Func}
use Rattle.wasm_syntax.specs.declared.modules.Module.{Module}
use Rattle.wasm_syntax.specs.Nest.{Nest, Empty, Plain, InBlock, InLoop, InIf, InIfElse, size}
use Rattle.wasm_syntax.specs.Index.{imported_funcs}
use Rattle.wasm_syntax.specs.Typing.{Context, results_of, inside, IsTyped}
use Rattle.wasm_syntax.specs.Validity.{IsTypedFunc, body_context}

-- the number of values that a typing gives before an instruction of a sequence, by the instruction's number, counted
-- from 0, without the values below the sequence
abbrev pub height : (ctx : Context) (nest : Nest) (before after : List ValType) → IsTyped ctx nest before after → ℕ → ℕ
height ctx Empty before after typed number = length before
height ctx (Plain i rest) before after typed zero = length before
height ctx (Plain i rest) before after typed (suc number) = height ctx rest typed.0 after typed.2 number
height ctx (InBlock ty body rest) before after typed zero = length before
height ctx (InBlock ty body rest) before after typed (suc number) =
    cond (nat_lt number (size body))
    (length before + height (inside (results_of ty) ctx) body [] (results_of ty) typed.1 number)
    (height ctx rest (results_of ty ++ before) after typed.2 (number - size body))
height ctx (InLoop ty body rest) before after typed zero = length before
height ctx (InLoop ty body rest) before after typed (suc number) =
    cond (nat_lt number (size body))
    (length before + height (inside [] ctx) body [] (results_of ty) typed.1 number)
    (height ctx rest (results_of ty ++ before) after typed.2 (number - size body))
height ctx (InIf ty body rest) before after typed zero = length before
height ctx (InIf ty body rest) before after typed (suc number) =
    cond (nat_lt number (size body))
    (length typed.0 + height (inside (results_of ty) ctx) body [] (results_of ty) typed.3 number)
    (height ctx rest (results_of ty ++ typed.0) after typed.5 (number - size body))
height ctx (InIfElse ty body other rest) before after typed zero = length before
height ctx (InIfElse ty body other rest) before after typed (suc number) =
    cond (nat_lt number (size body))
    (length typed.0 + height (inside (results_of ty) ctx) body [] (results_of ty) typed.3 number)
    (cond (nat_lt (number - size body) (size other))
    (length typed.0 + height (inside (results_of ty) ctx) other [] (results_of ty) typed.4 (number - size body))
    (height ctx rest (results_of ty ++ typed.0) after typed.5 (number - size body - size other)))

-- heights of all instructions, by function and number
abbrev pub Heights : Type 0
Heights = (func number : ℕ) → ℕ

-- a function has a typing with these heights
pub record IsTypedWith (m : Module) (heights : ℕ → ℕ) (f : Func) : Type 0 where
  pub typed : IsTypedFunc m f
  pub same : (number : ℕ)
      → heights number
      ≡ height (body_context m typed.ty f) typed.nest [] (reverse typed.ty.results) typed.typed number

-- each defined function has a typing with its heights
abbrev pub AreHeights : Module → Heights → Type 0
AreHeights m heights =
    (place : ℕ) (f : Func)
    → slice_get m.funcs place ≡ Some f → IsTypedWith m (heights (imported_funcs m + place)) f
