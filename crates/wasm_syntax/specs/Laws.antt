-- The laws of the definitions of nested bodies, typing and validity: the plain programs beside them decide them.
use Rattle.std.specs.Prelude.{◌≡◌, ◌↔◌, ℕ, List, Option, None, Some, true}
use Rattle.wasm_syntax.specs.declared.values.ValType.{ValType}
use Rattle.wasm_syntax.specs.declared.instructions.Instr.{Instr}
use Rattle.wasm_syntax.specs.declared.modules.Module.{Module}
use Rattle.wasm_syntax.specs.declared.modules.Func.{Func as Function}
use Rattle.wasm_syntax.specs.Nest.{Nest, IsBody, nest_of}
use Rattle.wasm_syntax.specs.Typing.{Context, IsTyped}
use Rattle.wasm_syntax.specs.Validity.{IsValid, IsInvalidAt, IsTypedFunc}
use Rattle.wasm_syntax.specs.KnownStacks.{Known, Fits, known_after}
use Rattle.wasm_syntax.specs.ValidityTests.{invalid_at, is_typed_func}

-- a body has a tree if and only if reading it from its end gives one, which is its only one
abbrev pub BodiesAreRead : Type 0
BodiesAreRead = (nest : Nest) (body : List Instr) → IsBody nest body ↔ (nest_of body ≡ Some nest)

-- the stack after a typed sequence fits what is known after the sequence
abbrev pub TypedIsKnown : Type 0
TypedIsKnown =
    (ctx : Context) (nest : Nest) (stack : Known) (before after : List ValType)
    → Fits stack before → IsTyped ctx nest before after
    → (next : Known) × (known_after ctx nest stack ≡ Some next) × Fits next after

-- a stack that fits what is known after a sequence is reached by a typing of the sequence
abbrev pub KnownIsTyped : Type 0
KnownIsTyped =
    (ctx : Context) (nest : Nest) (stack next : Known) (after : List ValType)
    → known_after ctx nest stack ≡ Some next → Fits next after
    → (before : List ValType) × Fits stack before × IsTyped ctx nest before after

-- a module is valid if and only if `invalid_at` finds no place at which it is invalid
abbrev pub ValidityIsDecided : Type 0
ValidityIsDecided = (m : Module) → IsValid m ↔ (invalid_at m ≡ None)

-- a module is invalid at a place if and only if `invalid_at` finds this place
abbrev pub InvalidPlaceIsFound : Type 0
InvalidPlaceIsFound = (m : Module) (place : Option ℕ) → IsInvalidAt m place ↔ (invalid_at m ≡ Some place)

-- the body of a function is nested and has a typing if and only if `is_typed_func` is true of the function
abbrev pub FuncTypingIsDecided : Type 0
FuncTypingIsDecided = (m : Module) (f : Function) → IsTypedFunc m f ↔ (is_typed_func m f ≡ true)
