-- Activations of the module that are well typed (Core 1.0, appendix 7.5, "Configuration Validity").
use Rattle.std.specs.Prelude.{◌≡◌, ℕ, ◌+◌, ◌<◌, List, [], ◌∷◌, ◌++◌, length, reverse, Some, None}
use Rattle.wasm_syntax.specs.declared.values.ValType.{ValType}
use Rattle.wasm_syntax.specs.declared.signatures.FuncType.{FuncType}
use Rattle.wasm_syntax.specs.declared.instructions.Instr.{Instr}
use Rattle.wasm_syntax.specs.declared.modules.Module.{Module}
use Rattle.wasm_syntax.specs.Nest.{Nest, Empty, Plain, InBlock, InLoop, InIf, InIfElse, size}
use Rattle.wasm_syntax.specs.Index.{func_indices, all_tables, all_memories, all_globals}
use Rattle.wasm_syntax.specs.Typing.{Context, IsTyped}
use Rattle.wasm_syntax.specs.Validity.{declared_funcs}
use Rattle.wasm_syntax.specs.Profile.{refused_feature}
use Rattle.history_spec.specs.Code.{Definition, code_of, signature, definition}
use Rattle.history_spec.specs.Configuration.{Place, Label, Frame}
use Rattle.type_safety.specs.Values.{AreValues}
use Rattle.type_safety.specs.Stores.{func_count}
use Rattle.type_safety.specs.Heights.{height}

-- a defined function of a module: its index, its type, its locals and body, and the number of values above an
-- activation's base before each instruction, by the instruction's number
pub record Scope : Type 0 where
  pub m : Module
  pub func : ℕ
  pub ty : FuncType
  pub body : Definition
  pub heights : ℕ → ℕ

-- the context of a function's body within blocks whose labels take these types
abbrev pub context : Scope → List (List ValType) → Context
context s labels = record {
  types = s.m.types;
  funcs = func_indices s.m;
  tables = all_tables s.m;
  memories = all_memories s.m;
  globals = all_globals s.m;
  locals = s.ty.params ++ s.body.locals;
  labels = labels ++ reverse s.ty.results ∷ [];
  results = reverse s.ty.results;
  declared = declared_funcs s.m;
}

-- a property of each plain instruction of a sequence, within its blocks too
abbrev pub AllPlain : (Instr → Type 0) → Nest → Type 0
AllPlain P Empty = Unit {0}
AllPlain P (Plain i rest) = P i × AllPlain P rest
AllPlain P (InBlock ty body rest) = AllPlain P body × AllPlain P rest
AllPlain P (InLoop ty body rest) = AllPlain P body × AllPlain P rest
AllPlain P (InIf ty body rest) = AllPlain P body × AllPlain P rest
AllPlain P (InIfElse ty body other rest) = AllPlain P body × AllPlain P other × AllPlain P rest

-- no instruction of a sequence is refused
abbrev pub HasNoneRefused : Nest → Type 0
HasNoneRefused = AllPlain (λ i. refused_feature i ≡ None)

-- the next instructions within these labels, with `base` values below: they lead from values of some types to values
-- of others, no instruction is refused, and the heights are those of the function
pub record IsCode (s : Scope) (labels : List (List ValType)) (next : Place) (base : ℕ)
    (before after : List ValType) : Type 0 where
  pub typed : IsTyped (context s labels) next.rest before after
  pub supported : HasNoneRefused next.rest
  pub heights : (k : ℕ) → k < size next.rest
      → s.heights (next.number + k) ≡ base + height (context s labels) next.rest before after typed k

-- the number of values below the innermost block
abbrev pub base_of : List Label → ℕ
base_of [] = 0
base_of (label ∷ labels) = base_of labels + length label.below

-- the number of values above an activation's base
abbrev pub height_of : Frame → ℕ
height_of frame = base_of frame.labels + length frame.values

-- a label within others: a branch to it goes on with values of the types that it takes, and the end of its block with
-- values of the types that the block gives, both above the values below
pub record IsLabel (s : Scope) (labels : List (List ValType)) (base : ℕ)
    (taken given below after : List ValType) (label : Label) : Type 0 where
  pub arity : label.arity ≡ length taken
  pub values : AreValues (func_count s.m) below label.below
  pub target : IsCode s labels label.target base (taken ++ below) after
  pub after_block : IsCode s labels label.after_block base (given ++ below) after

-- labels that take values of these types, if the innermost block gives values of others
abbrev pub AreLabels : Scope → List (List ValType) → List ValType → List Label → Type 0
AreLabels s [] given [] = given ≡ reverse s.ty.results
AreLabels s [] given (label ∷ labels) = ⊥
AreLabels s (taken ∷ types) given [] = ⊥
AreLabels s (taken ∷ types) given (label ∷ labels) =
    (below after : List ValType)
    × IsLabel s types (base_of labels) taken given below after label × AreLabels s types after labels

-- the scope is a defined function of its module
pub record IsScope (s : Scope) : Type 0 where
  pub has_type : signature (code_of s.m) s.func ≡ Some s.ty
  pub defined : definition (code_of s.m) s.func ≡ Some s.body

-- an activation is well typed but for its values and its next instructions
pub record IsAround (s : Scope) (labels : List (List ValType)) (given : List ValType) (frame : Frame) : Type 0 where
  pub scope : IsScope s
  pub func : frame.func ≡ s.func
  pub arity : frame.arity ≡ length s.ty.results
  pub locals : AreValues (func_count s.m) (s.ty.params ++ s.body.locals) frame.locals
  pub blocks : AreLabels s labels given frame.labels

-- an activation that waits for results of these types, or goes on without results if there are no types, is well typed
pub record IsFrame (s : Scope) (awaited : List ValType) (frame : Frame) : Type 0 where
  pub labels : List (List ValType)
  pub given : List ValType
  pub types : List ValType
  pub around : IsAround s labels given frame
  pub values : AreValues (func_count s.m) types frame.values
  pub code : IsCode s labels frame.at (base_of frame.labels) (reverse awaited ++ types) given
