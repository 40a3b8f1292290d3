-- What the tables of opcodes mean.
use Rattle.std.specs.Prelude.{ℕ, [], ◌∷◌}
use Rattle.wasm_syntax.specs.declared.values.ValType.{ValType}
use Rattle.wasm_syntax.specs.Opcodes.{Shape, Access}
use Rattle.module_index.specs.declared.opcodes.Operation.{Operation}
use Rattle.module_index.specs.declared.opcodes.Operation.TheVariants.{One, Two}
use Rattle.module_index.specs.declared.opcodes.Transfer.{Transfer}

-- the types of a numeric instruction
abbrev pub shape_of : Operation → Shape
shape_of (One operand result) = record { operands = operand ∷ []; result = result }
shape_of (Two operand result) = record { operands = operand ∷ operand ∷ []; result = result }

-- the type and the width of an access, without the sign
pub record Reach : Type 0 where
  pub ty : ValType
  pub width : ℕ

abbrev pub reach : ValType → ℕ → Reach
reach ty width = record { ty = ty; width = width }

-- the type and the width of an access to memory, without its sign (Core 1.0, 3.3.4)
abbrev pub reach_of : Access → Reach
reach_of a = reach a.ty a.width

-- the type and the width of an access to memory, as a table of the code has them (Core 1.0, 3.3.4)
abbrev pub reach_of_transfer : Transfer → Reach
reach_of_transfer t = reach t.ty t.width
