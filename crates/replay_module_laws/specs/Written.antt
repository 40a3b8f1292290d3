-- Tapes whose values can be written as constants.
use Rattle.std.specs.Prelude.{◌≡◌, ◌<◌, ◌^◌, List, true}
use Rattle.std.specs.Option.{option_to_list}
use Rattle.std.specs.List.{AllByRecursion}
use Rattle.wasm_syntax.specs.declared.values.Val.{Val}
use Rattle.wasm_syntax.specs.Typing.{is_constant}
use Rattle.trace_model.specs.declared.tapes.Effect.{Effect}
use Rattle.trace_model.specs.declared.tapes.Effect.TheVariants.{Bytes, Entry, Global}
use Rattle.trace_model.specs.declared.tapes.Next.{Next}
use Rattle.trace_model.specs.declared.tapes.Next.TheVariants.{Call, Return}
use Rattle.trace_model.specs.declared.tapes.Segment.{Segment}
use Rattle.trace_model.specs.declared.tapes.Tape.{Tape}

-- values of number types, their bits in range
abbrev pub AreConstants : List Val → Type 0
AreConstants values = AllByRecursion (λ value. is_constant value ≡ true) values

-- bytes are bytes, an index of the table has 32 bits, and a global's value is a constant
abbrev pub IsConstantEffect : Effect → Type 0
IsConstantEffect (Bytes addr bytes) = AllByRecursion (λ byte. byte < 256) bytes
IsConstantEffect (Entry index func) = index < 2 ^ 32
IsConstantEffect (Global global value) = is_constant value ≡ true
IsConstantEffect effect = Unit {0}

-- arguments and results are constants
abbrev pub IsConstantNext : Next → Type 0
IsConstantNext (Call func args) = AreConstants args
IsConstantNext (Return result) = AreConstants (option_to_list result)
IsConstantNext next = Unit {0}

-- a segment's effects, and the arguments or results with which control leaves it, are constants
pub record IsConstantSegment (segment : Segment) : Type 0 where
  pub effects : AllByRecursion IsConstantEffect segment.effects
  pub next : IsConstantNext segment.next

-- each segment of a tape has constants alone
abbrev pub IsConstantTape : Tape → Type 0
IsConstantTape tape = AllByRecursion IsConstantSegment tape.segments
