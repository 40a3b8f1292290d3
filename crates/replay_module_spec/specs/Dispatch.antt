-- Arms that a branch table leads to: each arm follows a block, and control never passes the arm's end.
use Rattle.std.specs.Prelude.{List, [], ◌∷◌, ◌++◌, length, reverse, None}
use Rattle.std.specs.List.{range_with_len}
use Rattle.wasm_syntax.specs.declared.instructions.Instr.{Instr}
use Rattle.wasm_syntax.specs.declared.instructions.Instr.TheVariants.{Unreachable, End, BrTable}
use Rattle.wasm_syntax.specs.Nest.{Nest, Empty, Plain, InBlock, flat}

-- plain instructions in front of a sequence
abbrev pub sequence : List Instr → Nest → Nest
sequence [] rest = rest
sequence (i ∷ is) rest = Plain i (sequence is rest)

-- an inner sequence in nested blocks, with an arm after each; the arm of the outermost block is first
abbrev pub nested : Nest → List (List Instr) → Nest
nested inner [] = inner
nested inner (arm ∷ arms) = InBlock None (nested inner arms) (sequence arm Empty)

-- the arm whose number, counted from 0, the selector leaves on the stack; a trap for any greater number
abbrev pub dispatch : (selector : List Instr) → (arms : List (List Instr)) → Nest
dispatch selector arms =
    nested (sequence (selector ++ BrTable (range_with_len 0 (length arms)) (length arms) ∷ []) Empty)
    ((Unreachable ∷ []) ∷ reverse arms)

-- a nested body as a flat one
abbrev pub body_of : Nest → List Instr
body_of nest = flat nest ++ End ∷ []
