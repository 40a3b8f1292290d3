-- Nested bodies: a body as a tree of blocks (Core 1.0, 2.4.5), beside the flat list that modules keep.
use Rattle.std.specs.Prelude.{◌≡◌, ℕ, ◌+◌, List, [], ◌∷◌, ◌++◌, Option, Some, None, Bool, true, false, IsTrue}
use Rattle.wasm_syntax.specs.declared.values.ValType.{ValType}
use Rattle.wasm_syntax.specs.declared.instructions.Instr.{Instr}
use Rattle.wasm_syntax.specs.declared.instructions.Instr.TheVariants.{Block, Loop, If, Else, End}

-- a sequence of instructions: empty, or its first one and the rest; a block holds a sequence, an
-- `if` one or two
pub data Nest : Type 0 where
  Empty : Nest
  Plain : (i : Instr) (rest : Nest) → Nest
  InBlock : (ty : Option ValType) (body rest : Nest) → Nest
  InLoop : (ty : Option ValType) (body rest : Nest) → Nest
  InIf : (ty : Option ValType) (body rest : Nest) → Nest
  InIfElse : (ty : Option ValType) (body other rest : Nest) → Nest

-- whether an instruction neither opens, parts nor closes a block
abbrev pub is_plain : Instr → Bool
is_plain (Block ty) = false
is_plain (Loop ty) = false
is_plain (If ty) = false
is_plain Else = false
is_plain End = false
is_plain i = true

-- each instruction that the tree holds as a plain one is plain
abbrev pub IsNest : Nest → Type 0
IsNest Empty = Unit {0}
IsNest (Plain i rest) = IsTrue (is_plain i) × IsNest rest
IsNest (InBlock ty body rest) = IsNest body × IsNest rest
IsNest (InLoop ty body rest) = IsNest body × IsNest rest
IsNest (InIf ty body rest) = IsNest body × IsNest rest
IsNest (InIfElse ty body other rest) = IsNest body × IsNest other × IsNest rest

-- the sequence as a flat list, each block with its `End`
abbrev pub flat : Nest → List Instr
flat Empty = []
flat (Plain i rest) = i ∷ flat rest
flat (InBlock ty body rest) = Block ty ∷ (flat body ++ End ∷ flat rest)
flat (InLoop ty body rest) = Loop ty ∷ (flat body ++ End ∷ flat rest)
flat (InIf ty body rest) = If ty ∷ (flat body ++ End ∷ flat rest)
flat (InIfElse ty body other rest) = If ty ∷ (flat body ++ Else ∷ (flat other ++ End ∷ flat rest))

-- the number of instructions of the sequence, without each `Else` and `End`
abbrev pub size : Nest → ℕ
size Empty = 0
size (Plain i rest) = 1 + size rest
size (InBlock ty body rest) = 1 + size body + size rest
size (InLoop ty body rest) = 1 + size body + size rest
size (InIf ty body rest) = 1 + size body + size rest
size (InIfElse ty body other rest) = 1 + size body + size other + size rest

-- the tree whose flat list, with the body's own `End`, is the body (Core 1.0, 2.4.6)
pub record IsBody (nest : Nest) (body : List Instr) : Type 0 where
  pub nested : IsNest nest
  pub written : flat nest ++ End ∷ [] ≡ body

-- sequences that are open while a flat list is read from its end: the innermost first, each with an
-- `End` whose opening is still to be read
pub data Open : Type 0 where
  Outside : Open
  InEnd : (outer : Open) (rest : Nest) → Open
  InElse : (outer : Open) (other rest : Nest) → Open

-- the part of a list that is read: the sequence at the front, and the open sequences around it; or no tree
pub data OpenNest : Type 0 where
  NoNest : OpenNest
  Within : (first : Nest) (around : Open) → OpenNest

-- the part that is read, after one more instruction at the front
abbrev pub in_front : Instr → OpenNest → OpenNest
in_front i NoNest = NoNest
in_front End (Within first around) = Within Empty (InEnd around first)
in_front Else (Within first (InEnd outer rest)) = Within Empty (InElse outer first rest)
in_front Else (Within first around) = NoNest
in_front (Block ty) (Within first (InEnd outer rest)) = Within (InBlock ty first rest) outer
in_front (Block ty) (Within first around) = NoNest
in_front (Loop ty) (Within first (InEnd outer rest)) = Within (InLoop ty first rest) outer
in_front (Loop ty) (Within first around) = NoNest
in_front (If ty) (Within first (InEnd outer rest)) = Within (InIf ty first rest) outer
in_front (If ty) (Within first (InElse outer other rest)) = Within (InIfElse ty first other rest) outer
in_front (If ty) (Within first around) = NoNest
in_front i (Within first around) = Within (Plain i first) around

-- the result of reading a flat list from its end
abbrev pub open_nest : List Instr → OpenNest
open_nest [] = Within Empty Outside
open_nest (i ∷ is) = in_front i (open_nest is)

-- the tree of a body if it has one: its own `End` closes it, and nothing comes after
abbrev pub closed_nest : OpenNest → Option Nest
closed_nest (Within nest (InEnd Outside Empty)) = Some nest
closed_nest other = None

abbrev pub nest_of : List Instr → Option Nest
nest_of body = closed_nest (open_nest body)
