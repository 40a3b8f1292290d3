-- Pieces of generated code, in the sequence in which they are appended.
use Rattle.std.specs.Prelude.{ℕ, List, [], ◌∷◌, ◌++◌, ◌+◌, length, map, replicate, None, Bool, true, false, cond, nat_le}
use Rattle.std.specs.List.{range_with_len}
use Rattle.wasm_syntax.specs.declared.values.ValType.{ValType}
use Rattle.wasm_syntax.specs.declared.instructions.Instr.{Instr}
use Rattle.wasm_syntax.specs.declared.instructions.Instr.TheVariants.{Block, End, Store, Const, Call, LocalGet, Numeric, BrTable}
use Rattle.wasm_syntax.specs.declared.modules.Module.{Module}
use Rattle.wasm_syntax.specs.Index.{func_type}
use Rattle.trace_model.specs.declared.tapes.Segment.{Segment}
use Rattle.trace_model.specs.declared.tapes.Next.{Next}
use Rattle.trace_model.specs.declared.tapes.Next.TheVariants.{Call as Calls}
use Rattle.replay_module_spec.specs.declared.groups.TheConstants.{GROUP_CALLS}
use Rattle.replay_module_spec.specs.Functions.{group_count}
use Rattle.replay_module_spec.specs.Segments.{drops, next_code}
use Rattle.replay_module_spec.specs.Effects.{Width, Eight, Four, Two, One, i32_const}

-- the width of the widest store that writes at most this number of bytes
abbrev pub widest : ℕ → Width
widest count = cond (nat_le 8 count) Eight (cond (nat_le 4 count) Four (cond (nat_le 2 count) Two One))

-- a store by the type of its value and its opcode
abbrev pub store_of : ValType → (op address number : ℕ) → List Instr
store_of ty op address number =
    i32_const address ∷ Const (record { ty = ty; bits = number })
    ∷ Store (record { op = op; align = 0; offset = 0 }) ∷ []

-- whether an activation goes on later, after control left it by `next`
abbrev pub goes_on : Next → Bool
goes_on (Calls func args) = true
goes_on next = false

-- how control leaves the host, without the code after it
abbrev pub next_piece : Module → Next → List Instr
next_piece m (Calls func args) = map Const args ++ Call func ∷ drops (func_type m func)
next_piece m next = next_code m next []

-- the number of an arm: an operation with a local and the size of a group
abbrev pub selector : (local op : ℕ) → List Instr
selector local op = LocalGet local ∷ i32_const GROUP_CALLS ∷ Numeric op ∷ []

-- the code before this number of arms
abbrev pub dispatch_start : (selector : List Instr) → (count : ℕ) → List Instr
dispatch_start selector count =
    replicate (count + 1) (Block None) ++ (selector ++ BrTable (range_with_len 0 count) count ∷ [])

-- an arm after the end of a block
abbrev pub ended : List Instr → List Instr
ended arm = End ∷ arm

-- the number of groups that the calls of imports make
abbrev pub group_total : (types : List ℕ) → List (List (List Segment)) → ℕ
group_total (ty ∷ types) (calls ∷ more) = group_count (length calls) + group_total types more
group_total types calls = 0
