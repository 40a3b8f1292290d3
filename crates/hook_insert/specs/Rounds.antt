-- Instrumented bodies as passes over flat ones.
use Rattle.std.specs.Prelude.{ℕ, List, [], ◌∷◌, ◌++◌, flat_map, slice_get, Bool, true, IsTrue, cond, nat_lt, All}
use Rattle.wasm_syntax.specs.declared.signatures.FuncType.{FuncType}
use Rattle.wasm_syntax.specs.declared.instructions.Instr.{Instr}
use Rattle.wasm_syntax.specs.declared.instructions.Instr.TheVariants.{Block, Call, End}
use Rattle.wasm_syntax.specs.Profile.{is_numbered}
use Rattle.record_replay_spec.specs.declared.hooks.Hook.TheVariants.{Post, Ipost}
use Rattle.record_replay_spec.specs.Insertions.{Site, imports_at, calls, inserted_after, inserted_at_end, inserted_at_enter, inserted_before, reports_number}
use Rattle.record_replay_spec.specs.Instrumented.{renumbered, weightless}
use Rattle.hook_insert.specs.declared.insertions.Over.{Over}
use Rattle.hook_insert.specs.declared.insertions.Over.TheVariants as over

-- the instructions that report the end of a call
abbrev pub over_piece : Site → Over → List Instr
over_piece s (over.Direct func) = reports_number s Post func
over_piece s over.Indirect = calls s Ipost ∷ []

-- an instruction with the instructions inserted before and after it
abbrev pub round : Site → Instr → List Instr
round s i = inserted_before s i ++ renumbered (imports_at s) i ∷ inserted_after s i

-- the weights of an instruction and those inserted around it; `Else` and `End` have none
abbrev pub weights_round : Site → Instr → List ℕ
weights_round s i =
    cond (is_numbered i) (weightless (inserted_before s i) ++ 1 ∷ weightless (inserted_after s i)) []

-- an instrumented body: its own `End` closes the inserted block
abbrev pub instrumented_code : Site → FuncType → (body : List Instr) → List Instr
instrumented_code s ty body =
    inserted_at_enter s ty.params
    ++ Block (slice_get ty.results 0) ∷ (flat_map (round s) body ++ (inserted_at_end s ++ End ∷ []))

-- the weights of an instrumented body's instructions
abbrev pub code_weights : Site → FuncType → (body : List Instr) → List ℕ
code_weights s ty body =
    weightless (inserted_at_enter s ty.params)
    ++ 0 ∷ (flat_map (weights_round s) body ++ weightless (inserted_at_end s))

-- an instruction calls no function, or one below a number
abbrev pub is_call_within : (count : ℕ) → Instr → Bool
is_call_within count (Call func) = nat_lt func count
is_call_within count i = true

-- each instruction of a body calls no function, or one below a number
abbrev pub AreCallsWithin : (count : ℕ) → List Instr → Type 0
AreCallsWithin count body = All (λ i. IsTrue (is_call_within count i)) body
