-- The segments of one activation of the host as instructions; none of the instructions opens a block.
use Rattle.std.specs.Prelude.{List, [], ◌∷◌, ◌++◌, length, map, flat_map, replicate, Option, Some, None}
use Rattle.std.specs.Option.{option_to_list}
use Rattle.wasm_syntax.specs.declared.signatures.FuncType.{FuncType}
use Rattle.wasm_syntax.specs.declared.instructions.Instr.{Instr}
use Rattle.wasm_syntax.specs.declared.instructions.Instr.TheVariants.{Unreachable, Return, Call, Drop, Const}
use Rattle.wasm_syntax.specs.declared.modules.Module.{Module}
use Rattle.wasm_syntax.specs.Index.{func_type}
use Rattle.trace_model.specs.declared.tapes.Effect.{Effect}
use Rattle.trace_model.specs.declared.tapes.Next.{Next}
use Rattle.trace_model.specs.declared.tapes.Next.TheVariants.{Call as Calls, Return as Returns, End as Ends, Trap as Traps}
use Rattle.trace_model.specs.declared.tapes.Segment.{Segment}
use Rattle.replay_module_spec.specs.Effects.{effect_code}

-- effects, one after another
abbrev pub effects_code : List Effect → List Instr
effects_code effects = flat_map effect_code effects

-- code that drops the results of a function of this type
abbrev pub drops : Option FuncType → List Instr
drops None = []
drops (Some ty) = replicate (length ty.results) Drop

-- how control leaves the host; after a call, the code for what follows it
abbrev pub next_code : Module → Next → (after : List Instr) → List Instr
next_code m (Calls func args) after = map Const args ++ Call func ∷ (drops (func_type m func) ++ after)
next_code m (Returns result) after = map Const (option_to_list result) ++ Return ∷ []
next_code m Ends after = Return ∷ []
next_code m Traps after = Unreachable ∷ []

-- segments one after another; control does not pass the last
abbrev pub segments_code : Module → List Segment → List Instr
segments_code m [] = Unreachable ∷ []
segments_code m (segment ∷ later) =
    effects_code segment.effects ++ next_code m segment.next (segments_code m later)
