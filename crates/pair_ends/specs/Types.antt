-- What globals of a module are initialised with.
use Rattle.std.specs.Prelude.{ℕ, ◌-◌, List, [], length, slice_get}
use Rattle.std.specs.Option.{option_map_or}
use Rattle.wasm_syntax.specs.declared.instructions.Instr.{Instr}
use Rattle.wasm_syntax.specs.declared.modules.Module.{Module}
use Rattle.wasm_syntax.specs.declared.modules.Global.{Global}
use Rattle.pair_spec.specs.Pairs.{Globals, imports_in}

-- the body with which the global of an index is initialised, if it is a defined one
abbrev pub global_init : Module → (index : ℕ) → List Instr
global_init m index =
    option_map_or (λ (g : Global). g.init) (slice_get m.globals (index - length (imports_in Globals m))) []
