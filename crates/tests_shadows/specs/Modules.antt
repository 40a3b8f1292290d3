-- The module of these tests.
use Rattle.std.specs.Prelude.{ℕ, List, [], ◌∷◌, None}
use Rattle.wasm_syntax.specs.declared.values.ValType.TheVariants.{I32}
use Rattle.wasm_syntax.specs.declared.instructions.Instr.TheVariants.{Const, End}
use Rattle.wasm_syntax.specs.EmptyModule.{empty_module}
use Rattle.wasm_syntax.specs.declared.modules.Module.{Module}
use Rattle.host_script.specs.declared.scripts.Supply.{Supply}

-- a memory of `pages` pages with bytes from an offset on, and a table of `entries` empty entries
abbrev pub module_with : (pages entries offset : ℕ) → List ℕ → Module
module_with pages entries offset bytes =
    record empty_module {
      tables = record { min = entries; max = None } ∷ [];
      memories = record { min = pages; max = None } ∷ [];
      datas = record { memory = 0; offset = Const (record { ty = I32; bits = offset }) ∷ End ∷ []; bytes = bytes } ∷ [];
    }

-- a supply without parts
abbrev pub nothing : Supply
nothing = record { memory = None; table = None; globals = [] }
