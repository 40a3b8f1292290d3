-- The module of these tests.
use Rattle.std.specs.Prelude.{◌≡◌, [], None}
use Rattle.wasm_syntax.specs.declared.modules.Module.{Module}
use Rattle.host_script.specs.declared.scripts.Supply.{Supply}

-- a module without imports, globals and segments
pub record IsBare (m : Module) : Type 0 where
  pub imports : m.imports ≡ []
  pub globals : m.globals ≡ []
  pub elems : m.elems ≡ []
  pub datas : m.datas ≡ []

-- a supply without parts
abbrev pub nothing : Supply
nothing = record { memory = None; table = None; globals = [] }
