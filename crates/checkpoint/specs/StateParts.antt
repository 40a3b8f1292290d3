-- A module with other parts in place of its own.
use Rattle.std.specs.Prelude.{None}
use Rattle.wasm_syntax.specs.declared.modules.Module.{Module}
use Rattle.checkpoint.specs.declared.state_modules.SegmentParts.{SegmentParts}
use Rattle.checkpoint.specs.declared.state_modules.StoreParts.{StoreParts}

-- the module with other tables, memories, globals and segments, and without a start function
abbrev pub with_parts : Module → StoreParts → SegmentParts → Module
with_parts m store segments =
    record m {
      tables = store.tables;
      memories = store.memories;
      globals = store.globals;
      start = None;
      elems = segments.elems;
      datas = segments.datas;
    }
