-- A guarded module by its parts.
use Rattle.std.specs.Prelude.{ℕ, List, [], ◌∷◌, ◌++◌, length}
use Rattle.wasm_syntax.specs.declared.signatures.FuncType.{FuncType}
use Rattle.wasm_syntax.specs.declared.modules.Custom.{Custom}
use Rattle.wasm_syntax.specs.declared.modules.Export.{Export}
use Rattle.wasm_syntax.specs.declared.modules.Func.{Func}
use Rattle.wasm_syntax.specs.declared.modules.Global.{Global}
use Rattle.wasm_syntax.specs.declared.modules.Module.{Module}
use Rattle.history_spec.specs.Projection.{Layout}
use Rattle.guarded_module_spec.specs.declared.numbers.Numbers.{Numbers}
use Rattle.guarded_module_spec.specs.GuardedModules.{appended_funcs, funcs_in_places, guard_section, original_funcs, own_globals, own_types}
use Rattle.guard_maker.specs.declared.modules.Code.{Code}
use Rattle.guard_maker.specs.declared.modules.Kept.{Kept}
use Rattle.guard_maker.specs.Parts.{guarded_funcs_of}

-- types, globals and custom sections with those of the guarded module's own, around its functions
abbrev pub with_own_parts : List FuncType → List Func → List Global → List Custom → (words : ℕ) → Code
with_own_parts types funcs globals customs words =
    record {
      types = types ++ own_types;
      funcs = funcs;
      globals = globals ++ own_globals words;
      customs = customs ++ guard_section ∷ [];
    }

-- the changed parts of the guarded module
abbrev pub code_of : Code → Numbers → Layout → (entry : ℕ) → List ℕ → Code
code_of code n layout entry words =
    with_own_parts code.types
    (guarded_funcs_of code.types n entry words (funcs_in_places layout code.funcs) (original_funcs layout code.funcs)
    (appended_funcs layout code.funcs))
    code.globals code.customs (length words)

-- the module of its changed parts, of those that it keeps, and of its exports
abbrev pub module_of_parts : Code → Kept → List Export → Module
module_of_parts code kept exports =
    record {
      types = code.types;
      imports = kept.imports;
      funcs = code.funcs;
      tables = kept.tables;
      memories = kept.memories;
      globals = code.globals;
      exports = exports;
      start = kept.start;
      elems = kept.elems;
      datas = kept.datas;
      customs = code.customs;
    }
