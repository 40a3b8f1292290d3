-- The widened module, in which declared functions of the host are imports.
use Rattle.std.specs.Prelude.{ℕ, ◌+◌, List, [], ◌∷◌, ◌++◌, length, map, codes, option_map}
use Rattle.wasm_syntax.specs.declared.modules.Module.{Module}
use Rattle.wasm_syntax.specs.declared.modules.Func.{Func}
use Rattle.wasm_syntax.specs.declared.modules.Import.{Import}
use Rattle.wasm_syntax.specs.declared.modules.ImportKind.TheVariants.{Func as FuncImport}
use Rattle.wasm_syntax.specs.declared.modules.Export.{Export}
use Rattle.wasm_syntax.specs.declared.modules.ExportKind.{ExportKind}
use Rattle.wasm_syntax.specs.declared.modules.ExportKind.TheVariants.{Func as FuncExport}
use Rattle.wasm_syntax.specs.declared.modules.ElemSeg.{ElemSeg}
use Rattle.wasm_syntax.specs.declared.modules.ElemSeg.TheVariants.{Active, Declared}
use Rattle.wasm_syntax.specs.Index.{imported_funcs}
use Rattle.instance_spec.specs.declared.decls.Decl.{Decl}
use Rattle.instance_spec.specs.Instances.{Instance, resolved_instr}
use Rattle.instance_spec.specs.ForeignRuns.{numbers}

-- a function with all indices in its body resolved
abbrev pub renamed_func : Instance → Func → Func
renamed_func i func = record func { body = map (resolved_instr i) func.body }

-- what an export names
abbrev pub renamed_kind : Instance → ExportKind → ExportKind
renamed_kind i (FuncExport func) = FuncExport (i.funcs func)
renamed_kind i kind = kind

-- an export
abbrev pub renamed_export : Instance → Export → Export
renamed_export i export = record export { kind = renamed_kind i export.kind }

-- an element segment
abbrev pub renamed_elem : Instance → ElemSeg → ElemSeg
renamed_elem i (Active table offset funcs) = Active table offset (map i.funcs funcs)
renamed_elem i (Declared funcs) = Declared (map i.funcs funcs)

-- the imports of declared functions, whose types are one after another from this index on
abbrev pub foreign_imports : (ty : ℕ) → List Decl → List Import
foreign_imports ty [] = []
foreign_imports ty (d ∷ decls) =
    record { «module» = codes "foreign"; name = d.name; kind = FuncImport ty } ∷ foreign_imports (ty + 1) decls

-- the exports of declared functions, which are one after another from this index on
abbrev pub foreign_exports : (func : ℕ) → List Decl → List Export
foreign_exports func [] = []
foreign_exports func (d ∷ decls) =
    record { name = d.name; kind = FuncExport func } ∷ foreign_exports (func + 1) decls

-- the module with an import from `foreign` and an export of its name for each declared function, behind all others;
-- each function has its number wherever it is named, the declared types come last, and all else stays
abbrev pub widened : Module → List Decl → Module
widened m decls =
    let i = numbers m (length decls) in
    record m {
      types = m.types ++ map (λ (d : Decl). d.ty) decls;
      imports = m.imports ++ foreign_imports (length m.types) decls;
      funcs = map (renamed_func i) m.funcs;
      exports = map (renamed_export i) m.exports ++ foreign_exports (imported_funcs m) decls;
      start = option_map i.funcs m.start;
      elems = map (renamed_elem i) m.elems;
    }
