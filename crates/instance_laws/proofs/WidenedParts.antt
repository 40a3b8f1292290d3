-- The imports and functions of a widened module, by kind.
use Rattle.std.proofs.Common.{◌≡◌, ℕ, zero, suc, ◌+◌, List, [], ◌∷◌, ◌++◌, length, map, refl, ap, ◌∙◌, length-append, append_assoc, append-nil}
use Rattle.wasm_syntax.specs.declared.modules.Module.{Module}
use Rattle.wasm_syntax.specs.declared.modules.Func.{Func}
use Rattle.wasm_syntax.specs.declared.modules.Import.{Import}
use Rattle.wasm_syntax.specs.Index.{of_kind, func_import, table_import, memory_import, global_import, func_indices, imported_funcs}
use Rattle.wasm_syntax.proofs.JoinedLists.{kinds_append}
use Rattle.instance_spec.specs.declared.decls.Decl.{Decl}
use Rattle.instance_spec.specs.Instances.{Instance}
use Rattle.instance_spec.specs.ForeignRuns.{count_from, numbers, foreign_code}
use Rattle.instance_spec.specs.Widened.{renamed_func, foreign_imports, widened}

pub counted : (first count : ℕ) → length (count_from first count) ≡ count
counted first zero = refl
counted first (suc count) = ap suc (counted (first + 1) count)

-- ---- the imports of declared functions

foreign_funcs : (ty : ℕ) (decls : List Decl) → of_kind func_import (foreign_imports ty decls) ≡ count_from ty (length decls)
foreign_funcs ty [] = refl
foreign_funcs ty (d ∷ decls) = ap (λ more. ty ∷ more) (foreign_funcs (ty + 1) decls)

no_memories : (ty : ℕ) (decls : List Decl) → of_kind memory_import (foreign_imports ty decls) ≡ []
no_memories ty [] = refl
no_memories ty (d ∷ decls) = no_memories (ty + 1) decls

no_tables : (ty : ℕ) (decls : List Decl) → of_kind table_import (foreign_imports ty decls) ≡ []
no_tables ty [] = refl
no_tables ty (d ∷ decls) = no_tables (ty + 1) decls

no_globals : (ty : ℕ) (decls : List Decl) → of_kind global_import (foreign_imports ty decls) ≡ []
no_globals ty [] = refl
no_globals ty (d ∷ decls) = no_globals (ty + 1) decls

-- ---- functions

pub types_kept : (i : Instance) (funcs : List Func)
    → map (λ (f : Func). f.ty) (map (renamed_func i) funcs) ≡ map (λ (f : Func). f.ty) funcs
types_kept i [] = refl
types_kept i (f ∷ funcs) = ap (λ types. f.ty ∷ types) (types_kept i funcs)

-- ---- the widened module

module _ (m : Module) (decls : List Decl) where
  abbrev wide : Module
  wide = widened m decls

  abbrev more : List Import
  more = foreign_imports (length m.types) decls

  funcs_are : of_kind func_import wide.imports ≡ of_kind func_import m.imports ++ count_from (length m.types) (length decls)
  funcs_are =
      kinds_append func_import m.imports more
      ∙ ap (λ l. of_kind func_import m.imports ++ l) (foreign_funcs (length m.types) decls)

  pub imported_is : imported_funcs wide ≡ imported_funcs m + length decls
  imported_is =
      ap length funcs_are
      ∙ length-append (of_kind func_import m.imports) (count_from (length m.types) (length decls))
      ∙ ap (λ k. imported_funcs m + k) (counted (length m.types) (length decls))

  pub indices_are : func_indices wide ≡ (foreign_code m decls).indices
  indices_are =
      (λ j. funcs_are j ++ types_kept (numbers m (length decls)) m.funcs j)
      ∙ append_assoc (of_kind func_import m.imports) (count_from (length m.types) (length decls))
      (map (λ (f : Func). f.ty) m.funcs)

  pub memories_are : of_kind memory_import wide.imports ≡ of_kind memory_import m.imports
  memories_are =
      kinds_append memory_import m.imports more
      ∙ ap (λ l. of_kind memory_import m.imports ++ l) (no_memories (length m.types) decls)
      ∙ append-nil (of_kind memory_import m.imports)

  pub tables_are : of_kind table_import wide.imports ≡ of_kind table_import m.imports
  tables_are =
      kinds_append table_import m.imports more
      ∙ ap (λ l. of_kind table_import m.imports ++ l) (no_tables (length m.types) decls)
      ∙ append-nil (of_kind table_import m.imports)

  pub globals_are : of_kind global_import wide.imports ≡ of_kind global_import m.imports
  globals_are =
      kinds_append global_import m.imports more
      ∙ ap (λ l. of_kind global_import m.imports ++ l) (no_globals (length m.types) decls)
      ∙ append-nil (of_kind global_import m.imports)
