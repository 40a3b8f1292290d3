-- Widened modules are valid.
use Rattle.std.proofs.Common.{◌≡◌, ℕ, ◌+◌, ◌<◌, ◌≤◌, List, [], ◌∷◌, ◌++◌, length, map, reverse, Option, Some, None, nat_lt, nat_eq, slice_get, option_map, option_and_then, All, sym, ap, ◌∙◌, subst, arith, length-append, inl, inr}
use Rattle.std.specs.Prelude.{IfSome, is_some}
use Rattle.std.specs.List.{AllByRecursion, list_any}
use Rattle.std.proofs.lemmas.Bool.{cases_lt}
use Rattle.std.proofs.lemmas.Bool.Decides.{nat_tests}
use Rattle.std.proofs.lemmas.List.{length-map}
use Rattle.std.proofs.lemmas.List.Elements.{All-from_recursion, All-append, All-map, All-weaker}
use Rattle.std.proofs.lemmas.Option.{slice_get_within}
use Rattle.base.proofs.Booleans.{and_parts, and_true}
use Rattle.base.proofs.Lists.{item_there}
use Rattle.base.proofs.Options.{and_then_some}
use Rattle.wasm_syntax.specs.declared.values.ValType.{ValType}
use Rattle.wasm_syntax.specs.declared.values.ValType.TheVariants.{I32}
use Rattle.wasm_syntax.specs.declared.signatures.FuncType.{FuncType}
use Rattle.wasm_syntax.specs.declared.signatures.GlobalType.{GlobalType}
use Rattle.wasm_syntax.specs.declared.signatures.Limits.{Limits}
use Rattle.wasm_syntax.specs.declared.instructions.Instr.{Instr}
use Rattle.wasm_syntax.specs.declared.instructions.Instr.TheVariants.{Const, GlobalGet}
use Rattle.wasm_syntax.specs.declared.modules.Module.{Module}
use Rattle.wasm_syntax.specs.declared.modules.Func.{Func}
use Rattle.wasm_syntax.specs.declared.modules.Import.{Import}
use Rattle.wasm_syntax.specs.declared.modules.ImportKind.{ImportKind}
use Rattle.wasm_syntax.specs.declared.modules.ImportKind.TheVariants as import
use Rattle.wasm_syntax.specs.declared.modules.Export.{Export}
use Rattle.wasm_syntax.specs.declared.modules.ExportKind.{ExportKind}
use Rattle.wasm_syntax.specs.declared.modules.ExportKind.TheVariants as export
use Rattle.wasm_syntax.specs.declared.modules.ElemSeg.{ElemSeg}
use Rattle.wasm_syntax.specs.declared.modules.ElemSeg.TheVariants.{Active, Declared}
use Rattle.wasm_syntax.specs.declared.modules.DataSeg.{DataSeg}
use Rattle.wasm_syntax.specs.Index.{of_kind, func_import, func_indices, imported_funcs, type_at, func_type, all_globals, all_tables, all_memories}
use Rattle.wasm_syntax.specs.Validity.{IsFuncType, IsImport, IsDeclaredFunc, IsGlobal, IsConstant, IsStart, IsElem, IsData, IsThere, IsValidOutside, IsTypedFunc, IsValid, single, immutable_type, constant_type, declared_funcs, body_context}
use Rattle.instance_spec.specs.declared.decls.Decl.{Decl}
use Rattle.instance_spec.specs.Instances.{Instance}
use Rattle.instance_spec.specs.Renamed.{renamed_nest}
use Rattle.instance_laws.specs.Typings.{KeepsTypes}
use Rattle.instance_spec.specs.ForeignRuns.{count_from, numbers}
use Rattle.instance_spec.specs.Widened.{renamed_func, renamed_kind, renamed_export, renamed_elem, foreign_imports, foreign_exports, widened}
use Rattle.instance_spec.specs.Laws.{AreDecls, WidenedAreValid}
use Rattle.instance_laws.proofs.DeclaredFuncs.{declared_mapped}
use Rattle.instance_laws.proofs.Typings.{typings_are_kept}
use Rattle.instance_laws.proofs.RenamedTrees.{body_kept}
use Rattle.instance_laws.proofs.Numbers.{is_below, import_number, defined_number, type_front, import_index, defined_index}
use Rattle.instance_laws.proofs.WidenedParts.{counted, indices_are, memories_are, tables_are, globals_are}

module _ (m : Module) (decls : List Decl) (valid : IsValid m) (are : AreDecls m decls) where
  abbrev i : Instance
  i = numbers m (length decls)

  abbrev wide : Module
  wide = widened m decls

  abbrev n : ℕ
  n = imported_funcs m

  abbrev q : ℕ
  q = length decls

  types_longer : length m.types ≤ length wide.types
  types_longer = let long = length-append m.types (map (λ (d : Decl). d.ty) decls) in omega (arith, long)

  -- the type index of a function, at its number
  index_kept : (f t : ℕ) → slice_get (func_indices m) f ≡ Some t → slice_get (func_indices wide) (i.funcs f) ≡ Some t
  index_kept f t h = elim (cases_lt f n) [
    | inl low ↦
        (λ j. slice_get (indices_are m decls j) (import_number m decls f low j)) ∙ import_index m decls f t low h
    | inr past ↦
        let within = slice_get_within (func_indices m) f t h in
        let long = length-append (of_kind func_import m.imports) (map (λ (g : Func). g.ty) m.funcs) in
        let own = length-map m.funcs (λ (g : Func). g.ty) in
        let few = are.few in
        let number = defined_number m decls f past (omega (arith, within, long, own, few)) in
        (λ j. slice_get (indices_are m decls j) (number j)) ∙ defined_index m decls f t past h
  ]

  func_kept : (f : ℕ) (ty : FuncType) → func_type m f ≡ Some ty → func_type wide (i.funcs f) ≡ Some ty
  func_kept f ty h =
      let found = and_then_some (slice_get (func_indices m) f) (type_at m) ty h in
      ap (option_and_then (type_at wide)) (index_kept f found.0 found.1) ∙ type_front m decls found.0 ty found.2

  func_there : (f : ℕ) → f < length (func_indices m) → i.funcs f < length (func_indices wide)
  func_there f low =
      let found = item_there (func_indices m) f low in
      slice_get_within (func_indices wide) (i.funcs f) found.0 (index_kept f found.0 found.1)

  all_globals_are : all_globals wide ≡ all_globals m
  all_globals_are = ap (λ l. l ++ map (λ g. g.ty) m.globals) (globals_are m decls)

  tables_same : all_tables wide ≡ all_tables m
  tables_same = ap (λ l. l ++ m.tables) (tables_are m decls)

  memories_same : all_memories wide ≡ all_memories m
  memories_same =
      ap (λ l. l ++ m.memories) (memories_are m decls)

  -- ---- constant expressions

  constant_kept : (ty : ValType) (body : List Instr) → IsConstant m ty body → IsConstant wide ty body
  constant_kept ty body h = by (single body) h
    where
      by : (o : Option Instr) → option_and_then (constant_type m) o ≡ Some ty → option_and_then (constant_type wide) o ≡ Some ty
      by None h = cc
      by (Some (GlobalGet x)) h = ap (λ l. option_and_then immutable_type (slice_get l x)) (globals_are m decls) ∙ h
      by (Some (Const v)) h = h
      by (Some instr) h = h

  -- ---- one body

  holds : (ty : FuncType) (f : Func) → KeepsTypes i (body_context m ty f) (body_context wide ty (renamed_func i f))
  holds ty f =
      record {
        funcs = func_kept;
        types = type_front m decls;
        globals = λ x g h. ap (λ l. slice_get l x) all_globals_are ∙ h;
        tables = λ x h. ap (λ l. is_some (slice_get l x)) tables_same ∙ h;
        memories = λ h. ap (λ l. is_some (slice_get l 0)) memories_same ∙ h;
        declared = λ x h.
            let both = and_parts (nat_lt x (length (func_indices m))) (list_any (nat_eq x) (declared_funcs m)) h in
            let low = both.0 in
            and_true (nat_lt (i.funcs x) (length (func_indices wide))) (list_any (nat_eq (i.funcs x)) (declared_funcs wide))
            (is_below (i.funcs x) (length (func_indices wide)) (func_there x (grind (arith, nat_tests, low))))
            (declared_mapped i x m.elems m.exports (foreign_exports n decls) both.1);
      }

  typed : (f : Func) → IsTypedFunc m f → IsTypedFunc wide (renamed_func i f)
  typed f h =
      record {
        ty = h.ty;
        nest = renamed_nest i h.nest;
        has_type = type_front m decls f.ty h.ty h.has_type;
        is_body = body_kept i h.nest f.body h.is_body;
        typed =
            typings_are_kept i (body_context m h.ty f) (body_context wide h.ty (renamed_func i f)) h.nest []
            (reverse h.ty.results) (holds h.ty f) h.typed;
      }

  -- ---- the parts

  kind_there : (kind : ExportKind) → IsThere m kind → IsThere wide (renamed_kind i kind)
  kind_there (export.Func x) h = func_there x h
  kind_there (export.Table x) h = subst (λ (l : List Limits). x < length l) (sym tables_same) h
  kind_there (export.Memory x) h = subst (λ (l : List Limits). x < length l) (sym memories_same) h
  kind_there (export.Global x) h = subst (λ (l : List GlobalType). x < length l) (sym all_globals_are) h

  import_kept : (kind : ImportKind) → IsImport m kind → IsImport wide kind
  import_kept (import.Func ty) h = omega (arith, h, types_longer)
  import_kept (import.Table limits) h = h
  import_kept (import.Memory limits) h = h
  import_kept (import.Global ty) h = h

  foreign_imported : (at : ℕ) (more : List Decl) → at + length more ≡ length wide.types
      → AllByRecursion (λ (x : Import). IsImport wide x.kind) (foreign_imports at more)
  foreign_imported at [] is = tt
  foreign_imported at (d ∷ more) is = (omega (arith, is), foreign_imported (at + 1) more (omega (arith, is)))

  foreign_exported : (at : ℕ) (more : List Decl) → at + length more ≤ length (func_indices wide)
      → AllByRecursion (λ (x : Export). IsThere wide x.kind) (foreign_exports at more)
  foreign_exported at [] is = tt
  foreign_exported at (d ∷ more) is = (omega (arith, is), foreign_exported (at + 1) more (omega (arith, is)))

  funcs_there : (funcs : List ℕ) → All (λ f. f < length (func_indices m)) funcs
      → All (λ f. f < length (func_indices wide)) (map i.funcs funcs)
  funcs_there funcs h =
      All-map (λ f. f < length (func_indices wide)) i.funcs funcs
      (All-weaker (λ f. f < length (func_indices m)) (λ f. i.funcs f < length (func_indices wide)) func_there funcs h)

  elem_kept : (e : ElemSeg) → IsElem m e → IsElem wide (renamed_elem i e)
  elem_kept (Active table offset funcs) h =
      (kind_there (export.Table table) h.0, constant_kept I32 offset h.1, funcs_there funcs h.2)
  elem_kept (Declared funcs) h = funcs_there funcs h

  start_kept : (o : Option ℕ) → IfSome o (IsStart m) → IfSome (option_map i.funcs o) (IsStart wide)
  start_kept None h = h
  start_kept (Some f) h =
      record { ty = h.ty; has_type = func_kept f h.ty h.has_type; params = h.params; results = h.results }

  indices_long : length (func_indices wide) ≡ n + q + length m.funcs
  indices_long =
      let whole = ap length (indices_are m decls) in
      let first = length-append (of_kind func_import m.imports) (count_from (length m.types) q ++ map (λ (f : Func). f.ty) m.funcs) in
      let second = length-append (count_from (length m.types) q) (map (λ (f : Func). f.ty) m.funcs) in
      let middle = counted (length m.types) q in
      let own = length-map m.funcs (λ (f : Func). f.ty) in omega (arith, whole, first, second, middle, own)

  types_long : length wide.types ≡ length m.types + q
  types_long =
      let long = length-append m.types (map (λ (d : Decl). d.ty) decls) in
      let own = length-map decls (λ (d : Decl). d.ty) in omega (arith, long, own)

  outside : IsValidOutside wide
  outside =
      record {
        types =
            All-append IsFuncType m.types (map (λ (d : Decl). d.ty) decls) valid.outside.types
            (All-map IsFuncType (λ (d : Decl). d.ty) decls are.types);
        imports =
            All-append (λ (x : Import). IsImport wide x.kind) m.imports (foreign_imports (length m.types) decls)
            (All-weaker (λ (x : Import). IsImport m x.kind) (λ (x : Import). IsImport wide x.kind)
            (λ x h. import_kept x.kind h) m.imports valid.outside.imports)
            (All-from_recursion (λ (x : Import). IsImport wide x.kind) (foreign_imports (length m.types) decls)
            (foreign_imported (length m.types) decls (sym types_long)));
        funcs =
            All-map (IsDeclaredFunc wide) (renamed_func i) m.funcs
            (All-weaker (IsDeclaredFunc m) (λ f. IsDeclaredFunc wide (renamed_func i f))
            (λ f h. record { type_there = let low = h.type_there in omega (arith, low, types_longer); locals = h.locals })
            m.funcs valid.outside.funcs);
        tables = valid.outside.tables;
        memories = valid.outside.memories;
        globals =
            All-weaker (IsGlobal m) (IsGlobal wide)
            (λ g h. record { number = h.number; init = constant_kept g.ty.ty g.init h.init }) m.globals
            valid.outside.globals;
        exports =
            All-append (λ (x : Export). IsThere wide x.kind)
            (map (renamed_export i) m.exports) (foreign_exports n decls)
            (All-map (λ (x : Export). IsThere wide x.kind) (renamed_export i) m.exports
            (All-weaker (λ (x : Export). IsThere m x.kind) (λ (x : Export). IsThere wide (renamed_kind i x.kind))
            (λ x h. kind_there x.kind h) m.exports valid.outside.exports))
            (All-from_recursion (λ (x : Export). IsThere wide x.kind) (foreign_exports n decls)
            (foreign_exported n decls (omega (arith, indices_long))));
        names_differ = are.names;
        start = start_kept m.start valid.outside.start;
        elems =
            All-map (IsElem wide) (renamed_elem i) m.elems
            (All-weaker (IsElem m) (λ e. IsElem wide (renamed_elem i e)) elem_kept m.elems valid.outside.elems);
        datas =
            All-weaker (IsData m) (IsData wide)
            (λ (d : DataSeg) h. record {
              memory = kind_there (export.Memory d.memory) h.memory;
              offset = constant_kept I32 d.offset h.offset;
            }) m.datas valid.outside.datas;
        one_table = subst (λ (l : List Limits). length l ≤ 1) (sym tables_same) valid.outside.one_table;
        one_memory = subst (λ (l : List Limits). length l ≤ 1) (sym memories_same) valid.outside.one_memory;
      }

  pub wide_valid : IsValid wide
  wide_valid =
      record {
        outside = outside;
        bodies =
            All-map (IsTypedFunc wide) (renamed_func i) m.funcs
            (All-weaker (IsTypedFunc m) (λ f. IsTypedFunc wide (renamed_func i f)) typed m.funcs valid.bodies);
      }

pub widened_are_valid : WidenedAreValid
widened_are_valid m decls valid are = wide_valid m decls valid are
