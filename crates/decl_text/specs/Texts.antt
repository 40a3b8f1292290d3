-- What the text of declarations means for a module. Each refusal is looked for in the whole text before the next one:
-- the form of the text, an import from `foreign`, a name that is taken.
use Rattle.std.specs.Prelude.{ℕ, suc, ◌+◌, List, [], ◌∷◌, ◌++◌, map, codes, nat_lt, Option, Some, None, option_and_then, Result, Ok, Err, if◌then◌else◌, ⊤}
use Rattle.std.specs.Str.{is_utf8, bytes_eq}
use Rattle.std.specs.List.{list_any}
use Rattle.wasm_syntax.specs.declared.limits.TheConstants.{MAX_PARAMETERS}
use Rattle.wasm_syntax.specs.declared.values.ValType.{ValType}
use Rattle.wasm_syntax.specs.declared.values.ValType.TheVariants.{I32, I64, F32, F64}
use Rattle.wasm_syntax.specs.declared.modules.Module.{Module}
use Rattle.wasm_syntax.specs.declared.modules.Import.{Import}
use Rattle.module_names.specs.Names.{is_from}
use Rattle.instance_spec.specs.declared.decls.Decl.{Decl}
use Rattle.serde_json.specs.Data.{Data, Items, no_items, item}
use Rattle.serde_json.specs.Find.{as_array, as_str}
use Rattle.serde_json.specs.Read.{read}
use Rattle.decl_text.specs.declared.faults.DeclFault.{DeclFault}
use Rattle.decl_text.specs.declared.faults.DeclFault.TheVariants.{NotJson, Shape, Reserved, Taken}
use Rattle.decl_text.specs.Walk.{◌>>=◌, or_shape, only, under, items_from}

-- ---- types

-- the value type that has this name
abbrev pub type_named : List ℕ → Option ValType
type_named name =
    if bytes_eq name (codes "i32") then Some I32
    else if bytes_eq name (codes "i64") then Some I64
    else if bytes_eq name (codes "f32") then Some F32
    else if bytes_eq name (codes "f64") then Some F64
    else None

-- the value type that a text names
abbrev pub type_of : Data → Result ValType DeclFault
type_of d = or_shape (option_and_then type_named (as_str d))

-- the number of items
abbrev pub count_of : Items → ℕ
count_of no_items = 0
count_of (item d ds) = suc (count_of ds)

-- a list of at most a number of types; a longer one has the wrong form itself, whatever its items are
abbrev pub types_in : (most : ℕ) → Option Items → Result (List ValType) DeclFault
types_in most None = Err (Shape [])
types_in most (Some ds) = if nat_lt most (count_of ds) then Err (Shape []) else items_from type_of 0 ds

abbrev pub types_of : (most : ℕ) → Data → Result (List ValType) DeclFault
types_of most d = types_in most (as_array d)

-- ---- declarations

abbrev pub text_of : Data → Result (List ℕ) DeclFault
text_of d = or_shape (as_str d)

-- a declaration: a name, at most 1,000 parameters, and at most one result
unfoldable pub decl_of : Data → Result Decl DeclFault
decl_of d = do
  _ ← only (codes "name" ∷ codes "params" ∷ codes "results" ∷ []) d
  name ← under (codes "name") text_of d
  params ← under (codes "params") (types_of MAX_PARAMETERS) d
  results ← under (codes "results") (types_of 1) d
  Ok (record { name = name; ty = record { params = params; results = results } })

abbrev pub decls_in : Option Items → Result (List Decl) DeclFault
decls_in None = Err (Shape [])
decls_in (Some ds) = items_from decl_of 0 ds

-- declarations that have the right form
abbrev pub list_of_decls : Data → Result (List Decl) DeclFault
list_of_decls d = decls_in (as_array d)

-- ---- names

-- the place of the first import from `foreign`, from a place on
abbrev pub first_reserved : ℕ → List Import → Option ℕ
first_reserved place [] = None
first_reserved place (import ∷ imports) =
    if is_from (codes "foreign") import then Some place else first_reserved (place + 1) imports

-- the first declared name that is one of these or that of an earlier declaration
abbrev pub first_taken : (names : List (List ℕ)) → List Decl → Option (List ℕ)
first_taken names [] = None
first_taken names (d ∷ decls) =
    if list_any (λ name. bytes_eq name d.name) names then Some d.name else first_taken (names ++ d.name ∷ []) decls

-- the names of a module's exports
abbrev pub export_names : Module → List (List ℕ)
export_names m = map (λ export. export.name) m.exports

-- the fault of what was found, if something was
abbrev pub refuse : {A : Type 0} → (A → DeclFault) → Option A → Result ⊤ DeclFault
refuse fault None = Ok tt
refuse fault (Some a) = Err (fault a)

-- ---- texts

-- the declarations that a JSON value means for a module
unfoldable pub decls_of : Module → Data → Result (List Decl) DeclFault
decls_of m d = do
  decls ← list_of_decls d
  _ ← refuse Reserved (first_reserved 0 m.imports)
  _ ← refuse Taken (first_taken (export_names m) decls)
  Ok decls

abbrev pub decls_read : Module → Option Data → Result (List Decl) DeclFault
decls_read m None = Err NotJson
decls_read m (Some d) = decls_of m d

-- the declarations that bytes mean for a module, or the first fault
abbrev pub decls_of_text : Module → List ℕ → Result (List Decl) DeclFault
decls_of_text m bytes = if is_utf8 bytes then decls_read m (read bytes) else Err NotJson
