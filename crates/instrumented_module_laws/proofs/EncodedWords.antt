-- The values that hooks report of modules with short encodings are words.
use Rattle.std.proofs.Common.{suc, ◌≤◌, List, [], ◌∷◌, length, map, Option, Some, None, arith, length-append}
use Rattle.std.specs.List.{cons_option}
use Rattle.std.proofs.lemmas.List.{length-map}
use Rattle.wasm_syntax.specs.declared.forms.Form.TheVariants.{Core}
use Rattle.wasm_syntax.specs.declared.modules.Global.{Global}
use Rattle.wasm_syntax.specs.declared.modules.Import.{Import}
use Rattle.wasm_syntax.specs.declared.modules.ImportKind.{ImportKind}
use Rattle.wasm_syntax.specs.declared.modules.Module.{Module}
use Rattle.wasm_syntax.specs.Encoding.Laws.{EncodedIsEncodable, NoneIsShorter}
use Rattle.wasm_syntax.specs.Encoding.Sections.{GlobalSection, ImportSection}
use Rattle.wasm_syntax.specs.Encoding.Shortest.{encoding_of, global_bytes, import_bytes, unless_empty}
use Rattle.wasm_syntax.specs.Index.{all_globals, global_import, imported_globals, of_kind}
use Rattle.wasm_syntax.proofs.Encoding.NotEmpty.{global_bytes_some, import_bytes_some}
use Rattle.wasm_syntax.specs.ListsWithin.{ListsAreWithinEncoding}
use Rattle.wasm_syntax.proofs.ItemLists.{items_some, list_least}
use Rattle.wasm_syntax.proofs.SectionLists.{encoding_parts, part_is, vectors}
use Rattle.instrumented_module_laws.specs.Laws.{EncodableHaveWords}
use Rattle.instrumented_module_laws.specs.SizeLaws.{EncodedHaveWords, GlobalsAreWithinEncoding}

imported_most : {K : Type 0} (pick : ImportKind → Option K) (imports : List Import)
    → length (of_kind pick imports) ≤ length imports
imported_most pick [] = omega arith
imported_most {K = K} pick (i ∷ imports) = by (pick i.kind) (imported_most pick imports)
  where
    by : (o : Option K) → length (of_kind pick imports) ≤ length imports
        → length (cons_option o (of_kind pick imports)) ≤ suc (length imports)
    by None rest = omega (arith, rest)
    by (Some x) rest = omega (arith, rest)

-- a module has at most as many globals as its shortest encoding has bytes
globals_most : (m : Module) → length (all_globals m) ≤ length (encoding_of m)
globals_most m = omega (
  arith,
  length-append (imported_globals m) (map (λ (g : Global). g.ty) m.globals),
  length-map m.globals (λ (g : Global). g.ty),
  imported_most global_import m.imports,
  encoding_parts m,
  part_is (unless_empty ImportSection m.imports),
  list_least ImportSection import_bytes vectors.imports m.imports,
  items_some import_bytes import_bytes_some m.imports,
  part_is (unless_empty GlobalSection m.globals),
  list_least GlobalSection global_bytes vectors.globals m.globals,
  items_some global_bytes global_bytes_some m.globals,
)

pub encoded_have_words : EncodableHaveWords → ListsAreWithinEncoding → EncodedIsEncodable → NoneIsShorter
    → EncodedHaveWords
encoded_have_words words lists encodable least bytes m encodes few =
    let funcs = (lists Core bytes m encodes).funcs in
    let globals = globals_most m in
    let shortest = least Core bytes m encodes in
    words m (encodable Core bytes m encodes) (omega (arith, funcs, few)) (omega (arith, globals, shortest, few))

pub globals_within_encoding : NoneIsShorter → GlobalsAreWithinEncoding
globals_within_encoding least bytes m encodes =
    let globals = globals_most m in
    let shortest = least Core bytes m encodes in omega (arith, globals, shortest)
