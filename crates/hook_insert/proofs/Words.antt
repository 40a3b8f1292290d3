-- The numbers in what bytes encode are words.
use Rattle.std.proofs.Common.{◌≡◌, ℕ, ◌+◌, ◌^◌, ◌≤◌, List, ◌++◌, [], ◌∷◌, length, map, Option, Some, None, arith}
use Rattle.std.specs.List.{cons_option}
use Rattle.std.proofs.lemmas.List.{length-append, length-map}
use Rattle.wasm_syntax.specs.declared.forms.Form.TheVariants.{Core}
use Rattle.wasm_syntax.specs.declared.modules.Global.{Global}
use Rattle.wasm_syntax.specs.declared.modules.Import.{Import}
use Rattle.wasm_syntax.specs.declared.modules.Module.{Module}
use Rattle.wasm_syntax.specs.Encoding.Laws.{EncodedIsEncodable, NoneIsShorter}
use Rattle.wasm_syntax.specs.Encoding.Modules.{code_of}
use Rattle.wasm_syntax.specs.Encoding.Shortest.{encoding_of}
use Rattle.wasm_syntax.specs.Index.{all_globals, global_import, imported_globals, of_kind}
use Rattle.wasm_syntax.specs.ListsWithin.{ListsAreWithinEncoding}
use Rattle.wasm_syntax.proofs.SectionLists.{part}
use Rattle.wasm_syntax.proofs.VectorLists.{globals_few}
use Rattle.instrumented_module_laws.specs.Laws.{EncodableHaveWords}
use Rattle.hook_insert.specs.EncodingLaws.{FilesAreOfWords}

-- one more import adds at most one of a kind
kind_most : {K : Type 0} (o : Option K) (xs : List K) → length (cons_option o xs) ≤ length xs + 1
kind_most None xs = omega arith
kind_most (Some x) xs = omega arith

imported_most : (imports : List Import) → length (of_kind global_import imports) ≤ length imports
imported_most [] = omega arith
imported_most (i ∷ imports) =
    omega (arith, imported_most imports, kind_most (global_import i.kind) (of_kind global_import imports))

module _ (encodable : EncodedIsEncodable) (least : NoneIsShorter) (within : ListsAreWithinEncoding)
    (words : EncodableHaveWords) where
  pub files_are_of_words : FilesAreOfWords
  files_are_of_words bytes m h few =
      let lists = within Core bytes m h in
      let short : length (encoding_of m) ≤ length bytes = least Core bytes m h in
      let own = globals_few m in
      let imported = imported_most m.imports in
      let all = length-append (of_kind global_import m.imports) (map (λ (g : Global). g.ty) m.globals) in
      let count = length-map m.globals (λ (g : Global). g.ty) in
      let parts = lists.parts in
      let funcs = lists.funcs in
      words m (encodable Core bytes m h) (omega (arith, funcs, few)) (all_few m bytes few short own imported all count parts)
    where
      all_few : (m : Module) (bytes : List ℕ) → length bytes ≤ 2 ^ 31 → length (encoding_of m) ≤ length bytes
          → length m.globals ≤ length (encoding_of m) → length (of_kind global_import m.imports) ≤ length m.imports
          → length (all_globals m) ≡ length (of_kind global_import m.imports) + length (map (λ (g : Global). g.ty) m.globals)
          → length (map (λ (g : Global). g.ty) m.globals) ≡ length m.globals
          → length m.types + length m.imports + length m.funcs ≤ length bytes
          → length (all_globals m) ≤ 2 ^ 32
      all_few m bytes few short own imported all count parts = omega (arith, few, short, own, imported, all, count, parts)
