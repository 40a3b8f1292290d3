-- The instrumented module of a module that has an encoding has an encoding.
use Rattle.std.proofs.Common.{◌≡◌, ℕ, ◌+◌, ◌<◌, List, map, arith}
use Rattle.std.specs.List.{AllByRecursion}
use Rattle.std.proofs.lemmas.List.{length-append, length-map}
use Rattle.std.proofs.lemmas.List.Elements.{All-weaker, recursion_from_All}
use Rattle.base.proofs.Lists.{joined_all}
use Rattle.wasm_syntax.specs.declared.forms.Form.{Form}
use Rattle.wasm_syntax.specs.declared.forms.Form.TheVariants.{Replay}
use Rattle.wasm_syntax.specs.declared.modules.Export.{Export}
use Rattle.wasm_syntax.specs.declared.modules.Func.{Func}
use Rattle.wasm_syntax.specs.declared.modules.Module.{Module}
use Rattle.wasm_syntax.specs.Encoding.Encodable.{FitsFuncType, FitsImport, IsEncodable}
use Rattle.wasm_syntax.specs.Encoding.Forms.{IsOfTableZero}
use Rattle.wasm_syntax.specs.Encoding.Laws.{CoreIsInReplay}
use Rattle.wasm_syntax.specs.Index.{func_import, imported_funcs, of_kind}
use Rattle.wasm_syntax.specs.Laws.{BodiesAreRead}
use Rattle.wasm_syntax.specs.Validity.{IsElem, IsValid}
use Rattle.wasm_syntax.proofs.ValidParts.{elem_of_zero}
use Rattle.wasm_flat.specs.Sizes.{IsShort, list_limit}
use Rattle.record_replay_spec.specs.Hooks.{hooks}
use Rattle.record_replay_spec.specs.Instrumented.{hook_import, hook_types, instrumented_module}
use Rattle.record_replay_spec.specs.HookLaws.{BodiesAreInstrumented}
use Rattle.hook_insert.specs.Functions.{IsInsertable}
use Rattle.hook_insert.specs.Sites.{IsLowElem, IsLowKind}
use Rattle.hook_insert.proofs.Few.{few_params}
use Rattle.hook_insert.proofs.Low.{insertable_funcs, low_numbers}
use Rattle.hook_insert.specs.EncodingLaws.{InstrumentedAreEncodable}
use Rattle.hook_insert.proofs.EncodedBodies.{funcs_fit}
use Rattle.hook_insert.proofs.Parts.{elems_fit, exports_fit, hook_imports_fit, hook_types_fit, section_text, start_fits}

module _ (read : BodiesAreRead) (bodies : BodiesAreInstrumented) where
  same_form : (form : Form) (m : Module) (digest : List ℕ) → IsEncodable form m → IsValid m → IsShort m
      → IsEncodable form (instrumented_module m digest)
  same_form form m digest fits valid short =
      let all = length-append (of_kind func_import m.imports) (map (λ (f : Func). f.ty) m.funcs) in
      let count = length-map m.funcs (λ (f : Func). f.ty) in
      let few = short.funcs in
      let low = low_numbers m short.funcs valid short in
      record {
        types = joined_all FitsFuncType m.types hook_types fits.types hook_types_fit;
        imports = joined_all FitsImport m.imports (map (hook_import m) hooks) fits.imports (hook_imports_fit m short.types hooks);
        funcs =
            funcs_fit read bodies form m (omega (arith, all, few)) fits.types (few_params m short.quantities) (imported_funcs m)
            m.funcs (omega (arith, all, count, few)) fits.funcs
            (recursion_from_All (IsInsertable m) m.funcs (insertable_funcs m short.funcs valid short));
        tables = fits.tables;
        memories = fits.memories;
        globals = fits.globals;
        exports =
            exports_fit (imported_funcs m) m.exports fits.exports
            (recursion_from_All (λ (e : Export). IsLowKind e.kind) m.exports low.exports);
        start = start_fits (imported_funcs m) m.start low.start;
        elems = elems_fit (imported_funcs m) form m.elems fits.elems (recursion_from_All IsLowElem m.elems low.elems);
        datas = fits.datas;
        customs = (section_text, tt);
      }

  pub instrumented_are_encodable : CoreIsInReplay → InstrumentedAreEncodable
  instrumented_are_encodable in_replay = record {
    same_form = same_form;
    core_form = λ m digest fits valid short.
        same_form Replay m digest
        (in_replay m fits
        (recursion_from_All IsOfTableZero m.elems
        (All-weaker (IsElem m) IsOfTableZero (elem_of_zero m valid.outside.one_table) m.elems valid.outside.elems)))
        valid short;
  }
