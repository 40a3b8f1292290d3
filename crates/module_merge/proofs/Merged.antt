-- The module made from the parts of a replay module is that replay module.
use Rattle.std.proofs.Common.{◌≡◌, List, [], ◌∷◌, length, map, option_map, append_assoc, sym, ◌∙◌}
use Rattle.std.specs.Option.{option_to_list}
use Rattle.std.specs.List.{zip}
use Rattle.std.proofs.lemmas.List.{length-map}
use Rattle.wasm_syntax.specs.declared.values.Val.{Val}
use Rattle.wasm_syntax.specs.declared.modules.Module.{Module}
use Rattle.wasm_syntax.specs.Index.{imported_globals}
use Rattle.host_script.specs.declared.scripts.Supply.{Supply}
use Rattle.history_spec.specs.Instantiation.{memory_limits, table_limits}
use Rattle.type_safety.specs.Stores.{func_count}
use Rattle.type_safety.specs.Supplies.{IsSupply}
use Rattle.type_safety.proofs.Values.{length_values}
use Rattle.replay_module_spec.specs.declared.fragments.Fragment.{Fragment}
use Rattle.replay_module_spec.specs.Merge.{constant_global, layout_section, memory_written, replay_module, supplied_global}
use Rattle.module_merge.specs.Parts.{kept_globals, module_of_parts}
use Rattle.module_merge.specs.declared.modules.Code.{Code}
use Rattle.module_merge.specs.declared.modules.Segments.{Segments}
use Rattle.module_merge.specs.declared.modules.Outline.{Outline}

pub same_length : (m : Module) (supply : Supply) → IsSupply m supply
    → length (imported_globals m) ≡ length supply.globals
same_length m supply is =
    sym (length-map (imported_globals m) (λ g. g.ty))
    ∙ sym (length_values (func_count m) (map (λ g. g.ty) (imported_globals m)) supply.globals is.globals)

pub merged : (m : Module) (supply : Supply) (fragment : Fragment) (outline : Outline) (code : Code)
    (segments : Segments) (imported : List Val)
    → outline.tables ≡ option_to_list (table_limits m supply)
    → outline.memories ≡ option_to_list (option_map memory_written (memory_limits m supply))
    → outline.globals ≡ kept_globals m supply.globals
    → outline.customs ≡ layout_section m ∷ []
    → code.types ≡ m.types → code.funcs ≡ m.funcs
    → segments.elems ≡ m.elems → segments.datas ≡ m.datas → imported ≡ supply.globals
    → module_of_parts outline code segments imported fragment ≡ replay_module m supply fragment
merged m supply fragment outline code segments imported tables memories globals customs types funcs elems datas same =
    let all = append_assoc (map supplied_global (zip (imported_globals m) supply.globals))
    (map (constant_global supply.globals) m.globals) fragment.globals in
    cc
