-- Globals with their values, those of the original after the imported ones.
use Rattle.std.proofs.Common.{◌≡◌, List, [], ◌∷◌, ◌++◌, length, map, refl, ap, ◌∙◌, arith}
use Rattle.std.specs.List.{zip}
use Rattle.wasm_syntax.specs.declared.values.Val.{Val}
use Rattle.wasm_syntax.specs.declared.signatures.GlobalType.{GlobalType}
use Rattle.wasm_syntax.specs.declared.modules.Global.{Global}
use Rattle.wasm_syntax.specs.declared.modules.Module.{Module}
use Rattle.wasm_syntax.specs.Index.{all_globals, imported_globals}
use Rattle.history_spec.specs.Instantiation.{global_value}
use Rattle.replay_module_spec.specs.Merge.{constant_global, supplied_global}
use Rattle.module_merge.specs.Parts.{kept_globals}

own_globals : (imported : List Val) (globals : List Global)
    → map supplied_global (zip (map (λ g. g.ty) globals) (map (global_value imported) globals))
    ≡ map (constant_global imported) globals
own_globals imported [] = refl
own_globals imported (g ∷ globals) = ap (λ rest. constant_global imported g ∷ rest) (own_globals imported globals)

all_globals_kept : (imported : List Val) (types : List GlobalType) (values : List Val) (globals : List Global)
    → length types ≡ length values
    → map supplied_global (zip (types ++ map (λ g. g.ty) globals) (values ++ map (global_value imported) globals))
    ≡ map supplied_global (zip types values) ++ map (constant_global imported) globals
all_globals_kept imported [] [] globals h = own_globals imported globals
all_globals_kept imported (ty ∷ types) (value ∷ values) globals h =
    ap (λ rest. supplied_global (ty, value) ∷ rest)
    (all_globals_kept imported types values globals (omega (arith, h)))
all_globals_kept imported (ty ∷ types) [] globals h = cc
all_globals_kept imported [] (value ∷ values) globals h = cc

pub all_kept : (m : Module) (imported : List Val) (types : List GlobalType) (values : List Val)
    → types ≡ all_globals m → values ≡ imported ++ map (global_value imported) m.globals
    → length (imported_globals m) ≡ length imported
    → map supplied_global (zip types values) ≡ kept_globals m imported
all_kept m imported types values own_types own_values same =
    ap (λ t. map supplied_global (zip t values)) own_types
    ∙ ap (λ v. map supplied_global (zip (all_globals m) v)) own_values
    ∙ all_globals_kept imported (imported_globals m) imported m.globals same
