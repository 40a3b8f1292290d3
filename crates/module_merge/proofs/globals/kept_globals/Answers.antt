use Rattle.std.proofs.Common.{◌≡◌, ◌++◌, map, ap, ◌∙◌}
use Rattle.std.specs.List.{zip}
use Rattle.std.proofs.lemmas.Result.{IfOk-weaker}
use Rattle.wasm_syntax.specs.declared.modules.Module.{Module}
use Rattle.history_spec.specs.Instantiation.{global_value}
use Rattle.replay_module_spec.specs.Merge.{supplied_global}
use Rattle.module_merge.specs.Parts.{kept_globals}
use Rattle.module_merge.proofs.Zips.{all_kept}
use Rattle.module_merge.proofs.globals.kept_globals.Goals as goal

pub returns : goal.returns
returns c =
    let types = c.globals.result.now in
    let values = c.as_slice-2.result.now in
    let m = c.args.scope.now in
    let imported = c.args.imported.now in
    IfOk-weaker c.valued_globals.result (λ globals. globals ≡ map supplied_global (zip types values))
    (λ globals. globals ≡ kept_globals m imported)
    (λ globals made. made
    ∙ all_kept m imported types values c.globals.ensures
    (c.as_slice-2.ensures.value ∙ c.in_ok-values.ensures
    ∙ ap (λ own. imported ++ map (global_value imported) own)
    (c.as_slice.ensures ∙ ap (λ (m : Module). m.globals) c.module.ensures))
    c.requires)
    c.valued_globals.ensures
