use Rattle.std.proofs.Common.{◌≡◌, IfOk, length, sym, ap, ◌∙◌, subst}
use Rattle.wasm_syntax.specs.declared.modules.Module.{Module}
use Rattle.pair_spec.specs.Pairs.{Globals, imports_in}
use Rattle.pair_ends.specs.Types.{global_init}
use Rattle.linked_pair.proofs.global_constants.init_at.Goals as goal

pub init_of-requires : goal.init_of-requires
init_of-requires c =
    c.imported_globals-imported.ensures ∙ ap (λ (m : Module). length (imports_in Globals m)) (sym c.«module».ensures)

pub returns : goal.returns
returns c =
    subst (λ (m : Module). IfOk c.init_of.result (λ body. body ≡ global_init m c.args.index)) c.«module».ensures c.init_of.ensures
