use Rattle.std.proofs.Common.{length, ap, ◌∙◌}
use Rattle.wasm_syntax.specs.Index.{all_globals}
use Rattle.pair_ends.proofs.EndsThere.{globals_imported}
use Rattle.pair_ends.proofs.types.imported_globals.Goals as goal

pub returns : goal.returns
returns c =
    globals_imported c.args.«module».now _ _
    (ap length c.globals-all.ensures ∙ ap (λ m. length (all_globals m)) c.requires) (ap length c.as_slice-own.ensures)
