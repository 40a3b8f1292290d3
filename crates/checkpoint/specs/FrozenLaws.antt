-- The law of frozen states: what is frozen where something is known has just the known state.
use Rattle.std.specs.Prelude.{◌≡◌, length}
use Rattle.wasm_syntax.specs.declared.modules.Module.{Module}
use Rattle.wasm_syntax.specs.Index.{all_globals, imported_funcs}
use Rattle.history_spec.specs.Store.{Store}
use Rattle.record_replay_spec.specs.Known.{Known}
use Rattle.recorder.specs.FrozenViews.{FrozenView, ShowsFrozen}
use Rattle.rest_spec.specs.KnownStates.{state_of_known}
use Rattle.rest_laws.specs.KnownStores.{IsKnownStore}
use Rattle.rest_laws.specs.TopEnters.{renumbered_known}
use Rattle.checkpoint.specs.FrozenStates.{state_of_frozen}

-- what is frozen of the instrumented module of a module, and shows what is known, with functions renumbered, has the
-- known state, if what is known makes a store of the module
abbrev pub FrozenStatesAreKnown : Type 0
FrozenStatesAreKnown =
    (m : Module) (store : Store) (known : Known) (frozen : FrozenView)
    → IsKnownStore m store known → ShowsFrozen frozen (renumbered_known (imported_funcs m) known)
    → frozen.imports ≡ imported_funcs m → state_of_frozen frozen ≡ state_of_known (length (all_globals m)) known
