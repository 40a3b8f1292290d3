-- The module that begins with what is known before a top-level call replays the rest of the run.
use Rattle.std.proofs.Common.{subst}
use Rattle.wasm_syntax.specs.Index.{imported_funcs}
use Rattle.replay_module_laws.specs.Laws.{ReplayModulesKeepOriginals}
use Rattle.replay_module_laws.proofs.FittingPlans.{left_length}
use Rattle.replay_module_spec.specs.Plans.{plan_of}
use Rattle.rest_spec.specs.StateModules.{state_module_of, state_supply_of}
use Rattle.rest_laws.specs.KnownStores.{KnownStoresAreTyped, known_store}
use Rattle.state_laws.specs.Code.{StateModulesHaveCode}
use Rattle.state_laws.specs.Opens.{KnownStatesAreOfStores, KnownStatesOpen}
use Rattle.state_laws.specs.Valid.{IsStateOf, StateModulesAreValid, StoresHaveStates}
use Rattle.rest_theorem.specs.Cuts.{BeginsIn, CutsArePlayable}
use Rattle.rest_theorem.specs.Laws.{RestsAreReplayed}
use Rattle.rest_theorem.specs.States.{RestsAreReplayedFromStates, state_at}

pub rests_are_replayed_from_states : RestsAreReplayed → CutsArePlayable → KnownStoresAreTyped → KnownStatesAreOfStores
    → KnownStatesOpen → StoresHaveStates → StateModulesAreValid → StateModulesHaveCode → ReplayModulesKeepOriginals
    → RestsAreReplayedFromStates
rests_are_replayed_from_states replay playable typed states opened have valid code keep m script supply store
    tape count outcome number rest can core fits links needed ends is =
    let r = replay m script supply store tape count outcome number rest can fits links needed ends is in
    let first = known_store m store r.known in
    let state = state_at m r.known in
    let stored = typed m script supply store count number rest r.known can.runnable fits links can.begins is r.is_known in
    let is_state = subst (IsStateOf m supply) (states m store r.known stored)
    (have m supply store first can.begins stored.typed stored.maxima) in
    let runs = valid m supply state (record { runnable = can.runnable; core = core; supplied = can.supplied }) is_state in
    let same = code m state in
    let begins = opened m script supply store count number rest r.known can.runnable fits links can.begins is r.is_known in
    let there : BeginsIn m (state_module_of m state) (state_supply_of supply state) first =
    record {
      runnable = runs.runnable;
      supplied = runs.supplied;
      begins = begins;
      code = same.code;
      layout = same.layout;
      start_index = same.start_index;
      fits = same.fits;
    } in
    let kept = keep (state_module_of m state) (state_supply_of supply state)
    (plan_of (imported_funcs m) (record { segments = r.cut })) runs.runnable.valid (left_length (imported_funcs m) r.cut) in
    record {
      known = r.known;
      is_known = r.is_known;
      cut = r.cut;
      is_cut = r.is_cut;
      replays = record {
        is_state = is_state;
        runs = runs;
        begins = begins;
        playable = playable m (state_module_of m state) supply (state_supply_of supply state) store first tape number r.cut
            can there r.is_cut;
        keeps = record { types = kept.types; signatures = kept.signatures; funcs = kept.funcs };
        shows = r.shows (state_module_of m state) (state_supply_of supply state) first there stored.maxima stored.holds;
      };
    }
