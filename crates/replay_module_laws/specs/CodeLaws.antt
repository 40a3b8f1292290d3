-- The laws of the code of a replay module, and of the store in which its run begins.
use Rattle.std.specs.Prelude.{◌≡◌, length, replicate, Ok}
use Rattle.wasm_syntax.specs.declared.modules.Module.{Module}
use Rattle.wasm_syntax.specs.Index.{imported_funcs}
use Rattle.wasm_syntax.specs.Validity.{IsValid}
use Rattle.host_script.specs.declared.scripts.Supply.{Supply}
use Rattle.history_spec.specs.Code.{code_of}
use Rattle.history_spec.specs.Instantiation.{instantiate}
use Rattle.history_spec.specs.Replay.{alone}
use Rattle.history_spec.specs.Store.{Store}
use Rattle.type_safety.specs.Supplies.{IsSupply}
use Rattle.replay_module_spec.specs.declared.plans.Plan.{Plan}
use Rattle.replay_module_spec.specs.Fragments.{fragment_of}
use Rattle.replay_module_spec.specs.Merge.{replay_module}
use Rattle.replay_module_laws.specs.Stores.{counters, with_own}
use Rattle.replay_module_laws.specs.Codes.{IsReplayCode}

-- the replay module of a plan for a valid module, with calls for each import, has the code of the plan
abbrev pub ReplayModulesHaveCode : Type 0
ReplayModulesHaveCode =
    (m : Module) (supply : Supply) (plan : Plan) → IsValid m → length plan.imports ≡ imported_funcs m
    → IsReplayCode m plan (code_of (replay_module m supply (fragment_of m plan)))

-- the run of the replay module begins in the original's store, with its own counters at zero
abbrev pub ReplayModulesBegin : Type 0
ReplayModulesBegin =
    (m : Module) (supply : Supply) (plan : Plan) (store : Store)
    → IsSupply m supply → instantiate m supply ≡ Ok store
    → instantiate (replay_module m supply (fragment_of m plan)) alone
    ≡ Ok (with_own (counters (replicate (imported_funcs m) 0)) store)
