-- The values of needed tapes.
use Rattle.std.specs.Prelude.{◌≡◌, Ok}
use Rattle.wasm_syntax.specs.declared.modules.Module.{Module}
use Rattle.host_script.specs.declared.scripts.Script.{Script}
use Rattle.host_script.specs.declared.scripts.Supply.{Supply}
use Rattle.host_script.specs.Fits.{Fits}
use Rattle.host_script.specs.Supply.{supply_of}
use Rattle.trace_model.specs.declared.tapes.Tape.{Tape}
use Rattle.history_spec.specs.Store.{Store}
use Rattle.history_spec.specs.Instantiation.{instantiate}
use Rattle.history_spec.specs.Run.{program_of, start_in_store}
use Rattle.record_replay_spec.specs.Needed.{IsNeededTape}
use Rattle.type_safety.specs.Supplies.{IsRunnable}
use Rattle.replay_module_laws.specs.Written.{IsConstantTape}

-- for each module that can be run, and each script that fits it and links with it: the tape that the run needs has
-- constants alone
abbrev pub NeededTapesAreConstant : Type 0
NeededTapesAreConstant =
    (m : Module) (script : Script) (supply : Supply) (store : Store) (tape : Tape)
    → IsRunnable m → Fits m script → supply_of m script ≡ Ok supply → instantiate m supply ≡ Ok store
    → IsNeededTape (program_of m script) (start_in_store m script store) store tape.segments
    → IsConstantTape tape
