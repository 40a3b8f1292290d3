-- A run in which values of all types cross the border.
use Rattle.std.specs.Prelude.{[], ◌∷◌, Some}
use Rattle.wasm_syntax.specs.declared.values.ValType.TheVariants.{I32, I64, F32, F64}
use Rattle.wasm_syntax.specs.declared.instructions.Instr.TheVariants.{Call, Const, End}
use Rattle.wasm_syntax.specs.declared.modules.Module.{Module}
use Rattle.host_script.specs.declared.scripts.Action.TheVariants.{Call as Calls}
use Rattle.host_script.specs.declared.scripts.Script.{Script}
use Rattle.trace_model.specs.declared.tapes.Next.TheVariants.{Return}
use Rattle.trace_model.specs.declared.tapes.Origin.TheVariants.{Import}
use Rattle.trace_model.specs.declared.tapes.Tape.{Tape}
use Rattle.worked_histories.specs.Build.{calls, func, func_type, returns, script, value}
use Rattle.worked_histories.specs.Modules.{with_import}
use Rattle.worked_replay_modules.specs.Cases.{ReplayCase, replay_case}
use Rattle.worked_replay_modules.specs.Tapes.{calls_one, ends_work, segment, tape}

-- calls an import with -1, -2 and two NaNs, and returns what it returns
abbrev pub all_types : Module
all_types =
    with_import (func_type (I32 ∷ I64 ∷ F32 ∷ F64 ∷ []) (F64 ∷ []) ∷ func_type [] (F64 ∷ []) ∷ [])
    (func 1 []
    (Const (value I32 0xFFFFFFFF) ∷ Const (value I64 0xFFFFFFFFFFFFFFFE) ∷ Const (value F32 0x7FA00001)
    ∷ Const (value F64 0x7FF8000000000001) ∷ Call 0 ∷ End ∷ []) ∷ [])

-- the host returns a NaN
abbrev pub all_types_script : Script
all_types_script =
    script (calls (returns [] (Some (value F64 0xFFF4000000000001)) ∷ []) ∷ []) (Calls 1 [] ∷ [])

abbrev pub all_types_tape : Tape
all_types_tape =
    tape (calls_one ∷ segment (Import 0) [] (Return (Some (value F64 0xFFF4000000000001))) ∷ ends_work ∷ [])

-- the bits of each value are kept
abbrev pub all_types_case : ReplayCase
all_types_case = replay_case all_types all_types_script all_types_tape 40
