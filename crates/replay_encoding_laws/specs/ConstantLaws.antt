-- Tapes whose values can be written as constants.
use Rattle.std.specs.Prelude.{ℕ, ◌<◌, List, All}
use Rattle.trace_model.specs.declared.tapes.Tape.{Tape}
use Rattle.trace_format.specs.Faults.{IsTapeOf}
use Rattle.replay_module_laws.specs.Written.{IsConstantTape}

-- a tape that bytes encode has constants alone
abbrev pub ReadTapesAreConstant : Type 0
ReadTapesAreConstant =
    (bytes digest : List ℕ) (tape : Tape) → All (λ byte. byte < 256) bytes → IsTapeOf bytes digest tape
    → IsConstantTape tape
