-- The tapes of logs that are encoded.
use Rattle.std.specs.Prelude.{ℕ, ◌<◌, ◌≤◌, ◌^◌, List, length}
use Rattle.trace_model.specs.Weight.{tape_weight}
use Rattle.trace_model.specs.declared.events.Log.{Log}
use Rattle.trace_model.specs.declared.tapes.Tape.{Tape}
use Rattle.trace_bytes.specs.declared.tags.TheConstants.{VERSION_2}
use Rattle.trace_bytes.specs.Spelled.{FitSegments, SpellsLog}
use Rattle.record_replay_spec.specs.LogTapes.{IsLogTape}

-- each segment of the tape has an encoding, and the tape weighs no more than this number of bytes
pub record IsWritableTape (count : ℕ) (tape : Tape) : Type 0 where
  pub segments : FitSegments VERSION_2 tape.segments
  pub light : tape_weight tape ≤ count

-- the tape of a log that fewer than 2^32 bytes encode, in either version, can be written, and weighs no more than
-- these bytes
abbrev pub LogTapesAreWritable : Type 0
LogTapesAreWritable =
    (version : ℕ) (bytes digest : List ℕ) (log : Log) (tape : Tape)
    → SpellsLog version bytes digest log → length bytes < 2 ^ 32 → IsLogTape log tape
    → IsWritableTape (length bytes) tape
