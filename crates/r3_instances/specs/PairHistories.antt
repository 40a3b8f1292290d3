-- The history of a pair's run, or why there is none, by the bytes of files.
use Rattle.std.specs.Prelude.{ℕ, List}
use Rattle.r3_faults.specs.declared.faults.Fault.{Fault}
use Rattle.r3_instances.specs.PairInputs.{pair_source}
use Rattle.r3_instances.specs.Sources.{HasHistory, HasNoHistory}

-- the bytes are two modules that link, and a script for the linked module, and the run of the pair has this history
-- within the turns
abbrev pub IsPairHistory : (left_bytes right_bytes script_bytes : List ℕ) → (turns : ℕ) → (text : List ℕ) → Type 0
IsPairHistory left_bytes right_bytes script_bytes turns text =
    HasHistory (pair_source left_bytes right_bytes) script_bytes turns text

-- a module or the script is refused, or the modules do not link, or the run of the pair has no history
abbrev pub IsPairHistoryRefusal : (left_bytes right_bytes script_bytes : List ℕ) → (turns : ℕ) → Fault → Type 0
IsPairHistoryRefusal left_bytes right_bytes script_bytes turns fault =
    HasNoHistory (pair_source left_bytes right_bytes) script_bytes turns fault
