-- The jobs of the program in words: the name of a command, its files, each with a limit in bytes, and its numbers, each
-- with a range.
use Rattle.std.specs.Prelude.{ℕ, List, [], ◌∷◌, codes}
use Rattle.wasm_syntax.specs.declared.limits.TheConstants.{MAX_LOAD_CALLS, MAX_TRACE_BYTES, MAX_RECORD_TURNS, MAX_FILE_BYTES, MAX_INSTRUMENTED_BYTES, MAX_REPLAY_BYTES, MAX_TURNS, MAX_HISTORY_TURNS}
use Rattle.r3_make.specs.declared.from_command.TheConstants.{MAX_CALL_NUMBER}
use Rattle.r3_core.specs.declared.words.NumberRange.{NumberRange}
use Rattle.r3_core.specs.declared.jobs.Job.{Job}
use Rattle.r3_core.specs.declared.jobs.Job.TheVariants.{Make, Instrument, Record, Reduce, Build, History, Replay, Show, Load, Foreign, ForeignHistory, Pair, PairHistory, From}

-- the numbers from 1 to the greatest one
abbrev pub from_one : (most : ℕ) → NumberRange
from_one most = record { least = 1; most = most }

-- what the words of a job say: the name of its command, its files, each with its limit, and its numbers, each with its
-- range
pub record Form (B : Type 0) : Type 0 where
  pub name : List ℕ
  pub files : List (B × ℕ)
  pub numbers : List (ℕ × NumberRange)

-- the form of each job, one row for each command
abbrev pub form : {B : Type 0} → Job B → Form B
form (Make m s turns) =
    record {
      name = codes "make";
      files = (m, MAX_FILE_BYTES) ∷ (s, MAX_FILE_BYTES) ∷ [];
      numbers = (turns, from_one MAX_TURNS) ∷ [];
    }
form (Instrument m) = record { name = codes "instrument"; files = (m, MAX_FILE_BYTES) ∷ []; numbers = [] }
form (Record hooked s turns) =
    record {
      name = codes "record";
      files = (hooked, MAX_INSTRUMENTED_BYTES) ∷ (s, MAX_FILE_BYTES) ∷ [];
      numbers = (turns, from_one MAX_RECORD_TURNS) ∷ [];
    }
form (Reduce log) = record { name = codes "reduce"; files = (log, MAX_TRACE_BYTES) ∷ []; numbers = [] }
form (Build m s tape) =
    record {
      name = codes "build";
      files = (m, MAX_FILE_BYTES) ∷ (s, MAX_FILE_BYTES) ∷ (tape, MAX_TRACE_BYTES) ∷ [];
      numbers = [];
    }
form (History m s turns) =
    record {
      name = codes "history";
      files = (m, MAX_FILE_BYTES) ∷ (s, MAX_FILE_BYTES) ∷ [];
      numbers = (turns, from_one MAX_HISTORY_TURNS) ∷ [];
    }
form (Replay binary turns) =
    record {
      name = codes "replay";
      files = (binary, MAX_REPLAY_BYTES) ∷ [];
      numbers = (turns, from_one MAX_RECORD_TURNS) ∷ [];
    }
form (Show trace) = record { name = codes "show"; files = (trace, MAX_TRACE_BYTES) ∷ []; numbers = [] }
form (Load calls) = record { name = codes "load"; files = []; numbers = (calls, from_one MAX_LOAD_CALLS) ∷ [] }
form (Foreign m decls s turns) =
    record {
      name = codes "foreign";
      files = (m, MAX_FILE_BYTES) ∷ (decls, MAX_FILE_BYTES) ∷ (s, MAX_FILE_BYTES) ∷ [];
      numbers = (turns, from_one MAX_TURNS) ∷ [];
    }
form (ForeignHistory m decls s turns) =
    record {
      name = codes "foreign-history";
      files = (m, MAX_FILE_BYTES) ∷ (decls, MAX_FILE_BYTES) ∷ (s, MAX_FILE_BYTES) ∷ [];
      numbers = (turns, from_one MAX_HISTORY_TURNS) ∷ [];
    }
form (Pair left right s turns) =
    record {
      name = codes "pair";
      files = (left, MAX_FILE_BYTES) ∷ (right, MAX_FILE_BYTES) ∷ (s, MAX_FILE_BYTES) ∷ [];
      numbers = (turns, from_one MAX_TURNS) ∷ [];
    }
form (PairHistory left right s turns) =
    record {
      name = codes "pair-history";
      files = (left, MAX_FILE_BYTES) ∷ (right, MAX_FILE_BYTES) ∷ (s, MAX_FILE_BYTES) ∷ [];
      numbers = (turns, from_one MAX_HISTORY_TURNS) ∷ [];
    }
form (From m s turns call) =
    record {
      name = codes "from";
      files = (m, MAX_FILE_BYTES) ∷ (s, MAX_FILE_BYTES) ∷ [];
      numbers = (turns, from_one MAX_TURNS) ∷ (call, record { least = 0; most = MAX_CALL_NUMBER }) ∷ [];
    }

-- the files of a job, in sequence, each with its limit
abbrev pub files_of : {B : Type 0} → Job B → List (B × ℕ)
files_of job = (form job).files

-- the same job, with f of each of its files
abbrev pub map_files : {B C : Type 0} → (B → C) → Job B → Job C
map_files f (Make m s turns) = Make (f m) (f s) turns
map_files f (Instrument m) = Instrument (f m)
map_files f (Record hooked s turns) = Record (f hooked) (f s) turns
map_files f (Reduce log) = Reduce (f log)
map_files f (Build m s tape) = Build (f m) (f s) (f tape)
map_files f (History m s turns) = History (f m) (f s) turns
map_files f (Replay binary turns) = Replay (f binary) turns
map_files f (Show trace) = Show (f trace)
map_files f (Load calls) = Load calls
map_files f (Foreign m decls s turns) = Foreign (f m) (f decls) (f s) turns
map_files f (ForeignHistory m decls s turns) = ForeignHistory (f m) (f decls) (f s) turns
map_files f (Pair left right s turns) = Pair (f left) (f right) (f s) turns
map_files f (PairHistory left right s turns) = PairHistory (f left) (f right) (f s) turns
map_files f (From m s turns call) = From (f m) (f s) turns call

-- a job without its files: its command and its numbers
abbrev pub without_files : {B : Type 0} → Job B → Job (Unit {0})
without_files job = map_files (λ _. tt {0}) job
