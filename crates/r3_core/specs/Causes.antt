-- Why a call ends with a fault, and what it prints if it ends without one.
use Rattle.std.specs.Prelude.{◌≡◌, ◌⊎◌, ℕ, ◌+◌, ◌≤◌, nat_lt, List, [], ◌∷◌, length, map, find, Contains, Option, Some, None, Vec, Result, IfOk, IfErr, OnOk}
use Rattle.std.specs.Option.{ForSome}
use Rattle.r3_outside.specs.Count.{NoneFell, Rose, Took}
use Rattle.r3_outside.specs.Contents.{FileMap, file_bytes}
use Rattle.r3_faults.specs.declared.faults.Fault.{Fault}
use Rattle.r3_faults.specs.declared.faults.Fault.TheVariants.{Usage, Read, TooLong, Write, Memory}
use Rattle.r3_core.specs.declared.jobs.Job.{Job}
use Rattle.r3_core.specs.Jobs.{files_of, map_files, without_files}
use Rattle.r3_core.specs.Words.{IsListed, Says}
use Rattle.r3_core.specs.Meanings.{IsRefusal, Prints}
use Rattle.r3_core.specs.Replayed.{IsReplayed}

-- ---- the files of a call

-- the first of these files, each with its limit, that is longer than its limit
abbrev pub first_longer : FileMap → List (List ℕ × ℕ) → Option (List ℕ × ℕ)
first_longer known files = find (λ file. nat_lt file.1 (length (file_bytes known file.0))) files

-- what the files contained when a call began, and their counts by name then and now
pub record Reading : Type 0 where
  pub contents : Option FileMap
  pub faults_before : List ℕ → ℕ
  pub faults_now : List ℕ → ℕ
  pub taken_before : List ℕ → ℕ
  pub taken_now : List ℕ → ℕ

-- the record of what the files contained when a call began, and of their counts by name then and now
abbrev pub reading_of : Option FileMap → (faults_before faults_now taken_before taken_now : List ℕ → ℕ) → Reading
reading_of contents faults_before faults_now taken_before taken_now = record {
  contents = contents;
  faults_before = faults_before;
  faults_now = faults_now;
  taken_before = taken_before;
  taken_now = taken_now;
}

-- why one of these files, each with its limit, was not loaded, by the counts of that file
abbrev pub IsLoadCause : Reading → List (List ℕ × ℕ) → Fault → Type 0
IsLoadCause reading files (Read name) =
    Contains (map (λ file. file.0) files) name × Rose (reading.faults_before name) (reading.faults_now name)
IsLoadCause reading files (TooLong name limit) =
    Contains files (name, limit) × Took (reading.taken_before name) (reading.taken_now name) (limit + 1)
    × ForSome reading.contents (λ known. first_longer known files ≡ Some (name, limit))
IsLoadCause reading files fault = ⊥

-- The result of a call that loads these files in sequence has its cause: with a value, no read failed and no file is
-- too long; without one, one of the files was not loaded, or memory is out.
pub record IsLoading {V : Type 0} (reading : Reading) (files : List (List ℕ × ℕ)) (IsValue : V → Type 0)
    (result : Result V Fault) : Type 0 where
  pub faults_never_fall : NoneFell reading.faults_before reading.faults_now
  pub taken_never_falls : NoneFell reading.taken_before reading.taken_now
  pub value : IfOk result IsValue
  pub failed_none : OnOk result ((name : List ℕ) → reading.faults_now name ≡ reading.faults_before name)
  pub within_limits : OnOk result (ForSome reading.contents (λ known. first_longer known files ≡ None))
  pub cause : IfErr result (λ fault. (fault ≡ Memory) ⊎ IsLoadCause reading files fault)

-- the bytes of a file with its limit: they are within the limit, and are those of the file, if the contents of files
-- are known
pub record IsFile (contents : Option FileMap) (file : List ℕ × ℕ) (bytes : List ℕ) : Type 0 where
  pub contained : ForSome contents (λ known. bytes ≡ file_bytes known file.0)
  pub short : length bytes ≤ file.1

-- ---- the files of a job, and their bytes

-- the job with the bytes that its files contain
abbrev pub loaded : FileMap → Job (List ℕ) → Job (List ℕ)
loaded known job = map_files (file_bytes known) job

-- the job with the bytes of its files
abbrev pub bytes_of : {Z : Type 0} → Job (Vec ℕ Z) → Job (List ℕ)
bytes_of job = map_files (λ bytes. bytes.items) job

-- the job with the bytes of its files: the same command with the same numbers, and the bytes that the files contain, if
-- the contents of files are known
pub record AreBytesOf (contents : Option FileMap) (job given : Job (List ℕ)) : Type 0 where
  pub same : without_files given ≡ without_files job
  pub contained : ForSome contents (λ known. given ≡ loaded known job)

-- the bytes of each file are within its limit
abbrev pub AreWithin : List (List ℕ × ℕ) → Type 0
AreWithin [] = Unit {0}
AreWithin (file ∷ files) = (length file.0 ≤ file.1) × AreWithin files

-- a job with the bytes of its files, each within its limit
pub record IsLoaded (contents : Option FileMap) (job given : Job (List ℕ)) : Type 0 where
  pub bytes : AreBytesOf contents job given
  pub within : AreWithin (files_of given)

-- ---- calls

-- the words say a job without files
abbrev pub NamesNoFile : (words : List (List ℕ)) → Type 0
NamesNoFile words = (job : Job (List ℕ)) × Says words job × (files_of job ≡ [])

-- the words say a job, and this is the job with the bytes of its files
pub record IsCall (words : List (List ℕ)) (contents : Option FileMap) (given : Job (List ℕ)) : Type 0 where
  pub job : Job (List ℕ)
  pub says : Says words job
  pub bytes : AreBytesOf contents job given

-- the job of the words is refused for the bytes of its files
pub record IsRefused (words : List (List ℕ)) (contents : Option FileMap) (fault : Fault) : Type 0 where
  pub given : Job (List ℕ)
  pub call : IsCall words contents given
  pub refusal : IsRefusal given fault

-- the job of the words prints these bytes for the bytes of its files; and of what `make`, `foreign` and `pair` print,
-- `replay` prints what `history`, `foreign-history` and `pair-history` print for the same files
pub record IsPrintedFor (words : List (List ℕ)) (contents : Option FileMap) (printed : List ℕ) : Type 0 where
  pub given : Job (List ℕ)
  pub call : IsCall words contents given
  pub prints : Prints given printed
  pub replayed : IsReplayed given printed

-- why a call with these words ends with this fault
pub data IsCause (words : List (List ℕ)) (reading : Reading) (writes_before writes_now : ℕ) (fault : Fault)
    : Type 0 where
  Unlisted : (is_usage : fault ≡ Usage) (unlisted : ¬ (IsListed words))
      → IsCause words reading writes_before writes_now fault
  Unloaded : (job : Job (List ℕ)) (says : Says words job) (cause : IsLoadCause reading (files_of job) fault)
      → IsCause words reading writes_before writes_now fault
  Refused : (refused : IsRefused words reading.contents fault) → IsCause words reading writes_before writes_now fault
  Unwritten : (is_write : fault ≡ Write) (listed : IsListed words) (rose : Rose writes_before writes_now)
      → IsCause words reading writes_before writes_now fault
  OutOfMemory : (is_memory : fault ≡ Memory) (listed : IsListed words)
      → IsCause words reading writes_before writes_now fault

-- why a job prints nothing
pub data IsPrintCause (reading : Reading) (job : Job (List ℕ)) (fault : Fault) : Type 0 where
  UnloadedFile : (cause : IsLoadCause reading (files_of job) fault) → IsPrintCause reading job fault
  RefusedBytes : (given : Job (List ℕ)) (bytes : AreBytesOf reading.contents job given)
      (refusal : IsRefusal given fault) → IsPrintCause reading job fault
  NoMemoryLeft : (is_memory : fault ≡ Memory) → IsPrintCause reading job fault
