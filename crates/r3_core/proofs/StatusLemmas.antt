-- The causes of faults in the words of a call, and their statuses.
use Rattle.std.proofs.Common.{◌≡◌, ℕ, zero, suc, ◌+◌, List, [], ◌∷◌, map, refl, sym, ◌∙◌, ap, subst, arith, Option, Some, None, inl, inr, ◌⊎◌, Result, Ok, Err, IfErr, true, not, ◌==◌, true≢false, ⊎_elim}
use Rattle.std.specs.List.{Contains}
use Rattle.std.specs.Option.{ForSome}
use Rattle.std.specs.Result.{IsErrAnd}
use Rattle.r3_outside.specs.Count.{Rose, Took}
use Rattle.r3_outside.specs.Contents.{FileMap}
use Rattle.r3_faults.specs.Lines.{status_of}
use Rattle.r3_faults.specs.declared.faults.Fault.{Fault}
use Rattle.r3_faults.specs.declared.faults.Fault.TheVariants as faults
use Rattle.r3_core.specs.declared.jobs.Job.{Job}
use Rattle.r3_core.specs.Jobs.{files_of}
use Rattle.r3_core.specs.Words.{IsListed, Says}
use Rattle.r3_core.specs.Meanings.{IsRefusal}
use Rattle.r3_core.specs.Causes.{Reading, first_longer, AreBytesOf, IsCause, IsLoadCause, IsPrintCause, Unlisted, Unloaded, Refused, Unwritten, OutOfMemory, UnloadedFile, RefusedBytes, NoMemoryLeft}
use Rattle.r3_core.proofs.CauseLemmas.{load-cases}
use Rattle.r3_core.proofs.RefusalLemmas.{refusal-status}

-- ---- a file that is not loaded

module _ (reading : Reading) (files : List (List ℕ × ℕ)) where
  -- a read fault: the count of one of the files rose
  abbrev pub HasFailedRead : Type 0
  HasFailedRead =
      (name : List ℕ) × Contains (map (λ file. file.0) files) name
      × Rose (reading.faults_before name) (reading.faults_now name)

  pub load-status_read : (fault : Fault) → IsLoadCause reading files fault → status_of fault ≡ 3 → HasFailedRead
  load-status_read =
      load-cases reading files (λ fault. status_of fault ≡ 3 → HasFailedRead)
      (λ name listed rose e. (name, listed, rose)) (λ name limit listed took first e. absurd (omega (arith, e)))

  -- the first file that is too long
  abbrev pub HasLongFile : Type 0
  HasLongFile =
      (file : List ℕ × ℕ) × Contains files file × Took (reading.taken_before file.0) (reading.taken_now file.0) (file.1 + 1)
      × ForSome reading.contents (λ known. first_longer known files ≡ Some file)

  pub load-status_too_long : (fault : Fault) → IsLoadCause reading files fault → status_of fault ≡ 4 → HasLongFile
  load-status_too_long =
      load-cases reading files (λ fault. status_of fault ≡ 4 → HasLongFile)
      (λ name listed rose e. absurd (omega (arith, e))) (λ name limit listed took first e. ((name, limit), listed, took, first))

  pub load-statuses : (fault : Fault) → IsLoadCause reading files fault → (status_of fault ≡ 3) ⊎ (status_of fault ≡ 4)
  load-statuses =
      load-cases reading files (λ fault. (status_of fault ≡ 3) ⊎ (status_of fault ≡ 4))
      (λ name listed rose. inl refl) (λ name limit listed took first. inr refl)

-- a file that is not loaded: its status
pub load-contains : (reading : Reading) (files : List (List ℕ × ℕ)) (fault : Fault)
    → (fault ≡ faults.Memory) ⊎ IsLoadCause reading files fault → Contains (3 ∷ 4 ∷ 14 ∷ []) (status_of fault)
load-contains reading files fault (inl memory) = (2, omega arith, sym (ap status_of memory))
load-contains reading files fault (inr cause) =
    elim (load-statuses reading files fault cause) [ inl three ↦ (0, omega arith, sym three) | inr four ↦ (1, omega arith, sym four) ]

-- no file is too long if none is found
none-differs : (file : List ℕ × ℕ) (found : Option (List ℕ × ℕ)) → found ≡ None → found ≡ Some file → ⊥
none-differs file None none some = cc some
none-differs file (Some other) none some = cc none

pub load-refused : (reading : Reading) (files : List (List ℕ × ℕ)) (fault : Fault) (other : ℕ) (known : FileMap)
    → reading.contents ≡ Some known → first_longer known files ≡ None
    → (fault ≡ faults.Memory) ⊎ IsLoadCause reading files fault → Contains (other ∷ 3 ∷ 14 ∷ []) (status_of fault)
load-refused reading files fault other known e none (inl memory) = (2, omega arith, sym (ap status_of memory))
load-refused reading files fault other known e none (inr cause) =
    elim (load-statuses reading files fault cause) [
      | inl three ↦ (1, omega arith, sym three)
      | inr four ↦ (let long = load-status_too_long reading files fault cause four in
          absurd (none-differs long.0 (first_longer known files) none (long.3 known e)))
    ]

pub load-done : (reading : Reading) (files : List (List ℕ × ℕ)) (fault : Fault) (known : FileMap)
    → reading.contents ≡ Some known → first_longer known files ≡ None
    → (fault ≡ faults.Memory) ⊎ IsLoadCause reading files fault → Contains (3 ∷ 13 ∷ 14 ∷ []) (status_of fault)
load-done reading files fault known e none (inl memory) = (2, omega arith, sym (ap status_of memory))
load-done reading files fault known e none (inr cause) =
    elim (load-statuses reading files fault cause) [
      | inl three ↦ (0, omega arith, sym three)
      | inr four ↦ (let long = load-status_too_long reading files fault cause four in
          absurd (none-differs long.0 (first_longer known files) none (long.3 known e)))
    ]

-- ---- the cause of a call's fault

module _ (words : List (List ℕ)) (reading : Reading) (before now : ℕ) (fault : Fault) where
  not-loaded : {P : Type 0} (job : Job (List ℕ)) → IsLoadCause reading (files_of job) fault
      → (status_of fault ≡ 3 → P) → (status_of fault ≡ 4 → P) → P
  not-loaded job cause read long = ⊎_elim read long (load-statuses reading (files_of job) fault cause)

  pub status-usage : IsCause words reading before now fault → status_of fault ≡ 2
      → (fault ≡ faults.Usage) × (¬ (IsListed words))
  status-usage (Unlisted is unlisted) e = (is, unlisted)
  status-usage (Unloaded job says cause) e =
      not-loaded job cause (λ three. absurd (omega (arith, e, three))) (λ four. absurd (omega (arith, e, four)))
  status-usage (Refused r) e = absurd ((refusal-status r.given fault r.refusal).0 e)
  status-usage (Unwritten is listed rose) e = absurd (omega (arith, e, ap status_of is))
  status-usage (OutOfMemory is listed) e = absurd (omega (arith, e, ap status_of is))

  pub listed-unless_usage : IsCause words reading before now fault → (status_of fault ≡ 2) ⊎ IsListed words
  listed-unless_usage (Unlisted is unlisted) = inl (ap status_of is)
  listed-unless_usage (Unloaded job says cause) = inr (job, says)
  listed-unless_usage (Refused r) = inr (r.call.job, r.call.says)
  listed-unless_usage (Unwritten is listed rose) = inr listed
  listed-unless_usage (OutOfMemory is listed) = inr listed

  pub status-read : IsCause words reading before now fault → status_of fault ≡ 3
      → (job : Job (List ℕ)) × Says words job × HasFailedRead reading (files_of job)
  status-read (Unlisted is unlisted) e = absurd (omega (arith, e, ap status_of is))
  status-read (Unloaded job says cause) e = (job, says, load-status_read reading (files_of job) fault cause e)
  status-read (Refused r) e = absurd ((refusal-status r.given fault r.refusal).1 e)
  status-read (Unwritten is listed rose) e = absurd (omega (arith, e, ap status_of is))
  status-read (OutOfMemory is listed) e = absurd (omega (arith, e, ap status_of is))

  pub status-too_long : IsCause words reading before now fault → status_of fault ≡ 4
      → (job : Job (List ℕ)) × Says words job × HasLongFile reading (files_of job)
  status-too_long (Unlisted is unlisted) e = absurd (omega (arith, e, ap status_of is))
  status-too_long (Unloaded job says cause) e = (job, says, load-status_too_long reading (files_of job) fault cause e)
  status-too_long (Refused r) e = absurd ((refusal-status r.given fault r.refusal).2 e)
  status-too_long (Unwritten is listed rose) e = absurd (omega (arith, e, ap status_of is))
  status-too_long (OutOfMemory is listed) e = absurd (omega (arith, e, ap status_of is))

  pub status-write : IsCause words reading before now fault → status_of fault ≡ 13
      → (fault ≡ faults.Write) × Rose before now
  status-write (Unlisted is unlisted) e = absurd (omega (arith, e, ap status_of is))
  status-write (Unloaded job says cause) e =
      not-loaded job cause (λ three. absurd (omega (arith, e, three))) (λ four. absurd (omega (arith, e, four)))
  status-write (Refused r) e = absurd ((refusal-status r.given fault r.refusal).3 e)
  status-write (Unwritten is listed rose) e = (is, rose)
  status-write (OutOfMemory is listed) e = absurd (omega (arith, e, ap status_of is))

-- why a job prints nothing, in the words of the call
pub IsCause-printing : (words : List (List ℕ)) (job : Job (List ℕ)) → Says words job
    → (reading : Reading) (before now : ℕ) (fault : Fault)
    → IsPrintCause reading job fault → IsCause words reading before now fault
IsCause-printing words job says reading before now fault (UnloadedFile cause) = Unloaded job says cause
IsCause-printing words job says reading before now fault (RefusedBytes given bytes refusal) =
    Refused (record { given = given; call = record { job = job; says = says; bytes = bytes }; refusal = refusal })
IsCause-printing words job says reading before now fault (NoMemoryLeft is) = OutOfMemory is (job, says)

-- the result for a refusal, unless memory is out
pub IsErrAnd-refused : {T : Type 0} (r : Result T Fault) (fault : Fault) → (r ≡ Err fault) ⊎ (r ≡ Err faults.Memory)
    → IsErrAnd r (λ other. Contains (status_of fault ∷ 3 ∷ 14 ∷ []) (status_of other))
IsErrAnd-refused r fault (inl e) = subst (λ r. IsErrAnd r (λ other. Contains (status_of fault ∷ 3 ∷ 14 ∷ []) (status_of other))) (sym e) (0, omega arith, refl)
IsErrAnd-refused r fault (inr e) = subst (λ r. IsErrAnd r (λ other. Contains (status_of fault ∷ 3 ∷ 14 ∷ []) (status_of other))) (sym e) (2, omega arith, refl)

-- a job that can be done
pub IfErr-done : {T : Type 0} (r : Result T Fault) → IfErr r (λ fault. fault ≡ faults.Memory)
    → IfErr r (λ other. Contains (3 ∷ 13 ∷ 14 ∷ []) (status_of other))
IfErr-done (Ok x) memory = tt
IfErr-done (Err fault) memory = (2, omega arith, sym (ap status_of memory))

pub done-after : (status : ℕ) → Contains (3 ∷ 13 ∷ 14 ∷ []) status → Contains (0 ∷ 3 ∷ 13 ∷ 14 ∷ []) status
done-after status (zero, h, e) = (1, omega arith, e)
done-after status (suc zero, h, e) = (2, omega arith, e)
done-after status (suc (suc zero), h, e) = (3, omega arith, e)
done-after status (suc (suc (suc k)), h, e) = absurd (omega (arith, h))

-- the cause of the result for the bytes of files
pub IfErr-bytes : {T : Type 0} (r : Result T Fault) (reading : Reading) (job given : Job (List ℕ))
    → AreBytesOf reading.contents job given
    → IfErr r (λ fault. (fault ≡ faults.Memory) ⊎ IsRefusal given fault)
    → IfErr r (λ fault. IsPrintCause reading job fault)
IfErr-bytes (Ok x) reading job given bytes cause = tt
IfErr-bytes (Err fault) reading job given bytes (inl memory) = NoMemoryLeft memory
IfErr-bytes (Err fault) reading job given bytes (inr refusal) = RefusedBytes given bytes refusal

-- the cause of a file that is not loaded
pub unloaded : (reading : Reading) (job : Job (List ℕ)) (fault : Fault)
    → (fault ≡ faults.Memory) ⊎ IsLoadCause reading (files_of job) fault → IsPrintCause reading job fault
unloaded reading job fault (inl memory) = NoMemoryLeft memory
unloaded reading job fault (inr cause) = UnloadedFile cause

-- the fault of a job that prints nothing is neither `Usage` nor `Write`
pub print-other : (reading : Reading) (job : Job (List ℕ)) (fault : Fault)
    → IsPrintCause reading job fault → (fault ≡ faults.Usage → ⊥) × (fault ≡ faults.Write → ⊥)
print-other reading job fault (UnloadedFile cause) =
    let either = load-statuses reading (files_of job) fault cause in (
      λ e. elim either [ inl three ↦ absurd (omega (arith, three, ap status_of e)) | inr four ↦ absurd (omega (arith, four, ap status_of e)) ],
      λ e. elim either [ inl three ↦ absurd (omega (arith, three, ap status_of e)) | inr four ↦ absurd (omega (arith, four, ap status_of e)) ],
    )
print-other reading job fault (RefusedBytes given bytes refusal) =
    let other = refusal-status given fault refusal in
    (λ e. other.0 (ap status_of e), λ e. other.3 (ap status_of e))
print-other reading job fault (NoMemoryLeft is) =
    let status = ap status_of is in
    (λ e. absurd (omega (arith, status, ap status_of e)), λ e. absurd (omega (arith, status, ap status_of e)))

-- no fault has the status of a job that is done
pub status-not_done : (fault : Fault) → status_of fault ≡ 0 → ⊥
status-not_done fault e = true≢false (sym (is_fault fault) ∙ ap (λ status. not (status == 0)) e)
  where
    is_fault : (fault : Fault) → not (status_of fault == 0) ≡ true
    is_fault faults.Usage = refl
    is_fault (faults.Read name) = refl
    is_fault (faults.TooLong name limit) = refl
    is_fault (faults.Malformed at) = refl
    is_fault (faults.InvalidFunction func) = refl
    is_fault faults.InvalidModule = refl
    is_fault (faults.Unsupported func number feature) = refl
    is_fault (faults.Limit which value) = refl
    is_fault (faults.Reserved import) = refl
    is_fault faults.NotJson = refl
    is_fault (faults.Shape path) = refl
    is_fault (faults.UnknownName name) = refl
    is_fault (faults.WrongType name) = refl
    is_fault (faults.NoAccess name) = refl
    is_fault (faults.CallsOwn name) = refl
    is_fault (faults.Missing import) = refl
    is_fault (faults.Mismatch import) = refl
    is_fault (faults.Segment number) = refl
    is_fault (faults.Script turn kind) = refl
    is_fault (faults.Spent turns) = refl
    is_fault faults.Write = refl
    is_fault faults.Memory = refl
    is_fault (faults.BadTrace at) = refl
    is_fault (faults.TraceVersion found) = refl
    is_fault (faults.OtherModule tape given) = refl
    is_fault faults.NotHooked = refl
    is_fault (faults.HookOrder number) = refl
    is_fault (faults.Unbalanced event) = refl
    is_fault (faults.Unfit segment) = refl
    is_fault faults.NoLayout = refl
    is_fault faults.NoImports = refl
    is_fault faults.NoEntry = refl
    is_fault (faults.TapeLimit weight) = refl
    is_fault faults.DeclNotJson = refl
    is_fault (faults.DeclShape path) = refl
    is_fault (faults.DeclReserved import) = refl
    is_fault (faults.DeclTaken name) = refl
    is_fault (faults.PairUnresolved side import) = refl
    is_fault (faults.PairMismatch side import) = refl
    is_fault faults.TwoMemories = refl
    is_fault faults.TwoTables = refl
    is_fault faults.TwoStarts = refl
    is_fault (faults.NoCall k calls) = refl
    is_fault faults.HookedLimit = refl
