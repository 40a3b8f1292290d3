-- Causes of faults, from some files of several; what a call that loads files implies for a call that passes its result on.
use Rattle.std.proofs.Common.{◌≡◌, ℕ, ◌+◌, ◌≤◌, ◌⊎◌, List, [], ◌∷◌, ◌++◌, length, map, find, nat_lt, sym, ◌∙◌, ap, subst, arith, Bool, Option, Some, None, Result, Ok, Err, IfOk, IfErr, OnOk, Vec, inl, inr}
use Rattle.std.specs.List.{Contains}
use Rattle.std.specs.Option.{option_or, ForSome}
use Rattle.std.specs.Result.{IsErrAnd}
use Rattle.std.proofs.lemmas.List.{map-append}
use Rattle.std.proofs.lemmas.List.Elements.{Contains-append_left, Contains-append_right}
use Rattle.std.proofs.lemmas.List.Folds.{find-append}
use Rattle.r3_outside.specs.Count.{Rose, Took, NoneFell}
use Rattle.r3_outside.specs.Contents.{FileMap, file_bytes}
use Rattle.r3_core.specs.Causes.{Reading, reading_of, first_longer, IsFile, IsLoadCause, IsLoading}
use Rattle.r3_faults.specs.declared.faults.Fault.{Fault}
use Rattle.r3_faults.specs.declared.faults.Fault.TheVariants as faults

module _ {X : Type 0} (p : X → Bool) where
  -- the first item of the first list, or of the second one
  pub find-left : (xs ys : List X) (x : X) → find p xs ≡ Some x → find p (xs ++ ys) ≡ Some x
  find-left xs ys x here = find-append p xs ys ∙ ap (λ found. option_or found (find p ys)) here

  pub find-right : (xs ys : List X) (found : Option X) → find p xs ≡ None → find p ys ≡ found → find p (xs ++ ys) ≡ found
  find-right xs ys found none here =
      find-append p xs ys ∙ ap (λ found. option_or found (find p ys)) none ∙ here

-- a file was not loaded: it could not be read, or it is too long
module _ (reading : Reading) (files : List (List ℕ × ℕ)) (P : Fault → Type 0)
    (read : (name : List ℕ) → Contains (map (λ file. file.0) files) name → Rose (reading.faults_before name) (reading.faults_now name) → P (faults.Read name))
    (too_long : (name : List ℕ) (limit : ℕ) → Contains files (name, limit)
    → Took (reading.taken_before name) (reading.taken_now name) (limit + 1) → ForSome reading.contents
    (λ known. first_longer known files ≡ Some (name, limit)) → P (faults.TooLong name limit)) where
  pub load-cases : (fault : Fault) → IsLoadCause reading files fault → P fault
  load-cases (faults.Read name) c = read name c.0 c.1
  load-cases (faults.TooLong name limit) c = too_long name limit c.0 c.1 c.2
  load-cases faults.Usage c = absurd c
  load-cases (faults.Malformed at) c = absurd c
  load-cases (faults.InvalidFunction func) c = absurd c
  load-cases faults.InvalidModule c = absurd c
  load-cases (faults.Unsupported func number feature) c = absurd c
  load-cases (faults.Limit which value) c = absurd c
  load-cases (faults.Reserved import) c = absurd c
  load-cases faults.NotJson c = absurd c
  load-cases (faults.Shape path) c = absurd c
  load-cases (faults.UnknownName name) c = absurd c
  load-cases (faults.WrongType name) c = absurd c
  load-cases (faults.NoAccess name) c = absurd c
  load-cases (faults.CallsOwn name) c = absurd c
  load-cases (faults.Missing import) c = absurd c
  load-cases (faults.Mismatch import) c = absurd c
  load-cases (faults.Segment number) c = absurd c
  load-cases (faults.Script turn kind) c = absurd c
  load-cases (faults.Spent turns) c = absurd c
  load-cases faults.Write c = absurd c
  load-cases faults.Memory c = absurd c
  load-cases (faults.BadTrace at) c = absurd c
  load-cases (faults.TraceVersion found) c = absurd c
  load-cases (faults.OtherModule tape given) c = absurd c
  load-cases faults.NotHooked c = absurd c
  load-cases (faults.HookOrder number) c = absurd c
  load-cases (faults.Unbalanced event) c = absurd c
  load-cases (faults.Unfit segment) c = absurd c
  load-cases faults.NoLayout c = absurd c
  load-cases faults.NoImports c = absurd c
  load-cases faults.NoEntry c = absurd c
  load-cases (faults.TapeLimit weight) c = absurd c
  load-cases faults.DeclNotJson c = absurd c
  load-cases (faults.DeclShape path) c = absurd c
  load-cases (faults.DeclReserved import) c = absurd c
  load-cases (faults.DeclTaken name) c = absurd c
  load-cases (faults.PairUnresolved side import) c = absurd c
  load-cases (faults.PairMismatch side import) c = absurd c
  load-cases faults.TwoMemories c = absurd c
  load-cases faults.TwoTables c = absurd c
  load-cases faults.TwoStarts c = absurd c
  load-cases (faults.NoCall k calls) c = absurd c
  load-cases faults.HookedLimit c = absurd c

abbrev is_longer : FileMap → List ℕ × ℕ → Bool
is_longer known file = nat_lt file.1 (length (file_bytes known file.0))

-- the cause of a fault of the first files of some
pub cause_of_first : (reading : Reading) (xs ys : List (List ℕ × ℕ)) (fault : Fault)
    → IsLoadCause reading xs fault → IsLoadCause reading (xs ++ ys) fault
cause_of_first reading xs ys =
    load-cases reading xs (λ fault. IsLoadCause reading (xs ++ ys) fault)
    (λ name listed rose. (
      subst (λ names. Contains names name) (sym (map-append (λ file. file.0) xs ys))
          (Contains-append_left (map (λ file. file.0) xs) (map (λ file. file.0) ys) name listed),
      rose,
    ))
    (λ name limit listed took first. (
      Contains-append_left xs ys (name, limit) listed,
      took,
      λ known e. find-left (is_longer known) xs ys (name, limit) (first known e),
    ))

-- the cause of a fault of the last files of some, where the first ones are not too long
module _ (contents : Option FileMap) (fb fm fn tb tm tn : List ℕ → ℕ) (xs ys : List (List ℕ × ℕ)) (f : NoneFell fb fm)
    (t : NoneFell tb tm) (within : ForSome contents (λ known. first_longer known xs ≡ None)) where
  pub cause_of_last : (fault : Fault) → IsLoadCause (reading_of contents fm fn tm tn) ys fault
      → IsLoadCause (reading_of contents fb fn tb tn) (xs ++ ys) fault
  cause_of_last =
      load-cases (reading_of contents fm fn tm tn) ys
      (λ fault. IsLoadCause (reading_of contents fb fn tb tn) (xs ++ ys) fault)
      (λ name listed rose. (
        subst (λ names. Contains names name) (sym (map-append (λ file. file.0) xs ys))
            (Contains-append_right (map (λ file. file.0) xs) (map (λ file. file.0) ys) name listed),
        omega (arith, rose, f name),
      ))
      (λ name limit listed took first. (
        Contains-append_right xs ys (name, limit) listed,
        omega (arith, took, t name),
        λ known e. find-right (is_longer known) xs ys (Some (name, limit)) (within known e) (first known e),
      ))

-- ---- calls that load files

-- what a call that loads the file of a name ensures, clause by clause
pub file_loading : {Z : Type 0} (contents : Option FileMap) (fb fn tb tn : List ℕ → ℕ) (name written : List ℕ) (limit : ℕ)
    (r : Result (Vec ℕ Z) Fault) → name ≡ written → NoneFell fb fn → NoneFell tb tn
    → IfOk r (λ bytes. ForSome contents (λ known. bytes.items ≡ file_bytes known name))
    → OnOk r ((other : List ℕ) → fn other ≡ fb other) → IfOk r (λ bytes. length bytes.items ≤ limit)
    → OnOk r (ForSome contents (λ known. first_longer known ((name, limit) ∷ []) ≡ None))
    → IfErr r (λ fault. (fault ≡ faults.Memory) ⊎ IsLoadCause (reading_of contents fb fn tb tn) ((name, limit) ∷ []) fault)
    → IsLoading (reading_of contents fb fn tb tn) ((written, limit) ∷ [])
    (λ bytes. IsFile contents (written, limit) bytes.items) r
file_loading contents fb fn tb tn name written limit r is f t bytes failed short within cause =
    subst (λ name. IsLoading (reading_of contents fb fn tb tn) ((name, limit) ∷ []) (λ bytes. IsFile contents (name, limit) bytes.items) r) is
    (record {
      faults_never_fall = f;
      taken_never_falls = t;
      value = both r bytes short;
      failed_none = failed;
      within_limits = within;
      cause = cause;
    })
  where
    both : {Z : Type 0} (r : Result (Vec ℕ Z) Fault)
        → IfOk r (λ bytes. ForSome contents (λ known. bytes.items ≡ file_bytes known name))
        → IfOk r (λ bytes. length bytes.items ≤ limit) → IfOk r (λ bytes. IsFile contents (name, limit) bytes.items)
    both (Ok bytes) contained short = record { contained = contained; short = short }
    both (Err fault) contained short = tt

-- the fault of a call that loads files, passed on
pub passed_on : {V W : Type 0} (reading : Reading) (files : List (List ℕ × ℕ)) (P : V → Type 0) (Q : W → Type 0)
    (e : Fault) (q : Result W Fault) → IsLoading reading files P (Err e) → IsErrAnd q (λ other. other ≡ e)
    → IsLoading reading files Q q
passed_on reading files P Q e (Ok w) loading passes = absurd passes
passed_on reading files P Q e (Err other) loading passes = record {
  faults_never_fall = loading.faults_never_fall;
  taken_never_falls = loading.taken_never_falls;
  value = tt;
  failed_none = tt;
  within_limits = tt;
  cause = subst (λ fault. (fault ≡ faults.Memory) ⊎ IsLoadCause reading files fault) (sym passes) loading.cause;
}

-- the first files are not loaded, and the call returns
pub stopped_early : {V W : Type 0} (reading : Reading) (xs ys : List (List ℕ × ℕ)) (P : V → Type 0) (Q : W → Type 0)
    (e : Fault) (q : Result W Fault) → IsLoading reading xs P (Err e) → IsErrAnd q (λ other. other ≡ e)
    → IsLoading reading (xs ++ ys) Q q
stopped_early reading xs ys P Q e q loading passes =
    passed_on reading (xs ++ ys) P Q e q
    (record {
      faults_never_fall = loading.faults_never_fall;
      taken_never_falls = loading.taken_never_falls;
      value = tt;
      failed_none = tt;
      within_limits = tt;
      cause = elim loading.cause [ inl memory ↦ inl memory | inr cause ↦ inr (cause_of_first reading xs ys e cause) ];
    })
    passes

-- the first files are loaded, and then the last ones
module _ {U V W : Type 0} (contents later : Option FileMap) (fb fm fn tb tm tn : List ℕ → ℕ) (xs ys : List (List ℕ × ℕ))
    (P : U → Type 0) (R : V → Type 0) (Q : W → Type 0) (u : U)
    (first : IsLoading (reading_of contents fb fm tb tm) xs P (Ok u)) (same : later ≡ contents) where
  -- the last files are not loaded, and the call returns
  pub stopped_late : (e : Fault) (q : Result W Fault) → IsLoading (reading_of later fm fn tm tn) ys R (Err e)
      → IsErrAnd q (λ other. other ≡ e) → IsLoading (reading_of contents fb fn tb tn) (xs ++ ys) Q q
  stopped_late e q next passes =
      let here = subst (λ contents. IsLoading (reading_of contents fm fn tm tn) ys R (Err e)) same next in
      passed_on (reading_of contents fb fn tb tn) (xs ++ ys) R Q e q
      (record {
        faults_never_fall = λ name. omega (arith, first.faults_never_fall name, next.faults_never_fall name);
        taken_never_falls = λ name. omega (arith, first.taken_never_falls name, next.taken_never_falls name);
        value = tt;
        failed_none = tt;
        within_limits = tt;
        cause =
            elim here.cause [
              | inl memory ↦ inl memory
              | inr cause ↦ inr
                  (cause_of_last contents fb fm fn tb tm tn xs ys first.faults_never_fall first.taken_never_falls
                  first.within_limits e cause)
            ];
      })
      passes

  -- all are loaded
  pub all_loaded : (v : V) (w : W) → IsLoading (reading_of later fm fn tm tn) ys R (Ok v) → (P u → R v → Q w)
      → IsLoading (reading_of contents fb fn tb tn) (xs ++ ys) Q (Ok w)
  all_loaded v w next follows = record {
    faults_never_fall = λ name. omega (arith, first.faults_never_fall name, next.faults_never_fall name);
    taken_never_falls = λ name. omega (arith, first.taken_never_falls name, next.taken_never_falls name);
    value = follows first.value next.value;
    failed_none = λ name. next.failed_none name ∙ first.failed_none name;
    within_limits = λ known e.
        find-right (is_longer known) xs ys None (first.within_limits known e) (next.within_limits known (same ∙ e));
    cause = tt;
  }
