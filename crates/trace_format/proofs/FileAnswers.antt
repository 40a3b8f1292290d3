-- What reading a file returns, by the laws of its readers.
use Rattle.std.proofs.Common.{◌≡◌, ℕ, ◌⊎◌, List, Result, Ok, Err, refl, ap, sym, ◌∙◌, subst, inl, inr}
use Rattle.std.specs.Prelude.{IfOk, IfErr, MatchResult}
use Rattle.std.proofs.lemmas.Option.{none-some}
use Rattle.trace_format.specs.Answers.{IsFileAnswer}
use Rattle.trace_format.specs.Faults.{IsFaultOf, IsFaultPlace, IsOtherVersion}
use Rattle.trace_format.specs.Reading.{other_version}
use Rattle.trace_format.specs.Results.{IsContent, IsReported}
use Rattle.trace_format.specs.declared.files.FormatFault.{FormatFault}
use Rattle.trace_format.specs.declared.files.FormatFault.TheVariants.{Version, Bad, Memory}
use Rattle.trace_format.proofs.Versions.{is_other, other_is}

-- the laws of the readers of a kind of files
pub record FileFacts {C : Type 0} (magic bytes : List ℕ) (IsOf IsRead : C → Type 0) (IsFront IsBad : ℕ → Type 0) : Type 0 where
  pub read_is : (content : C) → IsRead content → IsOf content
  pub is_read : (content : C) → IsOf content → IsRead content
  pub one : (content other : C) → IsRead content → IsRead other → content ≡ other
  pub none : (at : ℕ) (content : C) → IsBad at → IsRead content → ⊥
  pub place : (at : ℕ) → IsBad at → IsFaultPlace IsFront at
  pub of_version : (content : C) (found : ℕ) → IsOf content → IsOtherVersion magic bytes found → ⊥

module _ {C : Type 0} (magic bytes : List ℕ) (IsOf IsRead : C → Type 0) (IsFront IsBad : ℕ → Type 0)
    (facts : FileFacts magic bytes IsOf IsRead IsFront IsBad) where
  abbrev IsAnswer : Result C FormatFault → Type 0
  IsAnswer = IsFileAnswer IsRead IsBad (other_version magic bytes)

  answer_found : (answer : Result C FormatFault) → IsAnswer answer → IfOk answer IsOf
  answer_found (Ok content) is = facts.read_is content is
  answer_found (Err fault) is = tt

  pub fault_only : (fault : FormatFault) → IsAnswer (Err fault) → (content : C) → IsOf content → fault ≡ Memory
  fault_only (Version found) is content spelled =
      absurd (facts.of_version content found spelled (other_is magic bytes found is))
  fault_only (Bad at) is content spelled = absurd (facts.none at content is.1 (facts.is_read content spelled))
  fault_only Memory is content spelled = refl

  answer_only : (answer : Result C FormatFault) → IsAnswer answer → (content : C) → IsOf content
      → (answer ≡ Ok content) ⊎ (answer ≡ Err Memory)
  answer_only (Ok read) is content spelled = inl (ap Ok (facts.one read content is (facts.is_read content spelled)))
  answer_only (Err fault) is content spelled = inr (ap Err (fault_only fault is content spelled))

  pub fault_is : (fault : FormatFault) → IsAnswer (Err fault) → IsFaultOf magic IsOf IsFront bytes fault
  fault_is (Version found) is = other_is magic bytes found is
  fault_is (Bad at) is = (
    (λ found other. none-some found (sym is.0 ∙ is_other magic bytes found other)),
    (λ content spelled. facts.none at content is.1 (facts.is_read content spelled)),
    facts.place at is.1,
  )
  fault_is Memory is = tt

  answer_fault : (answer : Result C FormatFault) → IsAnswer answer
      → IfErr answer (λ fault. IsFaultOf magic IsOf IsFront bytes fault)
  answer_fault (Ok content) is = tt
  answer_fault (Err fault) is = fault_is fault is

  -- the whole contract of a result
  pub content_answer : (answer : Result C FormatFault) → IsAnswer answer
      → IsContent IsOf (λ fault. IsFaultOf magic IsOf IsFront bytes fault) answer
  content_answer answer is = record {
    found = answer_found answer is;
    only = answer_only answer is;
    fault = answer_fault answer is;
  }

-- results made from the content of a file
module _ {C T : Type 0} (magic bytes : List ℕ) (IsOf IsRead : C → Type 0) (IsFront IsBad : ℕ → Type 0)
    (facts : FileFacts magic bytes IsOf IsRead IsFront IsBad) (Reports : C → T → Type 0) where
  abbrev IsFault : FormatFault → Type 0
  IsFault fault = IsFileAnswer IsRead IsBad (other_version magic bytes) (Err fault)

  abbrev IsReporting : Result T FormatFault → Type 0
  IsReporting answer = MatchResult answer (λ reported. (content : C) × IsRead content × Reports content reported) IsFault

  reporting_found : (IsRight : T → Type 0)
      → ((content : C) (reported : T) → IsOf content → Reports content reported → IsRight reported)
      → (answer : Result T FormatFault) → IsReporting answer → IfOk answer IsRight
  reporting_found IsRight all (Ok reported) is = all is.0 reported (facts.read_is is.0 is.1) is.2
  reporting_found IsRight all (Err fault) is = tt

  reporting_only : (answer : Result T FormatFault) → IsReporting answer → (content : C) → IsOf content
      → IfOk answer (λ reported. Reports content reported) × IfErr answer (λ fault. fault ≡ Memory)
  reporting_only (Ok reported) is content spelled = (
    subst (λ c. Reports c reported) (facts.one is.0 content is.1 (facts.is_read content spelled)) is.2,
    tt,
  )
  reporting_only (Err fault) is content spelled =
      (tt, fault_only magic bytes IsOf IsRead IsFront IsBad facts fault is content spelled)

  reporting_fault : (answer : Result T FormatFault) → IsReporting answer
      → IfErr answer (λ fault. IsFaultOf magic IsOf IsFront bytes fault)
  reporting_fault (Ok reported) is = tt
  reporting_fault (Err fault) is = fault_is magic bytes IsOf IsRead IsFront IsBad facts fault is

  -- the whole contract of a result made from the content
  pub reporting : (IsRight : T → Type 0)
      → ((content : C) (reported : T) → IsOf content → Reports content reported → IsRight reported)
      → (answer : Result T FormatFault) → IsReporting answer
      → IsReported IsOf (λ fault. IsFaultOf magic IsOf IsFront bytes fault) IsRight Reports answer
  reporting IsRight all answer is = record {
    found = reporting_found IsRight all answer is;
    only = reporting_only answer is;
    fault = reporting_fault answer is;
  }
