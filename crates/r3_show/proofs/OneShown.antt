-- Bytes have at most one text, and otherwise one fault.
use Rattle.std.proofs.Common.{◌≡◌, ℕ, inl, inr, List, Bool, true, false, Result, Vec, refl, sym, ◌∙◌, ap, arith}
use Rattle.trace_model.specs.declared.events.Log.{Log}
use Rattle.trace_model.specs.declared.tapes.Tape.{Tape}
use Rattle.trace_bytes.specs.declared.tags.TheConstants.{LOG_MAGIC, TAPE_MAGIC}
use Rattle.trace_format.specs.Faults.{IsFaultOf, IsFaultPlace, IsLogFront, IsLogOf, IsOtherVersion, IsTapeFront, IsTapeOf}
use Rattle.trace_format.specs.Laws.{LogsAreDistinguished, TapesAreDistinguished}
use Rattle.trace_format.specs.Text.{log_text, tape_text}
use Rattle.trace_format.specs.declared.files.FormatFault.{FormatFault}
use Rattle.trace_format.specs.declared.files.FormatFault.TheVariants.{Version, Bad, Memory}
use Rattle.trace_format.proofs.Versions.{fifth_same, log_version, tape_version}
use Rattle.r3_faults.specs.Answers.{IsCaused, IsExact}
use Rattle.r3_faults.specs.declared.faults.Fault.{Fault}
use Rattle.r3_faults.proofs.OneAnswer.{exact_answer}
use Rattle.r3_show.specs.FileLines.{IsCauseAs, IsShownAs, IsUnshownAs, fault_of}

-- ---- causes

module _ {C : Type 0} (magic bytes : List ℕ) (IsOf : C → Type 0) (IsFront : ℕ → Type 0)
    (version : (content : C) (found : ℕ) → IsOf content → IsOtherVersion magic bytes found → ⊥) where
  abbrev IsCause : FormatFault → Type 0
  IsCause = IsFaultOf magic IsOf IsFront bytes

  one_place : (a b : ℕ) → IsFaultPlace IsFront a → IsFaultPlace IsFront b → a ≡ b
  one_place a b (inl x) (inl y) = x.1 ∙ sym y.1
  one_place a b (inl x) (inr y) = absurd (x.0 b y.0)
  one_place a b (inr x) (inl y) = absurd (y.0 a x.0)
  one_place a b (inr x) (inr y) = omega (arith, y.1 a x.0, x.1 b y.0)

  one_cause : (f g : FormatFault) → (f ≡ Memory → ⊥) → (g ≡ Memory → ⊥) → IsCause f → IsCause g → f ≡ g
  one_cause (Version a) (Version b) m n p q = ap Version (fifth_same magic p.rest q.rest a b (sym p.begins ∙ q.begins))
  one_cause (Version a) (Bad b) m n p q = absurd (q.0 a p)
  one_cause (Bad a) (Version b) m n p q = absurd (p.0 b q)
  one_cause (Bad a) (Bad b) m n p q = ap Bad (one_place a b p.2 q.2)
  one_cause Memory g m n p q = absurd (m refl)
  one_cause (Version a) Memory m n p q = absurd (n refl)
  one_cause (Bad a) Memory m n p q = absurd (n refl)

  no_cause : (content : C) (f : FormatFault) → (f ≡ Memory → ⊥) → IsOf content → IsCause f → ⊥
  no_cause content (Version a) m is cause = version content a is cause
  no_cause content (Bad a) m is cause = cause.1 content is
  no_cause content Memory m is cause = m refl

-- ---- what is shown

module _ (logs : LogsAreDistinguished) (tapes : TapesAreDistinguished) where
  one_text : (is_tape : Bool) (bytes x y : List ℕ) → IsShownAs is_tape bytes x → IsShownAs is_tape bytes y → x ≡ y
  one_text true bytes x y one two =
      let same = tapes bytes one.digest two.digest one.tape two.tape one.spelled two.spelled in
      one.lines ∙ ap (λ digest. tape_text digest one.tape) same.0 ∙ ap (tape_text two.digest) same.1 ∙ sym two.lines
  one_text false bytes x y one two =
      let same = logs bytes one.digest two.digest one.log two.log one.spelled two.spelled in
      one.lines ∙ ap (λ digest. log_text digest one.log) same.0 ∙ ap (log_text two.digest) same.1 ∙ sym two.lines

one_found : (is_tape : Bool) (bytes : List ℕ) (f g : FormatFault) → (f ≡ Memory → ⊥) → (g ≡ Memory → ⊥)
    → IsCauseAs is_tape bytes f → IsCauseAs is_tape bytes g → f ≡ g
one_found true bytes = one_cause TAPE_MAGIC bytes (λ (content : List ℕ × Tape). IsTapeOf bytes content.0 content.1) (IsTapeFront bytes) (tape_version bytes)
one_found false bytes = one_cause LOG_MAGIC bytes (λ (content : List ℕ × Log). IsLogOf bytes content.0 content.1) (IsLogFront bytes) (log_version bytes)

pub one_refusal : (is_tape : Bool) (bytes : List ℕ) (fault other : Fault) → IsUnshownAs is_tape bytes fault
    → IsUnshownAs is_tape bytes other → fault ≡ other
one_refusal is_tape bytes fault other one two =
    one.named ∙ ap fault_of (one_found is_tape bytes one.found two.found one.differs two.differs one.cause two.cause)
    ∙ sym two.named

pub shown_apart : (is_tape : Bool) (bytes text : List ℕ) (fault : Fault) → IsShownAs is_tape bytes text
    → IsUnshownAs is_tape bytes fault → ⊥
shown_apart true bytes text fault shown refused =
    no_cause TAPE_MAGIC bytes (λ (content : List ℕ × Tape). IsTapeOf bytes content.0 content.1) (IsTapeFront bytes) (tape_version bytes)
    (shown.digest, shown.tape) refused.found refused.differs shown.spelled refused.cause
shown_apart false bytes text fault shown refused =
    no_cause LOG_MAGIC bytes (λ (content : List ℕ × Log). IsLogOf bytes content.0 content.1) (IsLogFront bytes) (log_version bytes)
    (shown.digest, shown.log) refused.found refused.differs shown.spelled refused.cause

-- a result with its cause is exact
pub shown_exactly : {Z : Type 0} → LogsAreDistinguished → TapesAreDistinguished → (is_tape : Bool) (bytes : List ℕ)
    (answer : Result (Vec ℕ Z) Fault) → IsCaused (IsShownAs is_tape bytes) (IsUnshownAs is_tape bytes) answer
    → IsExact (IsShownAs is_tape bytes) (IsUnshownAs is_tape bytes) answer
shown_exactly logs tapes is_tape bytes answer is =
    exact_answer (IsShownAs is_tape bytes) (IsUnshownAs is_tape bytes) (shown_apart is_tape bytes)
    (one_text logs tapes is_tape bytes) (one_refusal is_tape bytes) answer is
