-- Bytes encode at most one tape for a module, and are otherwise refused for one cause.
use Rattle.std.proofs.Common.{◌≡◌, ℕ, ◌^◌, ◌-◌, List, Option, Some, None, true, sym, ◌∙◌, ap, subst, refl, arith}
use Rattle.std.specs.Prelude.{min}
use Rattle.base.proofs.Options.{same_some}
use Rattle.wasm_syntax.specs.declared.modules.Module.{Module}
use Rattle.trace_model.specs.declared.tapes.Tape.{Tape}
use Rattle.trace_model.specs.Fitting.{IsFitting, first_unfit}
use Rattle.trace_model.specs.Weight.{tape_weight}
use Rattle.trace_format.specs.Faults.{IsTapeOf}
use Rattle.trace_format.specs.Laws.{TapesAreDistinguished}
use Rattle.trace_format.specs.Text.{tape_text}
use Rattle.r3_faults.specs.declared.faults.Fault.{Fault}
use Rattle.r3_faults.specs.declared.faults.Fault.TheVariants.{OtherModule, TapeLimit, Unfit}
use Rattle.r3_show.specs.FileLines.{IsUnshownAs}
use Rattle.r3_show.proofs.OneShown.{one_refusal, shown_apart}
use Rattle.r3_build.specs.BuildRefusals.{ByBytes, ByDigest, ByForm, ByWeight, IsOfOther, IsTakenAs, IsTooHeavy, IsUnfit, IsUntaken}

fits_or_not : (o : Option ℕ) (a : ℕ) → o ≡ None → o ≡ Some a → ⊥
fits_or_not o a e f = absurd (cc (sym e ∙ f))

module _ (tapes : TapesAreDistinguished) (m : Module) (digest bytes : List ℕ) where
  read_or_not : (found : List ℕ) (tape : Tape) (fault : Fault) → IsTapeOf bytes found tape
      → IsUnshownAs true bytes fault → ⊥
  read_or_not found tape fault read refused =
      shown_apart true bytes (tape_text found tape) fault
      (record { digest = found; tape = tape; spelled = read; lines = refl }) refused

  same_tape : (a b : Tape) → IsTapeOf bytes digest a → IsTapeOf bytes digest b → a ≡ b
  same_tape a b x y = (tapes bytes digest digest a b x y).1

  differs : (other : List ℕ) (a b : Tape) → IsTapeOf bytes other a → IsTapeOf bytes digest b → other ≡ digest
  differs other a b x y = (tapes bytes other digest a b x y).0

  other_one : (f g : Fault) → IsOfOther digest bytes f → IsOfOther digest bytes g → f ≡ g
  other_one f g u v =
      u.named ∙ ap (λ other. OtherModule other digest) (tapes bytes u.other v.other u.tape v.tape u.read v.read).0
      ∙ sym v.named

  unfit_one : (f g : Fault) → IsUnfit m digest bytes f → IsUnfit m digest bytes g → f ≡ g
  unfit_one f g u v =
      u.unfit.named
      ∙ ap Unfit (same_some (first_unfit m v.tape) u.unfit.segment v.unfit.segment
      (subst (λ t. first_unfit m t ≡ Some u.unfit.segment) (same_tape u.tape v.tape u.read v.read) u.unfit.first)
      v.unfit.first)
      ∙ sym v.unfit.named

  heavy_one : (f g : Fault) → IsTooHeavy m digest bytes f → IsTooHeavy m digest bytes g → f ≡ g
  heavy_one f g u v =
      u.named ∙ ap (λ t. TapeLimit (min (tape_weight t) (2 ^ 64 - 1))) (same_tape u.tape v.tape u.read v.read)
      ∙ sym v.named

  unfit_fits : (fault : Fault) (tape : Tape) → IsUnfit m digest bytes fault → IsTapeOf bytes digest tape
      → IsFitting m tape → ⊥
  unfit_fits fault tape u read fits =
      fits_or_not (first_unfit m u.tape) u.unfit.segment
      (subst (λ t. first_unfit m t ≡ None) (same_tape tape u.tape read u.read) fits) u.unfit.first

  pub untaken_one : (f g : Fault) → IsUntaken m digest bytes f → IsUntaken m digest bytes g → f ≡ g
  untaken_one f g (ByBytes u) (ByBytes v) = one_refusal true bytes f g u v
  untaken_one f g (ByBytes u) (ByDigest v) = absurd (read_or_not v.other v.tape f v.read u)
  untaken_one f g (ByBytes u) (ByForm v) = absurd (read_or_not digest v.tape f v.read u)
  untaken_one f g (ByBytes u) (ByWeight v) = absurd (read_or_not digest v.tape f v.read u)
  untaken_one f g (ByDigest u) (ByBytes v) = absurd (read_or_not u.other u.tape g u.read v)
  untaken_one f g (ByDigest u) (ByDigest v) = other_one f g u v
  untaken_one f g (ByDigest u) (ByForm v) = absurd (u.differs (differs u.other u.tape v.tape u.read v.read))
  untaken_one f g (ByDigest u) (ByWeight v) = absurd (u.differs (differs u.other u.tape v.tape u.read v.read))
  untaken_one f g (ByForm u) (ByBytes v) = absurd (read_or_not digest u.tape g u.read v)
  untaken_one f g (ByForm u) (ByDigest v) = absurd (v.differs (differs v.other v.tape u.tape v.read u.read))
  untaken_one f g (ByForm u) (ByForm v) = unfit_one f g u v
  untaken_one f g (ByForm u) (ByWeight v) = absurd (unfit_fits f v.tape u v.read v.fits)
  untaken_one f g (ByWeight u) (ByBytes v) = absurd (read_or_not digest u.tape g u.read v)
  untaken_one f g (ByWeight u) (ByDigest v) = absurd (v.differs (differs v.other v.tape u.tape v.read u.read))
  untaken_one f g (ByWeight u) (ByForm v) = absurd (unfit_fits g u.tape v u.read u.fits)
  untaken_one f g (ByWeight u) (ByWeight v) = heavy_one f g u v

  pub taken_untaken : (tape : Tape) (fault : Fault) → IsTakenAs m digest bytes tape
      → IsUntaken m digest bytes fault → ⊥
  taken_untaken tape fault is (ByBytes u) = read_or_not digest tape fault is.read u
  taken_untaken tape fault is (ByDigest u) = u.differs (differs u.other u.tape tape u.read is.read)
  taken_untaken tape fault is (ByForm u) = unfit_fits fault tape u is.read is.fits
  taken_untaken tape fault is (ByWeight u) =
      let same = ap tape_weight (same_tape tape u.tape is.read u.read) in
      omega (arith, is.light, u.heavy, same)

  pub taken_one : (a b : Tape) → IsTakenAs m digest bytes a → IsTakenAs m digest bytes b → a ≡ b
  taken_one a b x y = same_tape a b x.read y.read
