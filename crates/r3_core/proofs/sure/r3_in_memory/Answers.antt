use Rattle.std.proofs.Common.{◌≡◌, ℕ, zero, suc, List, [], ◌∷◌, Option, refl, sym, inl, inr, ◌⊎◌, arith}
use Rattle.std.specs.List.{Contains}
use Rattle.r3_outside.specs.Growth.{Grew}
use Rattle.r3_faults.specs.Lines.{status_of, IsReported}
use Rattle.r3_core.proofs.sure.r3_in_memory.Goals as goal

too_long-or_memory : (x : ℕ) → Contains (3 ∷ 4 ∷ 14 ∷ []) x → (x ≡ 3 → ⊥) → (x ≡ 4) ⊎ (x ≡ 14)
too_long-or_memory x (zero, h, e) other = absurd (other (sym e))
too_long-or_memory x (suc zero, h, e) other = inl (sym e)
too_long-or_memory x (suc (suc zero), h, e) other = inr (sym e)
too_long-or_memory x (suc (suc (suc k)), h, e) other = absurd (omega arith)

refusal-or_memory : (x status : ℕ) → Contains (status ∷ 3 ∷ 14 ∷ []) x → (x ≡ 3 → ⊥) → (x ≡ status) ⊎ (x ≡ 14)
refusal-or_memory x status (zero, h, e) other = inl (sym e)
refusal-or_memory x status (suc zero, h, e) other = absurd (other (sym e))
refusal-or_memory x status (suc (suc zero), h, e) other = inr (sym e)
refusal-or_memory x status (suc (suc (suc k)), h, e) other = absurd (omega arith)

done-or_memory : (x : ℕ) → Contains (0 ∷ 3 ∷ 13 ∷ 14 ∷ []) x → (x ≡ 3 → ⊥) → (x ≡ 13 → ⊥) → (x ≡ 0) ⊎ (x ≡ 14)
done-or_memory x (zero, h, e) read write = inl (sym e)
done-or_memory x (suc zero, h, e) read write = absurd (read (sym e))
done-or_memory x (suc (suc zero), h, e) read write = absurd (write (sym e))
done-or_memory x (suc (suc (suc zero)), h, e) read write = inr (sym e)
done-or_memory x (suc (suc (suc (suc k))), h, e) read write = absurd (omega arith)

-- a sink without faults reports the whole line
grown : (before now : Option (List ℕ)) (line : List ℕ) → IsReported before now 0 0 line → Grew before now line
grown before now line (inl grew) = grew
grown before now line (inr (prefix, rose)) = absurd (omega (arith, rose))

pub returns-clause-no_read_fault : goal.returns-clause-no_read_fault
returns-clause-no_read_fault c = λ e. absurd (omega (arith, (c.r3.ensures.read e).2.2))

pub returns-clause-longer : goal.returns-clause-longer
returns-clause-longer c = λ job says longer.
    too_long-or_memory c.r3.result (c.r3.ensures.longer job says _ refl longer) (λ e. absurd (omega (arith, (c.r3.ensures.read e).2.2)))

pub returns-clause-refused : goal.returns-clause-refused
returns-clause-refused c = λ job fault says none refusal.
    refusal-or_memory c.r3.result (status_of fault)
    (c.r3.ensures.refused job fault says _ refl none refusal)
    (λ e. absurd (omega (arith, (c.r3.ensures.read e).2.2)))

pub returns-clause-done : goal.returns-clause-done
returns-clause-done c = λ job says none doable.
    done-or_memory c.r3.result (c.r3.ensures.done job says _ refl none doable)
    (λ e. absurd (omega (arith, (c.r3.ensures.read e).2.2))) (λ e. absurd (omega (arith, c.r3.ensures.write e)))

pub returns-clause-nothing_printed : goal.returns-clause-nothing_printed
returns-clause-nothing_printed c = λ other.
    c.r3.ensures.nothing_printed other (λ e. absurd (omega (arith, c.r3.ensures.write e)))

pub returns-clause-reported : goal.returns-clause-reported
returns-clause-reported c = λ other.
    let reported = c.r3.ensures.reported other in
    (reported.0, reported.1, reported.2, grown c.args.err.now c.r3.new.err _ reported.3)
