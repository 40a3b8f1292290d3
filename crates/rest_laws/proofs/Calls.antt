-- There is a rest, and a cut, from a top-level call on exactly where the call's number is below the number of such calls.
use Rattle.std.proofs.Common.{ℕ, zero, suc, [], ◌∷◌, Option, Some, refl, arith}
use Rattle.trace_model.specs.declared.tapes.Next.{Next}
use Rattle.trace_model.specs.declared.tapes.Next.TheVariants.{Call, Return, End, Trap}
use Rattle.history_spec.specs.declared.entries.Entry.TheVariants.{HostCall, ImportCall, ImportReturn}
use Rattle.rest_spec.specs.Rests.{without_one, with_call, by_call, rest_of, calls_in}
use Rattle.rest_spec.specs.KnownBefore.{open_after, by_end}
use Rattle.rest_spec.specs.Cuts.{as_first, cut_of, calls_by_end, tape_calls}
use Rattle.rest_laws.specs.Laws.{IsThereBelow, RestsAreThere, CutsAreThere}

-- at a call of the host
at_call : {X : Type 0} (opened number calls : ℕ) (this : X) (later : ℕ → Option X)
    → ((n : ℕ) → IsThereBelow (later n) n calls)
    → IsThereBelow (by_call opened number (Some this) later) number (with_call opened calls)
at_call zero zero calls this later rest =
    record { there = λ below. (this, refl); below = λ x h. omega arith }
at_call zero (suc number) calls this later rest =
    let r = rest number in
    record {
      there = λ below. r.there (omega (arith, below));
      below = λ x h. let b = r.below x h in omega (arith, b);
    }
at_call (suc opened) number calls this later rest = rest number

-- at the end of an activity
at_end : {X : Type 0} (opened number : ℕ) (next : Next) (this : X) (later : (number opened : ℕ) → Option X)
    (calls : ℕ → ℕ) → ((n o : ℕ) → IsThereBelow (later n o) n (calls o))
    → IsThereBelow (by_end opened number next (Some this) later) number (calls_by_end opened next calls)
at_end opened number (Call func args) this later calls rest =
    at_call opened number (calls opened) this (λ n. later n opened) (λ n. rest n opened)
at_end opened number (Return result) this later calls rest = rest number (without_one opened)
at_end opened number End this later calls rest = rest number opened
at_end opened number Trap this later calls rest = rest number opened

pub rests_are_there : RestsAreThere
rests_are_there [] number opened =
    record { there = λ below. absurd (omega (arith, below)); below = λ rest h. cc }
rests_are_there (HostCall func args ∷ later) number opened =
    at_call opened number (calls_in later opened) (HostCall func args ∷ later) (λ n. rest_of later n opened)
    (λ n. rests_are_there later n opened)
rests_are_there (ImportCall import args ∷ later) number opened = rests_are_there later number (suc opened)
rests_are_there (ImportReturn import results ∷ later) number opened =
    rests_are_there later number (without_one opened)
rests_are_there (entry ∷ later) number opened = rests_are_there later number opened

pub cuts_are_there : CutsAreThere
cuts_are_there [] number opened =
    record { there = λ below. absurd (omega (arith, below)); below = λ cut h. cc }
cuts_are_there (segment ∷ later) number opened =
    at_end (open_after segment.origin opened) number segment.next (as_first segment ∷ later) (λ n o. cut_of n o later)
    (λ o. tape_calls later o) (λ n o. cuts_are_there later n o)
