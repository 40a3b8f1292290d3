-- The bytes after numbers and ends.
use Rattle.std.proofs.Common.{◌≡◌, ℕ, ◌-◌, ◌<◌, ◌≤◌, true, List, [], ◌∷◌, length, take, drop, Some, ap, sym, arith}
use Rattle.std.specs.Prelude.{nat_eq}
use lib.Pointwise.{pointwise}
use Rattle.std.proofs.lemmas.Bool.{eqb-true}
use Rattle.std.proofs.lemmas.List.{length-append, length-drop}
use Rattle.base.proofs.Booleans.{and_left}
use Rattle.wasm_syntax.specs.Encoding.Combinators.{Reader}
use Rattle.base.specs.declared.outcomes.Outcome.{Outcome}
use Rattle.trace_bytes.specs.declared.tags.TheConstants.{TAG_CLOSE}
use Rattle.trace_format.specs.Files.{IsMore}
use Rattle.trace_format.specs.Reading.{first_close, first_number, first_outcome}
use Rattle.trace_format.specs.Laws.{NumberLaws}
use Rattle.trace_format.proofs.ItemReaders.{outcome_reads}
use Rattle.trace_format.proofs.PartReaders.{number_reads}

pub outcome_shorter : (left more : List ℕ) (outcome : Outcome) → first_outcome left ≡ Some (outcome, more)
    → length more ≤ length left
outcome_shorter left more outcome e =
    let f = outcome_reads.found left more outcome e in omega (arith, ap length f.2, length-append f.0 more)

pub more_is : {O : Type 0} (last : Reader O) (all left more : List ℕ) («end» : O) → last left ≡ Some («end», more)
    → 0 < length more → length more ≤ length all → IsMore last all left (length all - length more)
more_is last all left [] «end» e some few = absurd (omega (arith, some))
more_is last all left (b ∷ more) «end» e some few = («end», b, more, e, omega (arith, few))

-- reads the byte that ends a tape
pub close_read : (left more : List ℕ) → pointwise nat_eq (take 1 left) (TAG_CLOSE ∷ []) ≡ true → more ≡ drop 1 left
    → first_close left ≡ Some (tt, more)
close_read [] more h e = cc
close_read (b ∷ rest) more h e =
    let same : b ≡ TAG_CLOSE = eqb-true b TAG_CLOSE (and_left (nat_eq b TAG_CLOSE) true h) in
    rw same (ap (λ r. Some (tt, r)) (sym e))

pub close_shorter : (left more : List ℕ) → more ≡ drop 1 left → length more ≤ length left
close_shorter left more e = omega (arith, ap length e, length-drop 1 left)

-- the bytes after a number are no more than the bytes with it
pub number_shorter : NumberLaws → (input rest : List ℕ) (n : ℕ) → first_number input ≡ Some (n, rest)
    → length rest ≤ length input
number_shorter laws input rest n e =
    let f = (number_reads laws).found input rest n e in omega (arith, ap length f.2, length-append f.0 rest)
