-- Reading instructions one after another, as a loop does.
use Rattle.std.proofs.Common.{◌≡◌, ◌≢◌, ℕ, zero, suc, ◌-◌, ◌+◌, ◌≤◌, ◌<◌, List, [], ◌∷◌, ◌++◌, Option, Some, None, Bool, true, false, ◌==◌, length, reverse, refl, sym, ap, ◌∙◌, arith}
use Rattle.std.proofs.lemmas.Bool.{eqb-true, eqb-false}
use Rattle.std.proofs.lemmas.List.{append-nil, reverse-reverse}
use Rattle.std.specs.Prelude.{option_map, option_and_then}
use Rattle.wasm_syntax.specs.declared.forms.Form.{Form}
use Rattle.wasm_syntax.specs.declared.instructions.Instr.{Instr}
use Rattle.wasm_syntax.specs.Encoding.Readers.{first_instr, first_instrs, open_after}
use Rattle.leb_bytes.specs.declared.unread.Unread.{Unread}
use Rattle.leb_bytes.specs.declared.unread.Unread.TheVariants.{NotThere, Memory}
use Rattle.leb_bytes.specs.ReadResults.{Misses}
use Rattle.wasm_decode.proofs.ItemLemmas.{with_front, regroup}

-- while a block is open another instruction is read
one_more : (form : Form) (most : ℕ) (blocks : List Bool) (bytes : List ℕ) → [] ≢ blocks
    → first_instrs form (suc most) blocks bytes ≡ option_and_then (λ first. option_and_then (λ still.
    option_map (λ others. (first.0 ∷ others.0, others.1)) (first_instrs form most still first.1))
    (open_after first.0 blocks)) (first_instr form bytes)
unfolding first_instrs
one_more form most [] bytes some = absurd (some refl)
one_more form most (b ∷ blocks) bytes some = refl

none_left : (form : Form) (blocks : List Bool) (bytes : List ℕ) → [] ≢ blocks → first_instrs form 0 blocks bytes ≡ None
unfolding first_instrs
none_left form [] bytes some = absurd (some refl)
none_left form (b ∷ blocks) bytes some = refl

pub goes_on : (form : Form) (front : List Instr) (count i : ℕ) (blocks still : List Bool) (bytes : List ℕ)
    (instr : Instr) (rest : List ℕ) (all : Option (List Instr × List ℕ))
    → i < count → [] ≢ blocks
    → first_instr form bytes ≡ Some (instr, rest) → open_after instr blocks ≡ Some still
    → with_front front (first_instrs form (count - i) blocks bytes) ≡ all
    → with_front (front ++ instr ∷ []) (first_instrs form (count - (i + 1)) still rest) ≡ all
goes_on form front count i blocks still bytes instr rest all lt some read opened so_far =
    let k : count - i ≡ suc (count - (i + 1)) = omega arith in
    let one : with_front front (first_instrs form (count - i) blocks bytes)
    ≡ with_front (front ++ instr ∷ []) (first_instrs form (count - (i + 1)) still rest) =
    rw (k, one_more form (count - (i + 1)) blocks bytes some, read, opened)
    (regroup front instr (first_instrs form (count - (i + 1)) still rest)) in
    sym one ∙ so_far

no_block : (form : Form) (most : ℕ) (bytes : List ℕ) → first_instrs form most [] bytes ≡ Some ([], bytes)
unfolding first_instrs
no_block form zero bytes = refl
no_block form (suc most) bytes = refl

pub ends : (form : Form) (front : List Instr) (most : ℕ) (blocks : List Bool) (bytes : List ℕ)
    (all : Option (List Instr × List ℕ))
    → blocks ≡ []
    → with_front front (first_instrs form most blocks bytes) ≡ all → all ≡ Some (front, bytes)
ends form front most blocks bytes all none so_far =
    let one : with_front front (first_instrs form most blocks bytes) ≡ Some (front, bytes) =
    rw (none, no_block form most bytes) (ap (λ (instrs : List Instr). Some (instrs, bytes)) (append-nil front)) in
    sym so_far ∙ one

pub misses : (form : Form) (unread : Unread) (front : List Instr) (count i : ℕ) (blocks : List Bool) (bytes : List ℕ)
    (all : Option (List Instr × List ℕ))
    → i < count → [] ≢ blocks → Misses unread (first_instr form bytes)
    → with_front front (first_instrs form (count - i) blocks bytes) ≡ all → Misses unread all
misses form Memory front count i blocks bytes all lt some none so_far = tt
misses form NotThere front count i blocks bytes all lt some none so_far =
    let k : count - i ≡ suc (count - (i + 1)) = omega arith in
    let one : with_front front (first_instrs form (count - i) blocks bytes)
    ≡ None = rw (k, one_more form (count - (i + 1)) blocks bytes some, none) refl in
    sym so_far ∙ one

pub misplaced : (form : Form) (unread : Unread) (front : List Instr) (count i : ℕ) (blocks : List Bool)
    (bytes : List ℕ) (instr : Instr) (rest : List ℕ) (all : Option (List Instr × List ℕ))
    → i < count → [] ≢ blocks
    → first_instr form bytes ≡ Some (instr, rest) → Misses unread (open_after instr blocks)
    → with_front front (first_instrs form (count - i) blocks bytes) ≡ all → Misses unread all
misplaced form Memory front count i blocks bytes instr rest all lt some read none so_far = tt
misplaced form NotThere front count i blocks bytes instr rest all lt some read none so_far =
    let k : count - i ≡ suc (count - (i + 1)) = omega arith in
    let one : with_front front (first_instrs form (count - i) blocks bytes)
    ≡ None = rw (k, one_more form (count - (i + 1)) blocks bytes some, read, none) refl in
    sym so_far ∙ one

pub runs_out : (form : Form) (front : List Instr) (count i : ℕ) (blocks : List Bool) (bytes : List ℕ)
    (all : Option (List Instr × List ℕ))
    → count ≤ i → [] ≢ blocks
    → with_front front (first_instrs form (count - i) blocks bytes) ≡ all → all ≡ None
runs_out form front count i blocks bytes all le some so_far =
    let k : count - i ≡ 0 = omega arith in
    let one : with_front front (first_instrs form (count - i) blocks bytes)
    ≡ None = rw (k, none_left form blocks bytes some) refl in
    sym so_far ∙ one

empty_reverse : {A : Type 0} (xs : List A) → [] ≡ reverse xs → xs ≡ []
empty_reverse xs none = sym (reverse-reverse xs) ∙ ap reverse (sym none)

pub none_open : (blocks : List Bool) (count : ℕ) → count ≡ length blocks → (count == 0) ≡ true → reverse blocks ≡ []
none_open [] count same at_zero = refl
none_open (b ∷ blocks) count same at_zero =
    let none : count ≡ 0 = eqb-true count 0 at_zero in absurd (omega (arith, same))

pub some_open : (blocks : List Bool) (count : ℕ) → count ≡ length blocks → (count == 0) ≡ false → [] ≢ reverse blocks
some_open blocks count same some none = eqb-false count 0 some (same ∙ ap length (empty_reverse blocks none))
