-- Names in ASCII, expressions of one instruction, and the segments of a module with one table at most.
use Rattle.std.proofs.Common.{◌≡◌, ℕ, zero, suc, ◌≤◌, List, [], ◌∷◌, length, Some, Bool, true, ap, arith}
use Rattle.std.specs.Prelude.{nat_lt}
use Rattle.std.specs.List.{list_all}
use Rattle.std.specs.Str.{IsAscii}
use Rattle.std.proofs.lemmas.Bool.Decides.{nat_tests}
use Rattle.base.proofs.Booleans.{and_left, and_right}
use Rattle.wasm_syntax.specs.declared.instructions.Instr.{Instr}
use Rattle.wasm_syntax.specs.declared.instructions.Instr.TheVariants.{End}
use Rattle.wasm_syntax.specs.declared.modules.ElemSeg.{ElemSeg}
use Rattle.wasm_syntax.specs.declared.modules.ElemSeg.TheVariants.{Active, Declared}
use Rattle.wasm_syntax.specs.declared.modules.Module.{Module}
use Rattle.wasm_syntax.specs.Encoding.Forms.{IsOfTableZero}
use Rattle.wasm_syntax.specs.Index.{all_tables}
use Rattle.wasm_syntax.specs.Validity.{IsElem, single}

abbrev pub is_ascii : ℕ → Bool
is_ascii byte = nat_lt byte 128

pub each_ascii : (bytes : List ℕ) → list_all is_ascii bytes ≡ true → IsAscii bytes
each_ascii [] all i = omega arith
each_ascii (byte ∷ bytes) all zero =
    let first = and_left (is_ascii byte) (list_all is_ascii bytes) all in grind (arith, nat_tests, first)
each_ascii (byte ∷ bytes) all (suc i) = each_ascii bytes (and_right (is_ascii byte) (list_all is_ascii bytes) all) i

pub single_is : (body : List Instr) (i : Instr) → single body ≡ Some i → body ≡ i ∷ End ∷ []
single_is (j ∷ End ∷ []) i h = let same : j ≡ i = cc in ap (λ k. k ∷ End ∷ []) same
single_is body i h = cc

pub elem_of_zero : (m : Module) → length (all_tables m) ≤ 1 → (elem : ElemSeg) → IsElem m elem → IsOfTableZero elem
elem_of_zero m one (Active table offset funcs) is = let there = is.0 in omega (arith, there, one)
elem_of_zero m one (Declared funcs) is = tt
