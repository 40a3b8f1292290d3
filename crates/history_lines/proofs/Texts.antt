-- The texts of instructions and of traps, in the parts in which they are appended.
use Rattle.std.proofs.Common.{◌≡◌, ℕ, List, ◌++◌, Option, sym, ap, ◌∙◌, append_assoc, codes}
use Rattle.wasm_syntax.specs.declared.values.Val.{Val}
use Rattle.history_spec.specs.declared.entries.TrapKind.{TrapKind}
use Rattle.history_spec.specs.declared.entries.Entry.TheVariants.{Trap}
use Rattle.history_spec.specs.Line.{entry_text, found_text, kind_text, number_text, with_space, values_text}

six-joined : (a b c d e f : List ℕ) → (a ++ (b ++ c)) ++ (d ++ (e ++ f)) ≡ ((((a ++ b) ++ c) ++ d) ++ e) ++ f
six-joined a b c d e f =
    ap (λ x. x ++ (d ++ (e ++ f))) (sym (append_assoc a b c))
    ∙ sym (append_assoc ((a ++ b) ++ c) d (e ++ f))
    ∙ sym (append_assoc (((a ++ b) ++ c) ++ d) e f)

pub trap-text : (func number : ℕ) (kind : TrapKind) (operands : List Val) (found : Option ℕ)
    → (codes "trap" ++ (number_text func ++ number_text number))
    ++ (with_space (kind_text kind) ++ (values_text operands ++ found_text found))
    ≡ entry_text (Trap func number kind operands found)
trap-text func number kind operands found =
    six-joined (codes "trap") (number_text func) (number_text number) (with_space (kind_text kind)) (values_text operands)
    (found_text found)
