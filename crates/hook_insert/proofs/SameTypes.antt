-- Types that are compared one by one.
use Rattle.std.proofs.Common.{◌≡◌, ℕ, ◌+◌, ◌<◌, ◌≤◌, List, length, drop, get_or, Bool, true, false, ◌&&◌, sym, ap, ap₂, ◌∙◌}
use Rattle.std.proofs.lemmas.Bool.{false_from_ne_true}
use Rattle.std.proofs.lemmas.List.{drop_more, drop_all}
use Rattle.wasm_syntax.specs.declared.values.ValType.{ValType}
use Rattle.wasm_syntax.specs.declared.values.ValType.TheVariants.{I32}
use Rattle.wasm_syntax.specs.Alike.{same_type, same_types}
use Rattle.wasm_syntax.proofs.ValTypes.{types_same}

pub of_other_length : (a b : List ValType) → (length a ≡ length b → ⊥) → false ≡ same_types a b
of_other_length a b h = sym (false_from_ne_true (same_types a b) (λ same. h (ap length (types_same a b same))))

pub one_more : (a b : List ValType) (i : ℕ) (same : Bool) → i < length a → i < length b
    → same ≡ same_type (get_or a i I32) (get_or b i I32)
    → same_types (drop i a) (drop i b) ≡ (same && same_types (drop (i + 1) a) (drop (i + 1) b))
one_more a b i same in_a in_b is =
    ap₂ same_types (drop_more a i I32 in_a) (drop_more b i I32 in_b)
    ∙ ap (λ t. t && same_types (drop (i + 1) a) (drop (i + 1) b)) (sym is)

pub no_more : (a b : List ValType) (i : ℕ) → length a ≤ i → length b ≤ i → same_types (drop i a) (drop i b) ≡ true
no_more a b i past_a past_b = ap₂ same_types (drop_all i a past_a) (drop_all i b past_b)
