use Rattle.std.proofs.Common.{◌≡◌, List, [], ◌∷◌, length, Err, Some, sym, ap, refl, ◌∙◌, arith}
use Rattle.serde_json.specs.declared.value.Value.{Value}
use Rattle.serde_json.specs.View.{items_view}
use Rattle.script_text.specs.declared.faults.ScriptFault.TheVariants.{Shape}
use Rattle.script_text.specs.Actions.{two_names}
use Rattle.script_text.proofs.targets.read_names.Goals as goal

not_two : (vs : List Value) → (length vs ≡ 2 → ⊥) → two_names (Some (items_view vs)) ≡ Err (Shape [])
not_two [] h = refl
not_two (a ∷ []) h = refl
not_two (a ∷ b ∷ []) h = absurd (h refl)
not_two (a ∷ b ∷ c ∷ vs) h = refl

pub returns-in-len1 : goal.returns-in-len1
returns-in-len1 c =
    let other : length c.in-Some.items.now.items ≡ 2 → ⊥ =
    λ e. absurd (omega (arith, e, c.as_slice.ensures.len, ap length c.as_slice.ensures.value, c.in-len1.len_below)) in
    λ no_memory. ap two_names (sym c.in-Some.ensures) ∙ not_two c.in-Some.items.now.items other ∙ ap Err (sym c.shape-in-len1.ensures)

pub returns-in-len3-up : goal.returns-in-len3-up
returns-in-len3-up c =
    let other : length c.in-Some.items.now.items ≡ 2 → ⊥ = λ e. absurd (omega (arith, e, ap length c.as_slice.ensures.value, c.in-len3-up.len_at_least)) in
    λ no_memory. ap two_names (sym c.in-Some.ensures) ∙ not_two c.in-Some.items.now.items other ∙ ap Err (sym c.shape-in-len3-up.ensures)
