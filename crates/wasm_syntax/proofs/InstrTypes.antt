-- What is known after an instruction holds of exactly the stacks to which its type leads.
use Rattle.std.proofs.Common.{◌≡◌, ℕ, List, [], ◌∷◌, ◌++◌, Option, Some, None, Bool, true, false, cond, ◌&&◌, IsTrue, slice_get, option_and_then, refl, sym, ap, ◌∙◌, subst}
use Rattle.std.proofs.lemmas.List.Elements.{All-from_recursion, recursion_from_All}
use Rattle.std.specs.List.{list_all, AllByRecursion}
use Rattle.std.specs.Cmp.Lexicographic.{pointwise, pointwise_decides}
use Rattle.base.proofs.Booleans.{and_parts, and_true}
use Rattle.base.proofs.Options.{and_then_some, cond_some}
use Rattle.wasm_syntax.proofs.ValTypes.{type_same, type_own}
use Rattle.wasm_syntax.specs.declared.values.ValType.{ValType}
use Rattle.wasm_syntax.specs.declared.values.ValType.TheVariants.{I32}
use Rattle.wasm_syntax.specs.Typing.{Context, InstrType, Moves, Drops, Selects, Leaves, Switches, is_number, Leads}
use Rattle.wasm_syntax.specs.KnownStacks.{Known, known_stack, anything, IsSlot, AreSlots, Fits, same_type, may_be, push_types, pop, pops, drop_any, common_slot, select_slot, takes, common_label, after_instr}
use Rattle.wasm_syntax.proofs.KnownStacks.{slot_true, slot_from_true, pop_fits, pop_from_fits, pops_fits, pops_from_fits, pushed_fits, below_pushed, some_fits, some_type}

-- ---- `drop`

dropped_fits : (slots : List (Option ValType)) (free : Bool) (t : ValType) (types : List ValType)
    → AreSlots slots free (t ∷ types) → (below : Known) × (drop_any slots free ≡ Some below) × Fits below types
dropped_fits [] true t types h = (anything, refl, tt)
dropped_fits [] false t types h = cc
dropped_fits (slot ∷ slots) free t types h = (known_stack slots free, refl, h.1)

dropped_from : (slots : List (Option ValType)) (free : Bool) (below : Known) (types : List ValType)
    → drop_any slots free ≡ Some below → Fits below types → (t : ValType) × AreSlots slots free (t ∷ types)
dropped_from [] true below types e h = (I32, tt)
dropped_from [] false below types e h = cc
dropped_from (slot ∷ slots) free below types e h =
    let is_below : known_stack slots free ≡ below = cc in
    let t = some_type slot in
    (t.0, (t.1, subst (λ k. Fits k types) (sym is_below) h))

-- ---- `select`

joined_fits : (one other : Option ValType) (t : ValType) → IsTrue (is_number t) → IsSlot one t → IsSlot other t
    → (slot : Option ValType) × (common_slot one other ≡ Some slot) × IsSlot slot t
joined_fits None None t number p q = (None, refl, number)
joined_fits None (Some u) t number p q = (Some u, rw (subst (λ v. is_number v ≡ true) q number) refl, q)
joined_fits (Some u) other t number p q =
    let is_here : (is_number u && may_be u other) ≡ true = subst (λ v. (is_number v && may_be v other) ≡ true) p
    (and_true (is_number t) (may_be t other) number (slot_true other t q)) in
    (Some u, rw is_here refl, p)

joined_from : (one other slot : Option ValType) (t : ValType) → common_slot one other ≡ Some slot → IsSlot slot t
    → IsTrue (is_number t) × IsSlot one t × IsSlot other t
joined_from None None slot t e h =
    let is_slot : None ≡ slot = cc in
    let number = subst (λ o. IsSlot o t) (sym is_slot) h in
    (number, number, number)
joined_from None (Some u) slot t e h =
    let p = cond_some (is_number u) (Some (Some u)) slot e in
    let is_slot : Some u ≡ slot = cc in
    let here : t ≡ u = subst (λ o. IsSlot o t) (sym is_slot) h in
    let number : is_number t ≡ true = ap is_number here ∙ p.0 in
    (number, number, here)
joined_from (Some u) other slot t e h =
    let p = cond_some (is_number u && may_be u other) (Some (Some u)) slot e in
    let tests = and_parts (is_number u) (may_be u other) p.0 in
    let is_slot : Some u ≡ slot = cc in
    let here : t ≡ u = subst (λ o. IsSlot o t) (sym is_slot) h in
    (ap is_number here ∙ tests.0, here, slot_from_true other t (ap (λ v. may_be v other) here ∙ tests.1))

-- a stack with an operand known on top has one
first_of : (slot : Option ValType) (slots : List (Option ValType)) (free : Bool) (types : List ValType)
    → AreSlots (slot ∷ slots) free types
    → (t : ValType) × (below : List ValType) × (types ≡ t ∷ below) × IsSlot slot t × AreSlots slots free below
first_of slot slots free [] h = absurd h
first_of slot slots free (t ∷ below) h = (t, below, refl, h.0, h.1)

selected_fits : (slots : List (Option ValType)) (free : Bool) (t : ValType) (types : List ValType)
    → IsTrue (is_number t) → AreSlots slots free (t ∷ t ∷ types)
    → (after_instr : Known) × (select_slot slots free ≡ Some after_instr) × Fits after_instr (t ∷ types)
selected_fits [] true t types number h = (known_stack (None ∷ []) true, refl, (number, tt))
selected_fits [] false t types number h = cc
selected_fits (one ∷ []) true t types number h =
    let p = joined_fits one None t number h.0 number in
    (known_stack (p.0 ∷ []) true, rw p.1 refl, (p.2, tt))
selected_fits (one ∷ []) false t types number h = cc
selected_fits (one ∷ other ∷ slots) free t types number h =
    let p = joined_fits one other t number h.0 h.1.0 in
    (known_stack (p.0 ∷ slots) free, rw p.1 refl, (p.2, h.1.1))

selected_from : (slots : List (Option ValType)) (free : Bool) (after : Known) (types : List ValType)
    → select_slot slots free ≡ Some after → Fits after types
    → (t : ValType) × (below : List ValType) × IsTrue (is_number t) × AreSlots slots free (t ∷ t ∷ below) × (types ≡ t ∷ below)
selected_from [] true after types e h =
    let is_after : known_stack (None ∷ []) true ≡ after = cc in
    let p = first_of None [] true types (subst (λ k. Fits k types) (sym is_after) h) in
    (p.0, p.1, p.3, tt, p.2)
selected_from [] false after types e h = cc
selected_from (one ∷ []) true after types e h =
    let joins = and_then_some (common_slot one None) (λ slot. Some (known_stack (slot ∷ []) true)) after e in
    let is_after : known_stack (joins.0 ∷ []) true ≡ after = cc in
    let p = first_of joins.0 [] true types (subst (λ k. Fits k types) (sym is_after) h) in
    let q = joined_from one None joins.0 p.0 joins.1 p.3 in
    (p.0, p.1, q.0, (q.1, tt), p.2)
selected_from (one ∷ []) false after types e h = cc
selected_from (one ∷ other ∷ slots) free after types e h =
    let joins = and_then_some (common_slot one other) (λ slot. Some (known_stack (slot ∷ slots) free)) after e in
    let is_after : known_stack (joins.0 ∷ slots) free ≡ after = cc in
    let p = first_of joins.0 slots free types (subst (λ k. Fits k types) (sym is_after) h) in
    let q = joined_from one other joins.0 p.0 joins.1 p.3 in
    (p.0, p.1, q.0, (q.1, (q.2, p.4)), p.2)

-- ---- `br_table`

types_decide : (xs ys : List ValType)
    → (pointwise same_type xs ys ≡ true → xs ≡ ys) × (xs ≡ ys → pointwise same_type xs ys ≡ true)
types_decide = pointwise_decides {K = ValType} {E = same_type} (λ t u. (type_same t u, λ e. subst (λ v. same_type t v ≡ true) e (type_own t)))

takes_true : (label : List ValType) (o : Option (List ValType)) → o ≡ Some label → takes label o ≡ true
takes_true label o h = rw h ((types_decide label label).1 refl)

takes_from_true : (label : List ValType) (o : Option (List ValType)) → takes label o ≡ true → o ≡ Some label
takes_from_true label None h = cc
takes_from_true label (Some other) h = ap Some (sym ((types_decide label other).0 h))

module _ (labels : List (List ValType)) (label : List ValType) where
  all_take : (ls : List ℕ) → AllByRecursion (λ l. slice_get labels l ≡ Some label) ls
      → list_all (λ k. takes label (slice_get labels k)) ls ≡ true
  all_take [] h = refl
  all_take (l ∷ ls) h =
      and_true (takes label (slice_get labels l)) (list_all (λ k. takes label (slice_get labels k)) ls)
      (takes_true label (slice_get labels l) h.0) (all_take ls h.1)

  each_takes : (ls : List ℕ) → list_all (λ k. takes label (slice_get labels k)) ls ≡ true
      → AllByRecursion (λ l. slice_get labels l ≡ Some label) ls
  each_takes [] h = tt
  each_takes (l ∷ ls) h =
      let p = and_parts (takes label (slice_get labels l)) (list_all (λ k. takes label (slice_get labels k)) ls) h in
      (takes_from_true label (slice_get labels l) p.0, each_takes ls p.1)

-- labels that all take the type_same types share them; no label shares any
shared_is : (labels : List (List ValType)) (label : List ValType) (targets : List ℕ)
    → AllByRecursion (λ l. slice_get labels l ≡ Some label) targets
    → (it : List ValType) × (common_label labels targets ≡ Some it) × ((stack : Known) (below : List ValType)
    → Fits stack (I32 ∷ (label ++ below)) → (below' : List ValType) × Fits stack (I32 ∷ (it ++ below')))
shared_is labels label [] h = ([], refl, λ stack below fits. (label ++ below, fits))
shared_is labels label (l ∷ ls) h =
    (label, rw h.0 (rw (all_take labels label ls h.1) refl), λ stack below fits. (below, fits))

shared_from : (labels : List (List ValType)) (label : List ValType) (targets : List ℕ)
    → common_label labels targets ≡ Some label → AllByRecursion (λ l. slice_get labels l ≡ Some label) targets
shared_from labels label [] h = tt
shared_from labels label (l ∷ ls) h =
    let first = and_then_some (slice_get labels l) (λ it. cond (list_all (λ k. takes it (slice_get labels k)) ls) (Some it) None) label h in
    let p = cond_some (list_all (λ k. takes first.0 (slice_get labels k)) ls) (Some first.0) label first.2 in
    let is_label : first.0 ≡ label = cc in
    (first.1 ∙ ap Some is_label, each_takes labels label ls (subst (λ it. list_all (λ k. takes it (slice_get labels k)) ls ≡ true) is_label p.0))

-- ---- each effect

-- what is known after an instruction of a type holds of the stacks to which it leads from a stack of what is known
pub behind_fits : (ctx : Context) (effect : Option InstrType) (stack : Known) (before after : List ValType)
    → Fits stack before → Leads ctx effect before after
    → (next : Known) × (after_instr ctx effect stack ≡ Some next) × Fits next after
behind_fits ctx None stack before after fits leads = absurd leads
behind_fits ctx (Some (Moves operands results)) stack before after fits leads =
    let p = pops_fits operands stack leads.below (subst (Fits stack) leads.had fits) in
    (push_types results p.0, rw p.1 refl, subst (Fits (push_types results p.0)) (sym leads.left) (pushed_fits results p.0 leads.below p.2))
behind_fits ctx (Some Drops) stack before after fits leads =
    dropped_fits stack.slots stack.free leads.ty after (subst (Fits stack) leads.had fits)
behind_fits ctx (Some Selects) stack before after fits leads =
    let p = pop_fits I32 stack.slots stack.free (leads.ty ∷ leads.ty ∷ leads.below) (subst (Fits stack) leads.had fits) in
    let q = selected_fits p.0.slots p.0.free leads.ty leads.below leads.number p.2 in
    (q.0, rw p.1 q.1, subst (Fits q.0) (sym leads.left) q.2)
behind_fits ctx (Some (Leaves operands)) stack before after fits leads =
    let p = pops_fits operands stack leads.below (subst (Fits stack) leads.had fits) in
    (anything, rw p.1 refl, tt)
behind_fits ctx (Some (Switches targets)) stack before after fits leads =
    let it = shared_is ctx.labels leads.label targets (recursion_from_All (λ l. slice_get ctx.labels l ≡ Some leads.label) targets leads.each) in
    let q = it.2 stack leads.stands.below (subst (Fits stack) leads.stands.had fits) in
    let p = pops_fits (I32 ∷ it.0) stack q.0 q.1 in
    (anything, rw it.1 (rw p.1 refl), tt)

-- a stack that fits what is known after a type is one to which it leads
pub behind_from : (ctx : Context) (effect : Option InstrType) (stack next : Known) (after : List ValType)
    → after_instr ctx effect stack ≡ Some next → Fits next after
    → (before : List ValType) × Fits stack before × Leads ctx effect before after
behind_from ctx None stack next after e fits = cc
behind_from ctx (Some (Moves operands results)) stack next after e fits =
    let p = and_then_some (pops operands stack) (λ below. Some (push_types results below)) next e in
    let is_next : push_types results p.0 ≡ next = cc in
    let q = below_pushed results p.0 after (subst (λ k. Fits k after) (sym is_next) fits) in
    (operands ++ q.0, pops_from_fits operands stack p.0 q.0 p.1 q.2, record { below = q.0; had = refl; left = q.1 })
behind_from ctx (Some Drops) stack next after e fits =
    let p = dropped_from stack.slots stack.free next after e fits in
    (p.0 ∷ after, p.1, record { ty = p.0; had = refl })
behind_from ctx (Some Selects) stack next after e fits =
    let p = and_then_some (pop I32 stack) (λ below. select_slot below.slots below.free) next e in
    let q = selected_from p.0.slots p.0.free next after p.2 fits in (
      I32 ∷ q.0 ∷ q.0 ∷ q.1,
      pop_from_fits I32 stack.slots stack.free p.0 (q.0 ∷ q.0 ∷ q.1) p.1 q.3,
      record { ty = q.0; below = q.1; number = q.2; had = refl; left = q.4 },
    )
behind_from ctx (Some (Leaves operands)) stack next after e fits =
    let p = and_then_some (pops operands stack) (λ below. Some anything) next e in
    let below = some_fits p.0 in
    (operands ++ below.0, pops_from_fits operands stack p.0 below.0 p.1 below.1, record { below = below.0; had = refl })
behind_from ctx (Some (Switches targets)) stack next after e fits =
    let it = and_then_some (common_label ctx.labels targets) (λ label. option_and_then (λ below. Some anything) (pops (I32 ∷ label) stack)) next e in
    let p = and_then_some (pops (I32 ∷ it.0) stack) (λ below. Some anything) next it.2 in
    let below = some_fits p.0 in (
      I32 ∷ (it.0 ++ below.0),
      pops_from_fits (I32 ∷ it.0) stack p.0 below.0 p.1 below.1,
      record {
        label = it.0;
        each = All-from_recursion (λ l. slice_get ctx.labels l ≡ Some it.0) targets (shared_from ctx.labels it.0 targets it.1);
        stands = record { below = below.0; had = refl };
      },
    )
