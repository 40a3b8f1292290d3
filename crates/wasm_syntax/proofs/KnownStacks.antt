-- What pushing and popping on known stacks means for the stacks that fit them.
use Rattle.std.proofs.Common.{◌≡◌, List, [], ◌∷◌, ◌++◌, Option, Some, None, Bool, true, false, option_and_then, refl, sym, ap, ◌∙◌, subst}
use Rattle.std.proofs.lemmas.List.{append-nil}
use Rattle.base.proofs.Options.{and_then_some, cond_some}
use Rattle.wasm_syntax.proofs.ValTypes.{type_same, type_own}
use Rattle.wasm_syntax.specs.declared.values.ValType.{ValType}
use Rattle.wasm_syntax.specs.declared.values.ValType.TheVariants.{I32}
use Rattle.wasm_syntax.specs.KnownStacks.{Known, known_stack, anything, IsSlot, AreSlots, Fits, may_be, push_types, pop_from, pop, pops, none_left, is_over, ends}

-- ---- one operand

pub slot_true : (slot : Option ValType) (t : ValType) → IsSlot slot t → may_be t slot ≡ true
slot_true None t h = h
slot_true (Some u) t h = rw h (type_own u)

pub slot_from_true : (slot : Option ValType) (t : ValType) → may_be t slot ≡ true → IsSlot slot t
slot_from_true None t h = h
slot_from_true (Some u) t h = sym (type_same u t h)

pub pop_fits : (t : ValType) (slots : List (Option ValType)) (free : Bool) (types : List ValType)
    → AreSlots slots free (t ∷ types) → (below : Known) × (pop_from t slots free ≡ Some below) × Fits below types
pop_fits t [] true types h = (anything, refl, tt)
pop_fits t [] false types h = cc
pop_fits t (slot ∷ slots) free types h = (known_stack slots free, rw (slot_true slot t h.0) refl, h.1)

pub pop_from_fits : (t : ValType) (slots : List (Option ValType)) (free : Bool) (below : Known) (types : List ValType)
    → pop_from t slots free ≡ Some below → Fits below types → AreSlots slots free (t ∷ types)
pop_from_fits t [] true below types e h = tt
pop_from_fits t [] false below types e h = cc
pop_from_fits t (slot ∷ slots) free below types e h =
    let p = cond_some (may_be t slot) (Some (known_stack slots free)) below e in
    let is_below : known_stack slots free ≡ below = cc in
    (slot_from_true slot t p.0, subst (λ k. Fits k types) (sym is_below) h)

-- ---- several operands

pub pops_fits : (operands : List ValType) (stack : Known) (types : List ValType) → Fits stack (operands ++ types)
    → (below : Known) × (pops operands stack ≡ Some below) × Fits below types
pops_fits [] stack types h = (stack, refl, h)
pops_fits (t ∷ operands) stack types h =
    let first = pop_fits t stack.slots stack.free (operands ++ types) h in
    let others = pops_fits operands first.0 types first.2 in
    (others.0, ap (option_and_then (λ below. pops operands below)) first.1 ∙ others.1, others.2)

pub pops_from_fits : (operands : List ValType) (stack below : Known) (types : List ValType)
    → pops operands stack ≡ Some below → Fits below types → Fits stack (operands ++ types)
pops_from_fits [] stack below types e h =
    let same_stack : stack ≡ below = cc in
    subst (λ k. Fits k types) (sym same_stack) h
pops_from_fits (t ∷ operands) stack below types e h =
    let p = and_then_some (pop t stack) (λ s. pops operands s) below e in
    pop_from_fits t stack.slots stack.free p.0 (operands ++ types) p.1 (pops_from_fits operands p.0 below types p.2 h)

pub pushed_fits : (results : List ValType) (stack : Known) (types : List ValType) → Fits stack types
    → Fits (push_types results stack) (results ++ types)
pushed_fits [] stack types h = h
pushed_fits (t ∷ results) stack types h = (refl, pushed_fits results stack types h)

-- what is known after a push is known of the stack below
pub below_pushed : (results : List ValType) (stack : Known) (types : List ValType)
    → Fits (push_types results stack) types → (below : List ValType) × (types ≡ results ++ below) × Fits stack below
below_pushed [] stack types h = (types, refl, h)
below_pushed (t ∷ results) stack [] h = absurd h
below_pushed (t ∷ results) stack (u ∷ types) h =
    let p = below_pushed results stack types h.1 in
    (p.0, (λ i. h.0 i ∷ p.1 i), p.2)

-- ---- some stack fits

pub some_type : (slot : Option ValType) → (t : ValType) × IsSlot slot t
some_type None = (I32, refl)
some_type (Some u) = (u, refl)

some_slots : (slots : List (Option ValType)) (free : Bool) → (types : List ValType) × AreSlots slots free types
some_slots [] true = ([], tt)
some_slots [] false = ([], refl)
some_slots (slot ∷ slots) free =
    let first = some_type slot in
    let others = some_slots slots free in
    (first.0 ∷ others.0, (first.1, others.1))

pub some_fits : (stack : Known) → (types : List ValType) × Fits stack types
some_fits stack = some_slots stack.slots stack.free

-- ---- the end of a body

left_none : (slots : List (Option ValType)) (free : Bool) → AreSlots slots free [] → none_left slots ≡ true
left_none [] free h = refl
left_none (slot ∷ slots) free h = absurd h

none_fits : (slots : List (Option ValType)) (free : Bool) → none_left slots ≡ true → AreSlots slots free []
none_fits [] true h = tt
none_fits [] false h = refl
none_fits (slot ∷ slots) free h = cc

pub ends_fits : (types : List ValType) (stack : Known) → Fits stack types → ends types (Some stack) ≡ true
ends_fits types stack h =
    let p = pops_fits types stack [] (subst (λ l. Fits stack l) (sym (append-nil types)) h) in
    ap is_over p.1 ∙ left_none p.0.slots p.0.free p.2

pub fits_from_ends : (types : List ValType) (stack : Option Known) → ends types stack ≡ true
    → (s : Known) × (stack ≡ Some s) × Fits s types
fits_from_ends types None h = cc
fits_from_ends types (Some stack) h = by (pops types stack) refl h
  where
    by : (o : Option Known) → pops types stack ≡ o → is_over o ≡ true
        → (s : Known) × (Some stack ≡ Some s) × Fits s types
    by None e over = cc
    by (Some below) e over = (
      stack,
      refl,
      subst (λ l. Fits stack l) (append-nil types)
          (pops_from_fits types stack below [] e (none_fits below.slots below.free over)),
    )
