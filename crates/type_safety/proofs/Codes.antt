-- The parts of what holds of a sequence: of its first instruction, of the bodies of its first block, and of the rest.
use Rattle.std.proofs.Common.{◌≡◌, ℕ, suc, ◌+◌, ◌-◌, ◌<◌, List, [], ◌∷◌, ◌++◌, length, Option, None, cond, ap, ◌∙◌, subst, arith}
use Rattle.std.specs.Prelude.{nat_lt, IsTrue}
use Rattle.std.proofs.lemmas.Bool.{lt-ltb, le-ltb}
use Rattle.wasm_syntax.specs.declared.values.ValType.{ValType}
use Rattle.wasm_syntax.specs.declared.values.ValType.TheVariants.{I32}
use Rattle.wasm_syntax.specs.declared.instructions.Instr.{Instr}
use Rattle.wasm_syntax.specs.Nest.{Nest, Plain, InBlock, InLoop, InIf, InIfElse, size}
use Rattle.wasm_syntax.specs.Typing.{IsTyped, Leads, instr_type, is_block_type, results_of}
use Rattle.wasm_syntax.specs.Profile.{refused_feature}
use Rattle.history_spec.specs.Configuration.{place}
use Rattle.type_safety.specs.Frames.{Scope, context, HasNoneRefused, IsCode}
use Rattle.type_safety.specs.Heights.{height}

-- ---- heights after the first instruction

-- the heights after one instruction
next_heights : (h whole : ℕ → ℕ) (k base count : ℕ) → ((j : ℕ) → j < 1 + count → h (k + j) ≡ base + whole j) → (j : ℕ)
    → j < count → h (k + 1 + j) ≡ base + whole (suc j)
next_heights h whole k base count each j below =
    let moved : k + suc j ≡ k + 1 + j = omega arith in
    subst (λ x. h x ≡ base + whole (suc j)) moved (each (suc j) (omega arith))

-- the heights within a block's body, and after it
inner_heights : (h inner outer : ℕ → ℕ) (k base own count more : ℕ)
    → ((j : ℕ) → j < count + more → h (k + j) ≡ base + cond (nat_lt j count) (own + inner j) (outer (j - count)))
    → (j : ℕ) → j < count → h (k + j) ≡ base + own + inner j
inner_heights h inner outer k base own count more each j below =
    let here : h (k + j) ≡ base + (own + inner j) = each j (omega arith)
    ∙ ap (λ b. base + cond b (own + inner j) (outer (j - count))) (lt-ltb j count below) in
    omega arith

outer_heights : (h inner outer : ℕ → ℕ) (k base own count more : ℕ)
    → ((j : ℕ) → j < count + more → h (k + j) ≡ base + cond (nat_lt j count) (own + inner j) (outer (j - count)))
    → (j : ℕ) → j < more → h (k + count + j) ≡ base + outer j
outer_heights h inner outer k base own count more each j below =
    let there : h (k + (count + j)) ≡ base + outer (count + j - count) =
    each (count + j) (omega arith) ∙ ap (λ b. base + cond b (own + inner (count + j)) (outer (count + j - count)))
    (le-ltb (count + j) count (omega arith)) in
    let back : count + j - count ≡ j = omega arith in
    let moved : k + (count + j) ≡ k + count + j = omega arith in
    subst (λ x. h x ≡ base + outer j) moved (there ∙ ap (λ x. base + outer x) back)

-- ---- the first instruction

module _ (s : Scope) (labels : List (List ValType)) (number base : ℕ) (before after : List ValType) where
  pub of_plain : (i : Instr) (rest : Nest) → IsCode s labels (place (Plain i rest) number) base before after
      → (middle : List ValType) × Leads (context s labels) (instr_type (context s labels) i) before middle
      × (refused_feature i ≡ None) × IsCode s labels (place rest (number + 1)) base middle after
  of_plain i rest c = (
    c.typed.0,
    c.typed.1,
    c.supported.0,
    record {
      typed = c.typed.2;
      supported = c.supported.1;
      heights = next_heights s.heights (height (context s labels) (Plain i rest) before after c.typed) number base
          (size rest) c.heights;
    },
  )

  -- the body of a block and the instructions after the block are typed, if the heights of both are those of the
  -- typings
  block_parts : (inner : List (List ValType)) (body rest : Nest) (own : ℕ) (results given : List ValType)
      → (typed_body : IsTyped (context s inner) body [] results)
      (typed_rest : IsTyped (context s labels) rest given after)
      → HasNoneRefused body → HasNoneRefused rest
      → ((j : ℕ) → j < size body + size rest → s.heights (number + 1 + j)
      ≡ base + cond (nat_lt j (size body)) (own + height (context s inner) body [] results typed_body j)
      (height (context s labels) rest given after typed_rest (j - size body)))
      → IsCode s inner (place body (number + 1)) (base + own) [] results
      × IsCode s labels (place rest (number + 1 + size body)) base given after
  block_parts inner body rest own results given typed_body typed_rest none_body none_rest each = (
    record {
      typed = typed_body;
      supported = none_body;
      heights = inner_heights s.heights (height (context s inner) body [] results typed_body)
          (height (context s labels) rest given after typed_rest) (number + 1) base own (size body) (size rest) each;
    },
    record {
      typed = typed_rest;
      supported = none_rest;
      heights = outer_heights s.heights (height (context s inner) body [] results typed_body)
          (height (context s labels) rest given after typed_rest) (number + 1) base own (size body) (size rest) each;
    },
  )

  -- the heights after the first instruction of a sequence
  later_heights : (t : Nest) (c : IsCode s labels (place t number) base before after) (count : ℕ)
      → size t ≡ 1 + count → (j : ℕ) → j < count
      → s.heights (number + 1 + j) ≡ base + height (context s labels) t before after c.typed (suc j)
  later_heights t c count same =
      next_heights s.heights (height (context s labels) t before after c.typed) number base count
      (λ i below. c.heights i (omega arith))

  pub of_block : (ty : Option ValType) (body rest : Nest)
      → IsCode s labels (place (InBlock ty body rest) number) base before after
      → IsTrue (is_block_type ty)
      × IsCode s (results_of ty ∷ labels) (place body (number + 1)) (base + length before) [] (results_of ty)
      × IsCode s labels (place rest (number + 1 + size body)) base (results_of ty ++ before) after
  of_block ty body rest c =
      let parts = block_parts (results_of ty ∷ labels) body rest (length before) (results_of ty) (results_of ty ++ before)
      c.typed.1 c.typed.2 c.supported.0 c.supported.1
      (later_heights (InBlock ty body rest) c (size body + size rest) (omega arith)) in
      (c.typed.0, parts.0, parts.1)

  pub of_loop : (ty : Option ValType) (body rest : Nest)
      → IsCode s labels (place (InLoop ty body rest) number) base before after
      → IsTrue (is_block_type ty)
      × IsCode s ([] ∷ labels) (place body (number + 1)) (base + length before) [] (results_of ty)
      × IsCode s labels (place rest (number + 1 + size body)) base (results_of ty ++ before) after
  of_loop ty body rest c =
      let parts = block_parts ([] ∷ labels) body rest (length before) (results_of ty) (results_of ty ++ before)
      c.typed.1 c.typed.2 c.supported.0 c.supported.1
      (later_heights (InLoop ty body rest) c (size body + size rest) (omega arith)) in
      (c.typed.0, parts.0, parts.1)

  pub of_if : (ty : Option ValType) (body rest : Nest)
      → IsCode s labels (place (InIf ty body rest) number) base before after
      → (below : List ValType) × (before ≡ I32 ∷ below) × ([] ≡ results_of ty)
      × IsCode s (results_of ty ∷ labels) (place body (number + 1)) (base + length below) [] (results_of ty)
      × IsCode s labels (place rest (number + 1 + size body)) base (results_of ty ++ below) after
  of_if ty body rest c =
      let parts =
      block_parts (results_of ty ∷ labels) body rest (length c.typed.0) (results_of ty) (results_of ty ++ c.typed.0)
      c.typed.3 c.typed.5 c.supported.0 c.supported.1
      (later_heights (InIf ty body rest) c (size body + size rest) (omega arith)) in
      (c.typed.0, c.typed.1, c.typed.4, parts.0, parts.1)

  pub of_if_else : (ty : Option ValType) (body other rest : Nest)
      → IsCode s labels (place (InIfElse ty body other rest) number) base before after
      → (below : List ValType) × (before ≡ I32 ∷ below)
      × IsCode s (results_of ty ∷ labels) (place body (number + 1)) (base + length below) [] (results_of ty)
      × IsCode s (results_of ty ∷ labels) (place other (number + 1 + size body)) (base + length below) []
      (results_of ty)
      × IsCode s labels (place rest (number + 1 + size body + size other)) base (results_of ty ++ below) after
  of_if_else ty body other rest c =
      let inner = height (context s (results_of ty ∷ labels)) body [] (results_of ty) c.typed.3 in
      let second = height (context s (results_of ty ∷ labels)) other [] (results_of ty) c.typed.4 in
      let outer = height (context s labels) rest (results_of ty ++ c.typed.0) after c.typed.5 in
      let later = λ (j : ℕ). cond (nat_lt j (size other)) (length c.typed.0 + second j) (outer (j - size other)) in
      let each : (j : ℕ) → j < size body + (size other + size rest)
      → s.heights (number + 1 + j) ≡ base + cond (nat_lt j (size body)) (length c.typed.0 + inner j)
      (later (j - size body)) =
      later_heights (InIfElse ty body other rest) c (size body + (size other + size rest)) (omega arith) in
      let more : (j : ℕ) → j < size other + size rest → s.heights (number + 1 + size body + j) ≡ base + later j =
      outer_heights s.heights inner later (number + 1) base (length c.typed.0) (size body) (size other + size rest)
      each in (
        c.typed.0,
        c.typed.1,
        record {
          typed = c.typed.3;
          supported = c.supported.0;
          heights = inner_heights s.heights inner later (number + 1) base (length c.typed.0) (size body)
              (size other + size rest) each;
        },
        record {
          typed = c.typed.4;
          supported = c.supported.1;
          heights = inner_heights s.heights second outer (number + 1 + size body) base (length c.typed.0) (size other)
              (size rest) more;
        },
        record {
          typed = c.typed.5;
          supported = c.supported.2;
          heights = outer_heights s.heights second outer (number + 1 + size body) base (length c.typed.0) (size other)
              (size rest) more;
        },
      )
