-- Bodies whose calls are by other numbers have their typings in a wider context.
use Rattle.std.proofs.Common.{◌≡◌, ℕ, List, [], ◌∷◌, ◌++◌, refl, subst}
use Rattle.std.specs.List.{AllByRecursion}
use Rattle.wasm_syntax.specs.declared.values.ValType.{ValType}
use Rattle.wasm_syntax.specs.declared.instructions.Instr.{Instr}
use Rattle.wasm_syntax.specs.declared.instructions.Instr.TheVariants.{Call, Else, End}
use Rattle.wasm_syntax.specs.Nest.{Nest, Empty, Plain, InBlock, InLoop, InIf, InIfElse, flat}
use Rattle.wasm_syntax.specs.Typing.{Context, IsTyped, Leads, inside, instr_type, results_of}
use Rattle.wasm_syntax.proofs.JoinedLists.{both_parts}
use Rattle.type_safety.proofs.Wider.{IsKnown, Widens, calling, inside_wider, leads_wider}
use Rattle.guarded_module_laws.specs.Moved.{called_by, moved_nest}

calling_is : (to : ℕ → ℕ) (i : Instr) → calling to i ≡ called_by to i
calling_is to (Call f) = refl
calling_is to i = refl

module _ (to : ℕ → ℕ) where
  leads_moved : (ctx wider : Context) → Widens to ctx wider → (i : Instr) (before after : List ValType)
      → IsKnown ctx wider i → Leads ctx (instr_type ctx i) before after
      → Leads wider (instr_type wider (called_by to i)) before after
  leads_moved ctx wider w i before after known leads =
      subst (λ j. Leads wider (instr_type wider j) before after) (calling_is to i)
      (leads_wider to ctx wider w i before after known leads)

  -- a nest keeps its types if the wider context knows everything to which the nest refers
  abbrev Keeps : Nest → Type 0
  Keeps nest =
      (ctx wider : Context) (before after : List ValType) → Widens to ctx wider
      → AllByRecursion (IsKnown ctx wider) (flat nest) → IsTyped ctx nest before after
      → IsTyped wider (moved_nest to nest) before after

  -- a body, and the instructions after its end
  block_moved : (body rest : Nest) → Keeps body → Keeps rest → (label results : List ValType)
      → (ctx wider : Context) (before after : List ValType) → Widens to ctx wider
      → AllByRecursion (IsKnown ctx wider) (flat body ++ End ∷ flat rest)
      → IsTyped (inside label ctx) body [] results × IsTyped ctx rest before after
      → IsTyped (inside label wider) (moved_nest to body) [] results × IsTyped wider (moved_nest to rest) before after
  block_moved body rest keeps keeps_rest label results ctx wider before after w known h =
      let parts = both_parts (IsKnown ctx wider) (flat body) (End ∷ flat rest) known in (
        keeps (inside label ctx) (inside label wider) [] results (inside_wider to label ctx wider w) parts.0 h.0,
        keeps_rest ctx wider before after w parts.1.1 h.1,
      )

  pub typed_moved : (nest : Nest) → Keeps nest
  typed_moved Empty ctx wider before after w known h = h
  typed_moved (Plain i rest) ctx wider before after w known h = (
    h.0,
    leads_moved ctx wider w i before h.0 known.0 h.1,
    typed_moved rest ctx wider h.0 after w known.1 h.2,
  )
  typed_moved (InBlock ty body rest) ctx wider before after w known h =
      let both =
      block_moved body rest (typed_moved body) (typed_moved rest) (results_of ty) (results_of ty) ctx wider
      (results_of ty ++ before) after w known.1 (h.1, h.2)
      in
      (h.0, both.0, both.1)
  typed_moved (InLoop ty body rest) ctx wider before after w known h =
      let both =
      block_moved body rest (typed_moved body) (typed_moved rest) [] (results_of ty) ctx wider (results_of ty ++ before)
      after w known.1 (h.1, h.2)
      in
      (h.0, both.0, both.1)
  typed_moved (InIf ty body rest) ctx wider before after w known h =
      let parts = both_parts (IsKnown ctx wider) (flat body) (End ∷ flat rest) known.1 in (
        h.0,
        h.1,
        h.2,
        typed_moved body (inside (results_of ty) ctx) (inside (results_of ty) wider) [] (results_of ty)
            (inside_wider to (results_of ty) ctx wider w) parts.0 h.3,
        h.4,
        typed_moved rest ctx wider (results_of ty ++ h.0) after w parts.1.1 h.5,
      )
  typed_moved (InIfElse ty body other rest) ctx wider before after w known h =
      let parts = both_parts (IsKnown ctx wider) (flat body) (Else ∷ (flat other ++ End ∷ flat rest)) known.1 in
      let later = both_parts (IsKnown ctx wider) (flat other) (End ∷ flat rest) parts.1.1 in (
        h.0,
        h.1,
        h.2,
        typed_moved body (inside (results_of ty) ctx) (inside (results_of ty) wider) [] (results_of ty)
            (inside_wider to (results_of ty) ctx wider w) parts.0 h.3,
        typed_moved other (inside (results_of ty) ctx) (inside (results_of ty) wider) [] (results_of ty)
            (inside_wider to (results_of ty) ctx wider w) later.0 h.4,
        typed_moved rest ctx wider (results_of ty ++ h.0) after w later.1.1 h.5,
      )
