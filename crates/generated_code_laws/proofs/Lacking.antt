-- Code that grows something by what it lacks of a size: its size is read and subtracted, and the old size is dropped.
use Rattle.std.proofs.Common.{◌≡◌, ℕ, ◌+◌, ◌-◌, ◌<◌, ◌≤◌, ◌^◌, ◌%◌, List, [], ◌∷◌, ◌++◌, length, Some, None, true, false, cond, nat_le, refl, ap, ◌∙◌, arith}
use Rattle.std.specs.Prelude.{map}
use Rattle.std.proofs.lemmas.Bool.Decides.{nat_tests}
use Rattle.base.specs.declared.opcodes.TheConstants.{I32_SUB}
use Rattle.wasm_syntax.specs.declared.values.Val.{Val}
use Rattle.wasm_syntax.specs.declared.values.ValType.TheVariants.{I32}
use Rattle.wasm_syntax.specs.declared.instructions.Instr.{Instr}
use Rattle.wasm_syntax.specs.declared.instructions.Instr.TheVariants.{Drop, Numeric}
use Rattle.wasm_syntax.specs.Nest.{Plain}
use Rattle.trace_model.specs.declared.tapes.Effect.{Effect}
use Rattle.history_spec.specs.Code.{i32_value}
use Rattle.history_spec.specs.Numeric.{Computed, numeric_value}
use Rattle.history_spec.specs.Store.{Store}
use Rattle.history_spec.specs.Configuration.{place, point, at_point}
use Rattle.history_spec.specs.Instruction.{Operands, numeric_result, on, operands_as, pop}
use Rattle.replay_module_spec.specs.Effects.{i32_const}
use Rattle.replay_run_spec.specs.Items.{Changes, Item, Steps}
use Rattle.generated_code_laws.specs.Leads.{Watched, IsOutside, Standing}
use Rattle.generated_code_laws.proofs.Does.{Does, does_both, does_one, does_const}

-- the difference of a size and another that is at most as great
lacks : (size there : ℕ) → there ≤ size → size < 2 ^ 32
    → numeric_value I32_SUB (i32_value size ∷ i32_value there ∷ []) ≡ Computed (size - there)
lacks size there less small = ap Computed (difference size there less small)
  where
    difference : (size there : ℕ) → there ≤ size → size < 2 ^ 32 → (size + (2 ^ 32 - there)) % 2 ^ 32 ≡ size - there
    difference size there less small = omega (arith, less, small)

-- two numbers are taken off the stack
two_popped : (first second : ℕ) (values : List Val)
    → pop (I32 ∷ I32 ∷ []) (i32_value second ∷ i32_value first ∷ values)
    ≡ Some (record { operands = i32_value first ∷ i32_value second ∷ []; rest = values })
two_popped first second values =
    let enough : nat_le 2 (length (i32_value second ∷ i32_value first ∷ values)) ≡ true = grind (arith, nat_tests) in
    ap (λ b. operands_as (I32 ∷ I32 ∷ []) (i32_value second ∷ i32_value first ∷ values)
    (cond b (Some (i32_value first ∷ i32_value second ∷ [])) None)) enough

-- with these values on the stack, `read` pushes the present size, and `grow` takes the difference and the values, and
-- pushes the present size
module _ (w : Watched) (s : Standing) (outside : IsOutside w.layout s.frame.func) (store after : Store)
    (values : List Val) (size there : ℕ) (less : there ≤ size) (small : size < 2 ^ 32) (read grow : Instr)
    (changes : List Effect)
    (reads : Does w s store store (i32_value size ∷ values) (i32_value there ∷ i32_value size ∷ values) (read ∷ [])
    (Steps false ∷ []))
    (grows : Does w s store after (i32_value (size - there) ∷ values) (i32_value there ∷ []) (grow ∷ [])
    (Steps false ∷ map Changes changes)) where
  abbrev old : Val
  old = i32_value there

  abbrev wanted : Val
  wanted = i32_value size

  abbrev lacking : Val
  lacking = i32_value (size - there)

  subtracts : Does w s store store (old ∷ wanted ∷ values) (lacking ∷ values) (Numeric I32_SUB ∷ []) (Steps false ∷ [])
  subtracts =
      does_one w s outside store store (old ∷ wanted ∷ values) (lacking ∷ values) (Numeric I32_SUB)
      (wanted ∷ old ∷ []) (lacking ∷ []) None []
      (λ labels rest number.
      ap (λ o. on o (λ (p : Operands). numeric_result store
      (at_point s.frame (point (old ∷ wanted ∷ values) labels (Plain (Numeric I32_SUB) rest) number))
      (place rest (number + 1)) I32 p.operands p.rest (numeric_value I32_SUB p.operands)))
      (two_popped size there values)
      ∙ ap (numeric_result store
      (at_point s.frame (point (old ∷ wanted ∷ values) labels (Plain (Numeric I32_SUB) rest) number))
      (place rest (number + 1)) I32 (wanted ∷ old ∷ []) values)
      (lacks size there less small))
      refl

  drops_it : Does w s after after (old ∷ []) [] (Drop ∷ []) (Steps false ∷ [])
  drops_it =
      does_one w s outside after after (old ∷ []) [] Drop (old ∷ []) [] None [] (λ labels rest number. refl) refl

  -- the items of the growth
  abbrev pub lacking_items : List Item
  lacking_items =
      Steps false ∷ Steps false ∷ Steps false ∷ Steps false ∷ (map Changes changes ++ Steps false ∷ [])

  pub grows_by_lacking : Does w s store after values []
      (i32_const size ∷ read ∷ Numeric I32_SUB ∷ grow ∷ Drop ∷ []) lacking_items
  grows_by_lacking =
      let last = map Changes changes ++ Steps false ∷ [] in
      does_both w s store store after values (wanted ∷ values) [] (i32_const size ∷ [])
      (read ∷ Numeric I32_SUB ∷ grow ∷ Drop ∷ []) (Steps false ∷ [])
      (Steps false ∷ Steps false ∷ Steps false ∷ last) (does_const w s outside store values wanted)
      (does_both w s store store after (wanted ∷ values) (old ∷ wanted ∷ values) [] (read ∷ [])
      (Numeric I32_SUB ∷ grow ∷ Drop ∷ []) (Steps false ∷ []) (Steps false ∷ Steps false ∷ last) reads
      (does_both w s store store after (old ∷ wanted ∷ values) (lacking ∷ values) [] (Numeric I32_SUB ∷ [])
      (grow ∷ Drop ∷ []) (Steps false ∷ []) (Steps false ∷ last) subtracts
      (does_both w s store after after (lacking ∷ values) (old ∷ []) [] (grow ∷ []) (Drop ∷ [])
      (Steps false ∷ map Changes changes) (Steps false ∷ []) grows drops_it)))
