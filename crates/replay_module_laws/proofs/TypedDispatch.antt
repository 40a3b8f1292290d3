-- The typing of arms to which a table of labels leads.
use Rattle.std.proofs.Common.{◌≡◌, ℕ, zero, suc, ◌+◌, ◌<◌, List, [], ◌∷◌, ◌++◌, length, Some, refl, sym, subst, arith}
use Rattle.std.specs.Prelude.{reverse, slice_get}
use Rattle.std.specs.List.{AllByRecursion, range_with_len}
use Rattle.std.proofs.lemmas.List.{length-reverse, reverse-append}
use Rattle.std.proofs.lemmas.List.Elements.{All-append, All-cons, All-nil, All-weaker}
use Rattle.base.proofs.Lists.{joined_all}
use Rattle.wasm_syntax.specs.declared.values.ValType.{ValType}
use Rattle.wasm_syntax.specs.declared.values.ValType.TheVariants.{I32}
use Rattle.wasm_syntax.specs.declared.instructions.Instr.{Instr}
use Rattle.wasm_syntax.specs.declared.instructions.Instr.TheVariants.{BrTable, Unreachable}
use Rattle.wasm_syntax.specs.Nest.{Nest, Empty, Plain}
use Rattle.wasm_syntax.specs.Typing.{Context, IsTyped, Leaves, Switches}
use Rattle.replay_module_spec.specs.Dispatch.{dispatch, nested, sequence}
use Rattle.replay_module_laws.proofs.Serving.{led}
use Rattle.replay_module_laws.proofs.ValidOutside.{range_below}

-- the labels of blocks without results around other labels
abbrev around : ℕ → List (List ValType) → List (List ValType)
around zero labels = labels
around (suc count) labels = around count ([] ∷ labels)

abbrev AreEmpty : ℕ → List (List ValType) → Type 0
AreEmpty count labels = (l : ℕ) → l < count → slice_get labels l ≡ Some []

one_more : (count : ℕ) (labels : List (List ValType)) → AreEmpty count labels → AreEmpty (suc count) ([] ∷ labels)
one_more count labels are zero below = refl
one_more count labels are (suc l) below = are l (omega (arith, below))

around_empty : (count known : ℕ) (labels : List (List ValType)) → AreEmpty known labels
    → AreEmpty (count + known) (around count labels)
around_empty zero known labels are l below = are l (omega (arith, below))
around_empty (suc count) known labels are l below =
    around_empty count (suc known) ([] ∷ labels) (one_more known labels are) l (omega (arith, below))

module _ (ctx : Context) where
  abbrev labelled : List (List ValType) → Context
  labelled labels = record ctx { labels = labels }

  -- an arm leads to any stack, whatever the labels are
  abbrev pub IsArm : List Instr → Type 0
  IsArm arm = (labels : List (List ValType)) (after : List ValType)
      → IsTyped (labelled labels) (sequence arm Empty) [] after

  inner_typed : (inner : Nest) (arms : List (List Instr)) (labels : List (List ValType)) → AllByRecursion IsArm arms
      → IsTyped (labelled (around (length arms) labels)) inner [] []
      → IsTyped (labelled labels) (nested inner arms) [] []
  inner_typed inner [] labels are typed = typed
  inner_typed inner (arm ∷ arms) labels are typed =
      (refl, inner_typed inner arms ([] ∷ labels) are.1 typed, are.0 labels [])

  reversed_arms : (arms : List (List Instr)) → AllByRecursion IsArm arms → AllByRecursion IsArm (reverse arms)
  reversed_arms [] are = tt
  reversed_arms (arm ∷ arms) are =
      subst (AllByRecursion IsArm) (sym (reverse-append (arm ∷ []) arms))
      (joined_all IsArm (reverse arms) (arm ∷ []) (reversed_arms arms are.1) (are.0, tt))

  trap_arm : IsArm (Unreachable ∷ [])
  trap_arm labels after =
      led (labelled labels) Unreachable (Leaves []) Empty [] after after refl (record { below = []; had = refl }) refl

  switch_typed : (count : ℕ) (labels : List (List ValType)) → AreEmpty (suc count) labels
      → IsTyped (labelled labels) (Plain (BrTable (range_with_len 0 count) count) Empty) (I32 ∷ []) []
  switch_typed count labels are =
      led (labelled labels) (BrTable (range_with_len 0 count) count) (Switches (range_with_len 0 count ++ count ∷ []))
      Empty (I32 ∷ []) [] [] refl
      (record {
        label = [];
        each =
            All-append (λ l. slice_get labels l ≡ Some []) (range_with_len 0 count) (count ∷ [])
            (All-weaker (λ l. l < count) (λ l. slice_get labels l ≡ Some [])
            (λ l below. are l (omega (arith, below))) (range_with_len 0 count) (range_below count))
            (All-cons (λ l. slice_get labels l ≡ Some []) count [] (are count (omega arith))
            (All-nil (λ l. slice_get labels l ≡ Some [])));
        stands = record { below = []; had = refl };
      }) refl

  -- a selector pushes a number, whatever the labels and the instructions after it are
  abbrev pub IsSelector : List Instr → Type 0
  IsSelector selector = (labels : List (List ValType)) (code : List Instr)
      → IsTyped (labelled labels) (sequence code Empty) (I32 ∷ []) []
      → IsTyped (labelled labels) (sequence (selector ++ code) Empty) [] []

  pub dispatch_typed : (selector : List Instr) (arms : List (List Instr)) (labels : List (List ValType))
      (after : List ValType) → IsSelector selector → AllByRecursion IsArm arms
      → IsTyped (labelled labels) (dispatch selector arms) [] after
  dispatch_typed selector arms labels after selects are =
      let count = length arms in
      let long = length-reverse arms in
      let all : List (List ValType) = around (length (reverse arms)) ([] ∷ labels) in
      let first : AreEmpty 1 ([] ∷ labels) = one_more 0 labels (λ l below. absurd (omega (arith, below))) in
      let whole = around_empty (length (reverse arms)) 1 ([] ∷ labels) first in
      let empty : AreEmpty (suc count) all = λ l below. whole l (omega (arith, below, long)) in (
        refl,
        inner_typed (sequence (selector ++ BrTable (range_with_len 0 count) count ∷ []) Empty) (reverse arms)
            ([] ∷ labels) (reversed_arms arms are)
            (selects all (BrTable (range_with_len 0 count) count ∷ []) (switch_typed count all empty)),
        trap_arm labels after,
      )
