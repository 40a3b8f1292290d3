-- A selector chooses an arm.
use Rattle.std.proofs.Common.{◌≡◌, ℕ, zero, suc, ◌+◌, ◌<◌, ◌≤◌, List, [], ◌∷◌, ◌++◌, length, Some, None, true, false, slice_get, refl, sym, ap, ◌∙◌, subst, arith}
use Rattle.std.specs.Prelude.{reverse, replicate}
use Rattle.std.specs.List.{range_with_len, slice_index_or}
use Rattle.std.proofs.lemmas.List.{append_assoc, length-append, length-reverse, reverse-append, get_or_past}
use Rattle.std.proofs.lemmas.List.FromFn.{length-range_with_len, get_or-range_with_len}
use Rattle.wasm_syntax.specs.declared.values.ValType.TheVariants.{I32}
use Rattle.wasm_syntax.specs.declared.instructions.Instr.{Instr}
use Rattle.wasm_syntax.specs.declared.instructions.Instr.TheVariants.{Unreachable, LocalGet, BrTable, Numeric}
use Rattle.wasm_syntax.specs.Nest.{Nest, Empty, Plain}
use Rattle.wasm_syntax.specs.Opcodes.{Shape}
use Rattle.history_spec.specs.Code.{i32_value}
use Rattle.history_spec.specs.Store.{Store}
use Rattle.history_spec.specs.Numeric.{numeric_value}
use Rattle.history_spec.specs.Configuration.{place, Label, Frame, point, at_point}
use Rattle.history_spec.specs.Instruction.{Did, Goes, on, gives, takes, numeric_result, branch_to, execute}
use Rattle.replay_module_spec.specs.declared.groups.TheConstants.{GROUP_CALLS}
use Rattle.replay_module_spec.specs.Effects.{i32_const}
use Rattle.replay_module_spec.specs.Dispatch.{sequence, dispatch}
use Rattle.replay_run_spec.specs.Items.{Steps}
use Rattle.generated_code_laws.specs.Leads.{Watched, Leads, IsOutside, Standing, standing}
use Rattle.generated_code_laws.specs.GeneratedStepLaws.{Selects, ReachesArm, DispatchesReachArms, SelectorsCount, selector}
use Rattle.generated_code_laws.proofs.Along.{along}
use Rattle.generated_code_laws.proofs.One.{did}
use Rattle.generated_code_laws.proofs.Dispatches.{labels_in, number_in, enters_all, reaches_arm}

pub selectors_count : SelectorsCount
selectors_count s local held holds = (
  record { local_holds = holds; shape = refl; gives = refl },
  record { local_holds = holds; shape = refl; gives = refl },
)

module _ (w : Watched) (s : Standing) (outside : IsOutside w.layout s.frame.func) (store : Store)
    (local op held selected : ℕ) (selects : Selects s local op held selected) where
  -- the activation before the operation of the selector
  abbrev on_both : List Label → Nest → ℕ → Frame
  on_both labels third number =
      at_point s.frame (point (i32_value GROUP_CALLS ∷ i32_value held ∷ []) labels third (number + 1 + 1))

  -- the selector pushes its number
  selected_on_top : (labels : List Label) (i : Instr) (rest : Nest) (number : ℕ)
      → Leads w (standing s store [] labels (sequence (selector local op) (Plain i rest)) number)
      (replicate 3 (Steps false))
      (standing s store (i32_value selected ∷ []) labels (Plain i rest) (number + 1 + 1 + 1))
  selected_on_top labels i rest number =
      let second = Plain (i32_const GROUP_CALLS) (Plain (Numeric op) (Plain i rest)) in
      let third = Plain (Numeric op) (Plain i rest) in
      along w _ _ _ (Steps false ∷ []) (replicate 2 (Steps false))
      (did w s outside store store [] (i32_value held ∷ []) labels labels
      (Plain (LocalGet local) second) second number (number + 1) s.frame [] (i32_value held ∷ []) None []
      (ap (λ o. on o (λ value. gives store (at_point s.frame (point [] labels (Plain (LocalGet local) second) number))
      (place second (number + 1)) [] [] (value ∷ []))) selects.local_holds) refl refl)
      (along w _ _ _ (Steps false ∷ []) (replicate 1 (Steps false))
      (did w s outside store store (i32_value held ∷ []) (i32_value GROUP_CALLS ∷ i32_value held ∷ []) labels labels
      second third (number + 1) (number + 1 + 1) s.frame [] (i32_value GROUP_CALLS ∷ []) None []
      refl refl refl)
      (did w s outside store store (i32_value GROUP_CALLS ∷ i32_value held ∷ []) (i32_value selected ∷ []) labels labels
      third (Plain i rest) (number + 1 + 1) (number + 1 + 1 + 1) s.frame
      (i32_value held ∷ i32_value GROUP_CALLS ∷ []) (i32_value selected ∷ []) None []
      (ap (λ o. on o (λ (found : Shape). takes (on_both labels third number) found.operands (λ operands below.
      numeric_result store (on_both labels third number) (place (Plain i rest) (number + 1 + 1 + 1)) found.result
      operands below (numeric_value op operands)))) selects.shape
      ∙ ap (numeric_result store (on_both labels third number) (place (Plain i rest) (number + 1 + 1 + 1)) I32
      (i32_value held ∷ i32_value GROUP_CALLS ∷ []) []) selects.gives) refl refl))

  -- the arms from the outermost inwards, and the number of the selected one, counted from the innermost
  module _ (labels : List Label) (arms : List (List Instr)) (number : ℕ) (outer inner : List (List Instr))
      (i : Instr) (is : List Instr)
      (parts : (Unreachable ∷ []) ∷ reverse arms ≡ outer ++ (i ∷ is) ∷ inner)
      (target : slice_index_or (range_with_len 0 (length arms)) selected (length arms) ≡ length inner) where
    abbrev all : List (List Instr)
    all = (Unreachable ∷ []) ∷ reverse arms

    abbrev switch : Instr
    switch = BrTable (range_with_len 0 (length arms)) (length arms)

    abbrev chooses : Nest
    chooses = sequence (selector local op) (Plain switch Empty)

    abbrev within : List Label
    within = labels_in chooses all number labels

    abbrev last : ℕ
    last = number_in all number + 1 + 1 + 1

    abbrev here : Frame
    here = at_point s.frame (point (i32_value selected ∷ []) within (Plain switch Empty) last)

    branches : (at : ℕ) × (later : List Label)
        × (execute w.program.code store here ≡ Did (i32_value selected ∷ []) [] None
        (Goes store (at_point here (point [] later (sequence (i ∷ is) Empty) at))))
    branches =
        let r = reaches_arm w s outside store chooses outer (i ∷ is) inner number labels here (i32_value selected ∷ []) in (
          r.0,
          r.1,
          ap (branch_to store here (i32_value selected ∷ []) [] within) target
              ∙ ap (λ arms. branch_to store here (i32_value selected ∷ []) [] (labels_in chooses arms number labels) (length inner)) parts
              ∙ r.2,
        )

    reaches : ReachesArm w s store labels local op arms number (i ∷ is)
    reaches =
        let b = branches in
        record {
          within = b.1;
          at = b.0;
          leads = subst (λ n. Leads w (standing s store [] labels (dispatch (selector local op) arms) number)
              (replicate (suc n) (Steps true) ++ replicate 4 (Steps false))
              (standing s store [] b.1 (sequence (i ∷ is) Empty) b.0)) (length-reverse arms)
              (along w _ _ _ (replicate (suc (length (reverse arms))) (Steps true)) (replicate 4 (Steps false))
              (enters_all w s outside store chooses refl all number labels)
              (along w _ _ _ (replicate 3 (Steps false)) (Steps false ∷ [])
              (selected_on_top within switch Empty (number_in all number))
              (did w s outside store store (i32_value selected ∷ []) [] within b.1 (Plain switch Empty)
              (sequence (i ∷ is) Empty) last b.0 s.frame (i32_value selected ∷ []) [] None [] b.2 refl refl)));
        }

-- ---- lists that are split

-- the item at a place, with the items before and after it
split_at : {X : Type 0} (xs : List X) (k : ℕ) (x : X) → slice_get xs k ≡ Some x
    → (front : List X) × (back : List X) × (xs ≡ front ++ x ∷ back) × (length front ≡ k)
split_at [] zero x e = absurd (cc e)
split_at [] (suc k) x e = absurd (cc e)
split_at (y ∷ xs) zero x e = ([], xs, cc e, refl)
split_at (y ∷ xs) (suc k) x e =
    let r = split_at xs k x e in (y ∷ r.0, r.1, ap (λ later. y ∷ later) r.2, ap suc r.3)

reverse_split : {X : Type 0} (front back : List X) (x : X)
    → reverse (front ++ x ∷ back) ≡ reverse back ++ x ∷ reverse front
reverse_split front back x =
    reverse-append front (x ∷ back)
    ∙ ap (λ later. later ++ reverse front) (reverse-append (x ∷ []) back)
    ∙ append_assoc (reverse back) (x ∷ []) (reverse front)

-- ---- both

pub dispatches_reach : DispatchesReachArms
dispatches_reach w s store labels local op held selected arms number outside selects = (
  λ i is found.
      let r = split_at arms selected (i ∷ is) found in
      let n = length arms in
      let long : length (reverse r.0) ≡ selected = length-reverse r.0 ∙ r.3 in
      let many : length arms ≡ length r.0 + suc (length r.1) = ap length r.2 ∙ length-append r.0 ((i ∷ is) ∷ r.1) in
      let below : selected < n = omega (arith, many, r.3) in
      let sum : 0 + selected ≡ selected = omega arith in
      reaches w s outside store local op held selected selects labels arms number
      ((Unreachable ∷ []) ∷ reverse r.1) (reverse r.0) i is
      (ap (λ others. (Unreachable ∷ []) ∷ others) (ap reverse r.2 ∙ reverse_split r.0 r.1 (i ∷ is)))
      (get_or-range_with_len 0 n selected n below ∙ sum ∙ sym long),
  λ past.
      reaches w s outside store local op held selected selects labels arms number
      [] (reverse arms) Unreachable [] refl
      (get_or_past (range_with_len 0 (length arms)) selected (length arms)
      (subst (λ m. m ≤ selected) (sym (length-range_with_len 0 (length arms))) past) ∙ sym (length-reverse arms)),
)
