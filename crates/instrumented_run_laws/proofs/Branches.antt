-- Branches and blocks of an instrumented body: they lead where the original's lead, and out of the body to its end.
use Rattle.std.proofs.Common.{◌≡◌, ℕ, zero, suc, ◌+◌, List, [], ◌∷◌, ◌++◌, length, Option, Some, None, slice_get, refl, sym, ap, subst}
use Rattle.wasm_syntax.specs.declared.values.ValType.{ValType}
use Rattle.wasm_syntax.specs.declared.values.ValType.TheVariants.{I32}
use Rattle.wasm_syntax.specs.declared.values.Val.{Val}
use Rattle.wasm_syntax.specs.declared.signatures.FuncType.{FuncType}
use Rattle.wasm_syntax.specs.Nest.{Nest, Empty, InBlock, InLoop, InIf, size}
use Rattle.history_spec.specs.Store.{Store}
use Rattle.history_spec.specs.Code.{Code}
use Rattle.history_spec.specs.Configuration.{Place, place, Label, Frame, topmost, push_all}
use Rattle.history_spec.specs.Instruction.{Goes, Calls, Returns, Execution, Did, Traps, NoRule, Operands, on, pop, bits_at, block_arity, choice, enters, to_label, to_caller, branch_to, execute_at}
use Rattle.history_spec.specs.Run.{Meter}
use Rattle.record_replay_spec.specs.Hooks.{renumber, renumbered_view}
use Rattle.record_replay_spec.specs.Insertions.{Site, imports_at, inserted_at_end}
use Rattle.record_replay_spec.specs.Instrumented.{before_nest, instrumented_nest, weights_of_nest}
use Rattle.instrumented_run_laws.proofs.Weights.{AreWeights, first_weights, later_weights}
use Rattle.instrumented_run_laws.proofs.Relation.{hooked_place, hooked_labels, body_label, IsWeighed, AreWeighed}

module _ (meter : Meter) (s : Site) (ty : FuncType) (last : ℕ) (other : Frame) where
  abbrev n : ℕ
  n = imports_at s

  -- the instrumented activation, if the original goes on within its labels
  abbrev pub going : Frame → List (ℕ × ℕ) → ℕ → Frame
  going next numbers number =
      record other {
        values = next.values;
        labels = hooked_labels s ty next.labels numbers last;
        at = hooked_place s next.at number;
      }

  -- the instrumented activation, if the original leaves its body with results: before the end of the inserted block,
  -- after which a hook reports the end of the function
  abbrev pub ending : List Val → Frame
  ending results =
      record other {
        values = push_all results [];
        labels = [];
        at = place (before_nest (inserted_at_end s) Empty) last;
      }

  -- the second execution goes on beside the first, at places that have their weights
  pub record GoesBeside (operands results : List Val) (found : Option ℕ) (store : Store) (next : Frame)
      (second : Execution) : Type 0 where
    pub numbers : List (ℕ × ℕ)
    pub number : ℕ
    pub labels : AreWeighed meter s next.labels numbers
    pub at : IsWeighed meter s next.at.rest number
    pub is : second ≡ Did operands results found (Goes (renumbered_view n store) (going next numbers number))

  -- the second execution moves as the first does, if that has a rule and moves control within the function or out of
  -- it
  abbrev pub IsMoved : Execution → Execution → Type 0
  IsMoved NoRule second = Unit {0}
  IsMoved (Traps kind operands found) second = second ≡ Traps kind operands found
  IsMoved (Did operands results found (Goes store next)) second =
      GoesBeside operands results found store next second
  IsMoved (Did operands results found (Calls frame func args)) second = ⊥
  IsMoved (Did operands results found (Returns given)) second =
      (store : Store) × (second ≡ Did operands results found (Goes store (ending given)))

  -- both executions take an equal operand
  pub taken : (values : List Val) → other.values ≡ values → (go go_other : List Val → List Val → Execution)
      → ((operands rest : List Val) → IsMoved (go operands rest) (go_other operands rest))
      → IsMoved (on (pop (I32 ∷ []) values) (λ p. go p.operands p.rest))
      (on (pop (I32 ∷ []) other.values) (λ p. go_other p.operands p.rest))
  taken values alike go go_other each =
      subst
      (λ vs. IsMoved (on (pop (I32 ∷ []) values) (λ p. go p.operands p.rest))
      (on (pop (I32 ∷ []) vs) (λ p. go_other p.operands p.rest)))
      (sym alike) (by (pop (I32 ∷ []) values))
    where
      by : (o : Option Operands)
          → IsMoved (on o (λ p. go p.operands p.rest)) (on o (λ p. go_other p.operands p.rest))
      by None = tt
      by (Some p) = each p.operands p.rest

  module _ (store : Store) (frame : Frame) (arity : frame.arity ≡ block_arity (slice_get ty.results 0)) where
    -- ---- branches

    to_end : (operands : List Val) (o : Option (List Val))
        → IsMoved (to_caller operands o)
        (to_label (renumbered_view n store) other operands o [] (body_label s ty last))
    to_end operands None = tt
    to_end operands (Some results) = (renumbered_view n store, refl)

    pub branches : (operands values : List Val) (labels : List Label) (numbers : List (ℕ × ℕ)) (l : ℕ)
        → AreWeighed meter s labels numbers
        → IsMoved (branch_to store frame operands values labels l)
        (branch_to (renumbered_view n store) other operands values (hooked_labels s ty labels numbers last) l)
    branches operands values [] [] zero weighed =
        subst
        (λ count. IsMoved (to_caller operands (topmost count values))
        (to_label (renumbered_view n store) other operands (topmost (block_arity (slice_get ty.results 0)) values) []
        (body_label s ty last)))
        (sym arity)
        (to_end operands (topmost (block_arity (slice_get ty.results 0)) values))
    branches operands values [] [] (suc l) weighed = tt
    branches operands values [] (first ∷ numbers) l weighed = absurd weighed
    branches operands values (label ∷ labels) [] l weighed = absurd weighed
    branches operands values (label ∷ labels) (first ∷ numbers) zero weighed =
        go (topmost label.arity values)
      where
        go : (o : Option (List Val))
            → IsMoved (to_label store frame operands o labels label)
            (to_label (renumbered_view n store) other operands o (hooked_labels s ty labels numbers last)
            (record label {
              target = hooked_place s label.target first.0;
              after_block = hooked_place s label.after_block first.1;
            }))
        go None = tt
        go (Some carried) =
            record { numbers = numbers; number = first.0; labels = weighed.2; at = weighed.0; is = refl }
    branches operands values (label ∷ labels) (first ∷ numbers) (suc l) weighed =
        branches operands values labels numbers l weighed.2

    -- ---- blocks

    module _ (code second : Code) (numbers : List (ℕ × ℕ)) (labels : AreWeighed meter s frame.labels numbers)
        (alike : other.values ≡ frame.values)
        (weighed : (nest : Nest) → length (weights_of_nest s nest) ≡ size (instrumented_nest s nest)) where
      -- the part after a sequence has its weights
      pub after_nest : (body : Nest) (number : ℕ) (more : List ℕ)
          → AreWeights meter (renumber n s.func) number (weights_of_nest s body ++ more)
          → AreWeights meter (renumber n s.func) (number + size (instrumented_nest s body)) more
      after_nest body number more h =
          subst (λ k. AreWeights meter (renumber n s.func) (number + k) more) (weighed body)
          (later_weights meter (renumber n s.func) number (weights_of_nest s body) more h)

      -- the second activation, with the labels beside those of the first
      abbrev with_labels : Frame
      with_labels = record other { labels = hooked_labels s ty frame.labels numbers last }

      -- both executions enter a label whose places have their weights
      pub under_label : (operands values others : List Val) → others ≡ values → (count : ℕ) (inside to after : Place)
          (number : ℕ) (label : ℕ × ℕ) → IsWeighed meter s inside.rest number → IsWeighed meter s to.rest label.0
          → IsWeighed meter s after.rest label.1
          → IsMoved (enters store frame operands values count inside to after)
          (enters (renumbered_view n store) with_labels operands others count (hooked_place s inside number)
          (hooked_place s to label.0) (hooked_place s after label.1))
      under_label operands values others same count inside to after number label at target beyond =
          record {
            numbers = label ∷ numbers;
            number = number;
            labels = (target, beyond, labels);
            at = at;
            is = ap
                (λ vs. enters (renumbered_view n store) with_labels operands vs count (hooked_place s inside number)
                (hooked_place s to label.0) (hooked_place s after label.1))
                same;
          }

      -- control enters a nest in both executions
      abbrev IsEntered : Nest → (at number : ℕ) → Type 0
      IsEntered nest at number =
          IsMoved (execute_at code store frame nest at)
          (execute_at second (renumbered_view n store) with_labels (instrumented_nest s nest) number)

      -- a block, a loop or an `if` without `else`
      module _ (block : Option ValType) (body rest : Nest) (at number : ℕ)
          (h : IsWeighed meter s (InBlock block body rest) number) where
        abbrev inside : Place
        inside = place body (at + 1)

        abbrev after : Place
        after = place rest (at + 1 + size body)

        -- the number after the body
        abbrev k : ℕ
        k = number + 1 + size (instrumented_nest s body)

        body_weights : IsWeighed meter s body (number + 1)
        body_weights =
            first_weights meter (renumber n s.func) (number + 1) (weights_of_nest s body) (weights_of_nest s rest) h.1

        rest_weights : IsWeighed meter s rest k
        rest_weights = after_nest body (number + 1) (weights_of_nest s rest) h.1

        pub enters_block : IsEntered (InBlock block body rest) at number
        enters_block =
            under_label [] frame.values other.values alike (block_arity block) inside after after (number + 1) (k, k)
            body_weights rest_weights rest_weights

        pub enters_loop : IsEntered (InLoop block body rest) at number
        enters_loop =
            under_label [] frame.values other.values alike 0 inside (place (InLoop block body rest) at) after
            (number + 1) (number, k) body_weights h rest_weights

        -- both executions choose a part of an `if` by an equal test
        if_chosen : (operands values : List Val) (bits : ℕ)
            → IsMoved
            (enters store frame operands values (block_arity block) (choice bits inside (place Empty (at + 1 + size
            body))) after after)
            (enters (renumbered_view n store) with_labels operands values (block_arity block)
            (choice bits (hooked_place s inside (number + 1)) (place Empty k)) (hooked_place s after k)
            (hooked_place s after k))
        if_chosen operands values zero =
            under_label operands values values refl (block_arity block) (place Empty (at + 1 + size body)) after after
            k (k, k) tt rest_weights rest_weights
        if_chosen operands values (suc bits) =
            under_label operands values values refl (block_arity block) inside after after (number + 1) (k, k)
            body_weights rest_weights rest_weights

        pub enters_if : IsEntered (InIf block body rest) at number
        enters_if =
            taken frame.values alike _ _ (λ operands values. if_chosen operands values (bits_at operands 0))
