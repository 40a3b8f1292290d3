-- The code that gives the memory a size does so.
use Rattle.std.proofs.Common.{◌≡◌, ℕ, ◌+◌, ◌-◌, ◌<◌, ◌≤◌, ◌^◌, List, [], ◌∷◌, ◌++◌, Some, None, false, cond, nat_lt, ap, ◌∙◌, arith}
use Rattle.std.specs.Prelude.{map, unwrap_or}
use Rattle.std.proofs.lemmas.Bool.Decides.{nat_tests}
use Rattle.std.proofs.lemmas.List.{append-nil}
use Rattle.wasm_syntax.specs.declared.instructions.Instr.TheVariants.{MemorySize, MemoryGrow}
use Rattle.wasm_syntax.specs.Nest.{Plain}
use Rattle.trace_model.specs.declared.tapes.Effect.{Effect}
use Rattle.trace_model.specs.declared.tapes.Effect.TheVariants.{Grow}
use Rattle.history_spec.specs.Code.{i32_value}
use Rattle.history_spec.specs.Store.{Store, Memory, pages, grown_memory, with_memory}
use Rattle.history_spec.specs.Configuration.{place, Frame, point, at_point}
use Rattle.history_spec.specs.Instruction.{on, gives, grow_result}
use Rattle.replay_module_spec.specs.Effects.{effect_code}
use Rattle.record_replay_spec.specs.Observations.{Resizes, grow_observations, size_observations, on as on_part}
use Rattle.replay_run_spec.specs.Items.{Changes, Steps, change_of, changes_of}
use Rattle.generated_code_laws.specs.Leads.{Watched, IsOutside, Standing}
use Rattle.generated_code_laws.proofs.Lacking.{grows_by_lacking}
use Rattle.generated_code_laws.proofs.Does.{Does, does_one}

module _ (w : Watched) (s : Standing) (outside : IsOutside w.layout s.frame.func) (store : Store) (memory : Memory)
    (is : store.memory ≡ Some memory) (size : ℕ) (less : pages memory ≤ size) (small : size < 2 ^ 32) where
  sizes : Does w s store store (i32_value size ∷ []) (i32_value (pages memory) ∷ i32_value size ∷ [])
      (MemorySize ∷ []) (Steps false ∷ [])
  sizes =
      does_one w s outside store store (i32_value size ∷ []) (i32_value (pages memory) ∷ i32_value size ∷ []) MemorySize
      [] (i32_value (pages memory) ∷ []) None []
      (λ labels rest number.
      ap (λ o. on o (λ memory. gives store
      (at_point s.frame (point (i32_value size ∷ []) labels (Plain MemorySize rest) number))
      (place rest (number + 1)) [] (i32_value size ∷ []) (i32_value (pages memory) ∷ []))) is)
      (let same : nat_lt (pages memory) (pages memory) ≡ false = grind (arith, nat_tests) in
      ap (λ o. changes_of w.globals (on_part o size_observations)) is
      ∙ ap (λ b. cond b (Grow (pages memory) ∷ []) [] ++ []) same)

  module _ (larger : Memory) (grown : grown_memory memory (size - pages memory) ≡ Some larger) where
    abbrev pub size_change : List Effect
    size_change = change_of w.globals (Resizes (pages memory) (pages larger))

    grows : Does w s store (with_memory store larger) (i32_value (size - pages memory) ∷ [])
        (i32_value (pages memory) ∷ []) (MemoryGrow ∷ []) (Steps false ∷ map Changes size_change)
    grows =
        does_one w s outside store (with_memory store larger) (i32_value (size - pages memory) ∷ [])
        (i32_value (pages memory) ∷ []) MemoryGrow (i32_value (size - pages memory) ∷ [])
        (i32_value (pages memory) ∷ []) (Some (pages memory)) size_change
        (λ labels rest number.
        let frame : Frame =
        at_point s.frame (point (i32_value (size - pages memory) ∷ []) labels (Plain MemoryGrow rest) number) in
        let operands = i32_value (size - pages memory) ∷ [] in
        ap (λ o. on o (λ here. grow_result store frame (place rest (number + 1)) here operands []
        (grown_memory here (size - pages memory)))) is
        ∙ ap (grow_result store frame (place rest (number + 1)) memory operands []) grown)
        (ap (λ o. changes_of w.globals (on_part o (grow_observations (size - pages memory)))) is
        ∙ ap (λ o. changes_of w.globals (Resizes (pages memory) (pages (unwrap_or o memory)) ∷ [])) grown
        ∙ append-nil size_change)

    pub does_growth : Does w s store (with_memory store larger) [] [] (effect_code (Grow size))
        (Steps false ∷ Steps false ∷ Steps false ∷ Steps false ∷ (map Changes size_change ++ Steps false ∷ []))
    does_growth =
        grows_by_lacking w s outside store (with_memory store larger) [] size (pages memory) less small MemorySize
        MemoryGrow size_change sizes grows
