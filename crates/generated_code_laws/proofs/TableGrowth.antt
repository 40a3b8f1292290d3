-- The code that gives the table a size does so.
use Rattle.std.proofs.Common.{◌≡◌, ℕ, ◌+◌, ◌-◌, ◌<◌, ◌≤◌, ◌^◌, List, [], ◌∷◌, ◌++◌, length, Some, None, false, cond, nat_lt, refl, ap, ◌∙◌, arith}
use Rattle.std.specs.Prelude.{map, unwrap_or}
use Rattle.std.proofs.lemmas.Bool.Decides.{nat_tests}
use Rattle.std.proofs.lemmas.List.{append-nil}
use Rattle.base.specs.declared.opcodes.TheConstants.{I32_SUB}
use Rattle.wasm_syntax.specs.declared.values.Val.{Val}
use Rattle.wasm_syntax.specs.declared.instructions.Instr.TheVariants.{Drop, Numeric, RefNull, TableGrow, TableSize}
use Rattle.wasm_syntax.specs.Nest.{Plain}
use Rattle.trace_model.specs.declared.tapes.Effect.{Effect}
use Rattle.trace_model.specs.declared.tapes.Effect.TheVariants.{Table as GrowTable}
use Rattle.history_spec.specs.Code.{i32_value}
use Rattle.history_spec.specs.Store.{Store, Table, grown_table, with_table}
use Rattle.history_spec.specs.Configuration.{place, Frame, point, at_point}
use Rattle.history_spec.specs.Instruction.{on, gives, reference, table_grow_result}
use Rattle.replay_module_spec.specs.Effects.{i32_const, effect_code}
use Rattle.record_replay_spec.specs.Observations.{ResizesTable, table_grow_observations, table_size_observations, on as on_part}
use Rattle.replay_run_spec.specs.Items.{Changes, Steps, change_of, changes_of}
use Rattle.generated_code_laws.specs.Leads.{Watched, IsOutside, Standing}
use Rattle.generated_code_laws.proofs.Does.{Does, does_both, does_one}
use Rattle.generated_code_laws.proofs.Lacking.{grows_by_lacking}

module _ (w : Watched) (s : Standing) (outside : IsOutside w.layout s.frame.func) (store : Store) (table : Table)
    (is : store.table ≡ Some table) (size : ℕ) (less : length table.entries ≤ size) (small : size < 2 ^ 32) where
  abbrev there : Val
  there = i32_value (length table.entries)

  abbrev lacking : Val
  lacking = i32_value (size - length table.entries)

  abbrev empty : Val
  empty = reference 0

  sizes : Does w s store store (i32_value size ∷ empty ∷ []) (there ∷ i32_value size ∷ empty ∷ [])
      (TableSize 0 ∷ []) (Steps false ∷ [])
  sizes =
      does_one w s outside store store (i32_value size ∷ empty ∷ []) (there ∷ i32_value size ∷ empty ∷ []) (TableSize 0)
      [] (there ∷ []) None []
      (λ labels rest number.
      ap (λ o. on o (λ (table : Table). gives store
      (at_point s.frame (point (i32_value size ∷ empty ∷ []) labels (Plain (TableSize 0) rest) number))
      (place rest (number + 1)) [] (i32_value size ∷ empty ∷ []) (i32_value (length table.entries) ∷ []))) is)
      (let same : nat_lt (length table.entries) (length table.entries) ≡ false = grind (arith, nat_tests) in
      ap (λ o. changes_of w.globals (on_part o table_size_observations)) is
      ∙ ap (λ b. cond b (GrowTable (length table.entries) ∷ []) [] ++ []) same)

  module _ (larger : Table) (grown : grown_table table (size - length table.entries) None ≡ Some larger) where
    abbrev after : Store
    after = with_table store larger

    abbrev pub size_change : List Effect
    size_change = change_of w.globals (ResizesTable (length table.entries) (length larger.entries) None)

    grows : Does w s store after (lacking ∷ empty ∷ []) (there ∷ []) (TableGrow 0 ∷ [])
        (Steps false ∷ map Changes size_change)
    grows =
        does_one w s outside store after (lacking ∷ empty ∷ []) (there ∷ []) (TableGrow 0) (empty ∷ lacking ∷ [])
        (there ∷ []) None size_change
        (λ labels rest number.
        let frame : Frame = at_point s.frame (point (lacking ∷ empty ∷ []) labels (Plain (TableGrow 0) rest) number) in
        let operands = empty ∷ lacking ∷ [] in
        ap (λ o. on o (λ here. table_grow_result store frame (place rest (number + 1)) here operands []
        (grown_table here (size - length table.entries) None))) is
        ∙ ap (table_grow_result store frame (place rest (number + 1)) table operands []) grown)
        (ap (λ o. changes_of w.globals (on_part o (table_grow_observations (size - length table.entries) None))) is
        ∙ ap (λ o. changes_of w.globals
        (ResizesTable (length table.entries) (length (unwrap_or o table).entries) None ∷ [])) grown
        ∙ append-nil size_change)

    refers : Does w s store store [] (empty ∷ []) (RefNull ∷ []) (Steps false ∷ [])
    refers =
        does_one w s outside store store [] (empty ∷ []) RefNull [] (empty ∷ []) None []
        (λ labels rest number. refl) refl

    pub does_table_growth : Does w s store after [] [] (effect_code (GrowTable size))
        (Steps false ∷ Steps false ∷ Steps false ∷ Steps false ∷ Steps false
        ∷ (map Changes size_change ++ Steps false ∷ []))
    does_table_growth =
        does_both w s store store after [] (empty ∷ []) [] (RefNull ∷ [])
        (i32_const size ∷ TableSize 0 ∷ Numeric I32_SUB ∷ TableGrow 0 ∷ Drop ∷ []) (Steps false ∷ [])
        (Steps false ∷ Steps false ∷ Steps false ∷ Steps false ∷ (map Changes size_change ++ Steps false ∷ [])) refers
        (grows_by_lacking w s outside store after (empty ∷ []) size (length table.entries) less small (TableSize 0)
        (TableGrow 0) size_change sizes grows)
