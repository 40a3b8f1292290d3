-- The code of each effect does what the effect does to a store.
use Rattle.std.proofs.Common.{◌≡◌, ℕ, suc, ◌+◌, List, [], ◌∷◌, Option, Some, None, false, slice_get, refl, ap, ◌∙◌}
use Rattle.std.proofs.lemmas.List.{append-nil}
use Rattle.std.specs.Prelude.{map}
use Rattle.std.specs.List.{slice_index_or}
use Rattle.wasm_syntax.specs.declared.values.Val.{Val}
use Rattle.wasm_syntax.specs.declared.values.ValType.{ValType}
use Rattle.wasm_syntax.specs.declared.values.ValType.TheVariants.{I32, I64, F32, F64, FuncRef}
use Rattle.wasm_syntax.specs.declared.instructions.Instr.TheVariants.{Const, GlobalSet, TableSet, RefNull, RefFunc}
use Rattle.wasm_syntax.specs.Nest.{Nest, Plain}
use Rattle.trace_model.specs.declared.tapes.Effect.{Effect}
use Rattle.trace_model.specs.declared.tapes.Effect.TheVariants.{Entry as SetEntry}
use Rattle.history_spec.specs.Code.{i32_value}
use Rattle.history_spec.specs.Store.{Store, Table, with_entry, with_table, with_global}
use Rattle.history_spec.specs.Configuration.{place, Label, Frame, point, at_point}
use Rattle.history_spec.specs.Instruction.{Operands, Did, Goes, on, pop, takes, gives, reference, referent, table_result, execute}
use Rattle.replay_module_spec.specs.Effects.{i32_const, reference_code, effect_code}
use Rattle.record_replay_spec.specs.Observations.{WritesEntry, WritesGlobal, plain_observations, set_observations, on as on_part}
use Rattle.replay_run_spec.specs.Items.{Changes, Steps, change_of, changes_of}
use Rattle.generated_code_laws.specs.Leads.{Watched, IsOutside, Standing}
use Rattle.generated_code_laws.proofs.Does.{Does, does_both, does_one, does_const}

-- ---- globals

-- a value is an operand of its type
takes_value : (value : Val) → pop (value.ty ∷ []) (value ∷ []) ≡ Some (record { operands = value ∷ []; rest = [] })
takes_value value = go value.ty value.bits
  where
    go : (ty : ValType) (bits : ℕ) → pop (ty ∷ []) (record { ty = ty; bits = bits } ∷ [])
        ≡ Some (record { operands = record { ty = ty; bits = bits } ∷ []; rest = [] })
    go I32 bits = refl
    go I64 bits = refl
    go F32 bits = refl
    go F64 bits = refl
    go FuncRef bits = refl

module _ (w : Watched) (s : Standing) (outside : IsOutside w.layout s.frame.func) (store : Store) where
  -- a global is given a value of its type
  module _ (global : ℕ) (value old : Val) (there : slice_get store.globals global ≡ Some old)
      (ty : old.ty ≡ value.ty) where
    sets_global : (labels : List Label) (rest : Nest) (number : ℕ)
        → execute w.program.code store
        (at_point s.frame (point (value ∷ []) labels (Plain (GlobalSet global) rest) number))
        ≡ Did (value ∷ []) [] None
        (Goes (with_global store global value) (at_point s.frame (point [] labels rest (number + 1))))
    sets_global labels rest number =
        let frame : Frame = at_point s.frame (point (value ∷ []) labels (Plain (GlobalSet global) rest) number) in
        let next = place rest (number + 1) in
        ap (λ o. on o (λ (old : Val). takes frame (old.ty ∷ []) (λ operands rest.
        gives (with_global store global (slice_index_or operands 0 old)) frame next operands rest []))) there
        ∙ ap (λ t. on (pop (t ∷ []) (value ∷ [])) (λ (p : Operands).
        gives (with_global store global (slice_index_or p.operands 0 old)) frame next p.operands p.rest [])) ty
        ∙ ap (λ o. on o (λ (p : Operands).
        gives (with_global store global (slice_index_or p.operands 0 old)) frame next p.operands p.rest []))
        (takes_value value)

    abbrev global_change : List Effect
    global_change = change_of w.globals (WritesGlobal global value)

    pub does_global : Does w s store (with_global store global value) [] [] (Const value ∷ GlobalSet global ∷ [])
        (Steps false ∷ Steps false ∷ map Changes global_change)
    does_global =
        does_both w s store store (with_global store global value) [] (value ∷ []) []
        (Const value ∷ []) (GlobalSet global ∷ []) (Steps false ∷ [])
        (Steps false ∷ map Changes global_change)
        (does_const w s outside store [] value)
        (does_one w s outside store (with_global store global value) (value ∷ []) [] (GlobalSet global) (value ∷ []) []
        None global_change sets_global (append-nil global_change))

  -- ---- entries

  -- the reference to a function, or the null reference
  abbrev reference_to : Option ℕ → Val
  reference_to None = reference 0
  reference_to (Some func) = reference (suc func)

  refers : (values : List Val) (func : Option ℕ)
      → Does w s store store values (reference_to func ∷ values) (reference_code func ∷ []) (Steps false ∷ [])
  refers values None =
      does_one w s outside store store values (reference 0 ∷ values) RefNull [] (reference 0 ∷ []) None []
      (λ labels rest number. refl) refl
  refers values (Some func) =
      does_one w s outside store store values (reference (suc func) ∷ values) (RefFunc func) []
      (reference (suc func) ∷ []) None [] (λ labels rest number. refl) refl

  referred : (func : Option ℕ) → referent (reference_to func).bits ≡ func
  referred None = refl
  referred (Some func) = refl

  module _ (table : Table) (is : store.table ≡ Some table) (index : ℕ) (entries : List (Option ℕ)) where
    abbrev after_entry_set : Store
    after_entry_set = with_table store (record table { entries = entries })

    sets_entry : (func : Option ℕ) → with_entry table.entries index func ≡ Some entries
        → (labels : List Label) (rest : Nest) (number : ℕ)
        → execute w.program.code store
        (at_point s.frame (point (reference_to func ∷ i32_value index ∷ []) labels (Plain (TableSet 0) rest) number))
        ≡ Did (i32_value index ∷ reference_to func ∷ []) [] None
        (Goes after_entry_set (at_point s.frame (point [] labels rest (number + 1))))
    sets_entry None done labels rest number =
        let frame : Frame =
        at_point s.frame (point (reference 0 ∷ i32_value index ∷ []) labels (Plain (TableSet 0) rest) number) in
        let operands = i32_value index ∷ reference 0 ∷ [] in
        ap (λ o. on o (λ table. table_result store frame (place rest (number + 1)) table operands []
        (with_entry table.entries index None))) is
        ∙ ap (table_result store frame (place rest (number + 1)) table operands []) done
    sets_entry (Some func) done labels rest number =
        let frame : Frame =
        at_point s.frame
        (point (reference (suc func) ∷ i32_value index ∷ []) labels (Plain (TableSet 0) rest) number) in
        let operands = i32_value index ∷ reference (suc func) ∷ [] in
        ap (λ o. on o (λ table. table_result store frame (place rest (number + 1)) table operands []
        (with_entry table.entries index (Some func)))) is
        ∙ ap (table_result store frame (place rest (number + 1)) table operands []) done

    changed_entry : (func : Option ℕ) → with_entry table.entries index func ≡ Some entries
        → changes_of w.globals (plain_observations store (reference_to func ∷ i32_value index ∷ []) (TableSet 0))
        ≡ SetEntry index func ∷ []
    changed_entry func done =
        ap (λ o. changes_of w.globals (on_part o (set_observations index (referent (reference_to func).bits)))) is
        ∙ ap (λ f. changes_of w.globals (set_observations index f table)) (referred func)
        ∙ ap (λ o. changes_of w.globals (on_part o (λ all. WritesEntry index func ∷ []))) done

    pub does_entry : (func : Option ℕ) → with_entry table.entries index func ≡ Some entries
        → Does w s store after_entry_set [] [] (effect_code (SetEntry index func))
        (Steps false ∷ Steps false ∷ Steps false ∷ Changes (SetEntry index func) ∷ [])
    does_entry func done =
        does_both w s store store after_entry_set [] (i32_value index ∷ []) []
        (i32_const index ∷ []) (reference_code func ∷ TableSet 0 ∷ []) (Steps false ∷ [])
        (Steps false ∷ Steps false ∷ Changes (SetEntry index func) ∷ [])
        (does_const w s outside store [] (i32_value index))
        (does_both w s store store after_entry_set (i32_value index ∷ []) (reference_to func ∷ i32_value index ∷ []) []
        (reference_code func ∷ []) (TableSet 0 ∷ []) (Steps false ∷ [])
        (Steps false ∷ Changes (SetEntry index func) ∷ [])
        (refers (i32_value index ∷ []) func)
        (does_one w s outside store after_entry_set (reference_to func ∷ i32_value index ∷ []) [] (TableSet 0)
        (i32_value index ∷ reference_to func ∷ []) [] None
        (SetEntry index func ∷ []) (sets_entry func done) (changed_entry func done)))
