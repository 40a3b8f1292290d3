-- The law of the effects of generated code: the instructions of effects do to a store what the effects do.
use Rattle.std.specs.Prelude.{◌≡◌, ℕ, ◌*◌, ◌<◌, ◌≤◌, ◌^◌, List, [], ◌∷◌, sum_by, Some, slice_get, IfSome}
use Rattle.wasm_syntax.specs.declared.values.Val.{Val}
use Rattle.wasm_syntax.specs.declared.instructions.Instr.{Instr}
use Rattle.wasm_syntax.specs.Nest.{Nest, Plain}
use Rattle.trace_model.specs.declared.tapes.Effect.{Effect}
use Rattle.trace_model.specs.declared.tapes.Effect.TheVariants.{Grow, Table, Bytes, Entry, Global}
use Rattle.trace_model.specs.Weight.{effect_weight}
use Rattle.history_spec.specs.Store.{Store}
use Rattle.history_spec.specs.Configuration.{Label}
use Rattle.history_spec.specs.Instantiation.{table_length}
use Rattle.record_replay_spec.specs.Known.{pages_of}
use Rattle.record_replay_spec.specs.TapeRun.{store_after_effect, store_after_effects}
use Rattle.replay_module_spec.specs.Dispatch.{sequence}
use Rattle.replay_module_spec.specs.Segments.{effects_code}
use Rattle.replay_run_spec.specs.Items.{Item, entries_in}
use Rattle.replay_run_spec.specs.Stretches.{AreSameChanges}
use Rattle.generated_code_laws.specs.Leads.{Watched, Leads, IsOutside, Standing, standing}
use Rattle.generated_code_laws.specs.Bytes.{AreBytes}
use Rattle.generated_code_laws.specs.Counts.{changes_in, steps_in}

-- code can perform an effect, if the original has this number of globals: sizes have 32 bits, bytes are bytes, and a
-- global of the original gets a value of its type
abbrev pub IsWritable : (globals : ℕ) → Store → Effect → Type 0
IsWritable globals store (Grow pages) = pages < 2 ^ 32
IsWritable globals store (Table size) = size < 2 ^ 32
IsWritable globals store (Bytes addr bytes) = AreBytes bytes
IsWritable globals store (Entry index func) = Unit {0}
IsWritable globals store (Global global value) =
    (global < globals) × IfSome (slice_get store.globals global) (λ (old : Val). old.ty ≡ value.ty)

-- code can perform a list of effects, each in the store that those before it leave
abbrev pub AreWritable : (globals : ℕ) → Store → List Effect → Type 0
AreWritable globals store [] = Unit {0}
AreWritable globals store (effect ∷ effects) =
    IsWritable globals store effect
    × ((next : Store) → store_after_effect store effect ≡ Some next → AreWritable globals next effects)

-- an effect that gives a size gives a greater one than the present size
abbrev pub GrowsSize : Store → Effect → Type 0
GrowsSize store (Grow pages) = pages_of store.memory < pages
GrowsSize store (Table size) = table_length store.table < size
GrowsSize store effect = Unit {0}

-- each effect of a list that gives a size gives a greater one
abbrev pub AllGrowSizes : Store → List Effect → Type 0
AllGrowSizes store [] = Unit {0}
AllGrowSizes store (effect ∷ effects) =
    GrowsSize store effect
    × ((next : Store) → store_after_effect store effect ≡ Some next → AllGrowSizes next effects)

-- items that show no entry, make the changes of the effects if each size that they give is greater than the present
-- one, and contain at most 8 steps for each unit of the weight of the effects
pub record AreItemsOf (store : Store) (effects : List Effect) (items : List Item) : Type 0 where
  pub silent : entries_in items ≡ []
  pub changes : AllGrowSizes store effects → AreSameChanges (changes_in items) effects
  pub steps : (steps_in items).steps ≤ 8 * sum_by effect_weight effects
  pub blocks : (steps_in items).blocks ≡ 0

-- the code of effects leads to its end and to the store after them, with items of these effects
pub record MakesEffects (w : Watched) (s : Standing) (store after : Store) (effects : List Effect) (labels : List Label)
    (rest : Nest) (number : ℕ) : Type 0 where
  pub items : List Item
  pub at : ℕ
  pub leads : Leads w (standing s store [] labels (sequence (effects_code effects) rest) number) items
      (standing s after [] labels rest at)
  pub known : AreItemsOf store effects items

-- the code of effects performs them, if code can perform them and they can be performed on the store
abbrev pub EffectsAreMade : Type 0
EffectsAreMade =
    (w : Watched) (s : Standing) (store after : Store) (effects : List Effect) (labels : List Label) (i : Instr)
    (rest : Nest) (number : ℕ)
    → IsOutside w.layout s.frame.func → AreWritable w.globals store effects
    → store_after_effects effects store ≡ Some after
    → MakesEffects w s store after effects labels (Plain i rest) number
