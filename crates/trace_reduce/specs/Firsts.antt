-- What a window finds first, kind by kind.
use Rattle.std.specs.Prelude.{◌≡◌, ℕ, List, Option, Some, option_map}
use Rattle.std.specs.Option.{option_or}
use Rattle.std.specs.Ordering.{nat_cmp}
use Rattle.std.specs.BTreeMap.{get}
use Rattle.wasm_syntax.specs.declared.values.Val.{Val}
use Rattle.trace_model.specs.declared.tapes.Effect.{Effect}
use Rattle.record_replay_spec.specs.Needed.{effect_byte, effect_entry, effect_global, effect_pages, effect_entries}
use Rattle.record_replay_spec.specs.LogTapes.{first_some}
use Rattle.trace_reduce.specs.ByteGroups.{byte_at}
use Rattle.trace_reduce.specs.declared.first_values.Firsts.{Firsts}

-- the first find of a global, by its index
abbrev pub global_of : Firsts → (at : ℕ) → Option (Option Val)
global_of firsts at = option_map Some (get nat_cmp firsts.globals at)

-- these are the first finds among the finds of a window
pub record AreFirsts (finds : List Effect) (firsts : Firsts) : Type 0 where
  pub pages : firsts.pages ≡ first_some effect_pages finds
  pub size : firsts.size ≡ first_some effect_entries finds
  pub byte : (at : ℕ) → byte_at firsts.bytes.items at ≡ first_some (effect_byte at) finds
  pub entry : (at : ℕ) → get nat_cmp firsts.entries at ≡ first_some (effect_entry at) finds
  pub global : (at : ℕ) → global_of firsts at ≡ first_some (effect_global at) finds

-- a find is taken if there was no find in its place
pub record IsNextFind (before : Firsts) (find : Effect) (after : Firsts) : Type 0 where
  pub pages : after.pages ≡ option_or before.pages (effect_pages find)
  pub size : after.size ≡ option_or before.size (effect_entries find)
  pub byte : (at : ℕ) → byte_at after.bytes.items at ≡ option_or (byte_at before.bytes.items at) (effect_byte at find)
  pub entry : (at : ℕ) → get nat_cmp after.entries at
      ≡ option_or (get nat_cmp before.entries at) (effect_entry at find)
  pub global : (at : ℕ) → global_of after at ≡ option_or (global_of before at) (effect_global at find)
