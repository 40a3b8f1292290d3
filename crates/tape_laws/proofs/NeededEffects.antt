-- The effects that a window needs of the activity before it exist.
use Rattle.std.proofs.Common.{◌≡◌, ℕ, ◌<◌, ◌≤◌, List, [], ◌∷◌, length, Option, Some, None, true, false, slice_get, refl, ap, ◌∙◌, arith}
use Rattle.std.specs.Prelude.{option_map}
use Rattle.std.specs.Option.{option_or, option_flatten}
use Rattle.std.specs.List.{list_all}
use Rattle.std.proofs.lemmas.Option.{none-some, slice_get_within}
use Rattle.base.proofs.Booleans.{and_true}
use Rattle.base.proofs.Options.{or_none}
use Rattle.wasm_syntax.specs.declared.values.Val.{Val}
use Rattle.wasm_syntax.specs.declared.modules.Module.{Module}
use Rattle.trace_model.specs.declared.tapes.Effect.{Effect}
use Rattle.trace_model.specs.declared.tapes.Effect.TheVariants.{Grow, Table as GrowTable, Entry, Global}
use Rattle.trace_model.specs.Effects.{is_before, are_ordered_after, are_ordered}
use Rattle.history_spec.specs.Store.{Store}
use Rattle.history_spec.specs.Instantiation.{memory_length, table_length}
use Rattle.record_replay_spec.specs.Observations.{Observation}
use Rattle.record_replay_spec.specs.Known.{Known, last_some}
use Rattle.record_replay_spec.specs.Alike.{same_option, same_value}
use Rattle.record_replay_spec.specs.Windows.{first_global}
use Rattle.record_replay_spec.specs.Needed.{needed_byte, needed_entry, needed_global, needed_pages, needed_entries, effect_byte, effect_entry, effect_global, effect_pages, effect_entries, has_bytes, AreNeeded}
use Rattle.tape_laws.specs.RealReads.{IsReadOf}
use Rattle.tape_laws.proofs.Effects.{IsChange, AreChanges}
use Rattle.tape_laws.proofs.Activities.{HasSizes, no_growth, no_table_growth, needed_is, byte_there, entry_there}
use Rattle.tape_laws.proofs.HostStores.{sizes_of}
use Rattle.tape_laws.proofs.KeptStores.{IsKept}
use Rattle.tape_laws.proofs.Placed.{from_first_place, effects_from, ArePlaced, effects_give, effects_keep, effects_are, GlobalFrom, EntryFrom, BytesFrom, global_placing, entry_placing, globals_then_entries, entries_then_bytes, runs, runs_give, runs_keep, runs_are}

-- ---- sizes

-- growths, if any, in front of changes
abbrev with_growth : Option ℕ → List Effect → List Effect
with_growth None rest = rest
with_growth (Some pages) rest = Grow pages ∷ rest

abbrev with_table_growth : Option ℕ → List Effect → List Effect
with_table_growth None rest = rest
with_table_growth (Some size) rest = GrowTable size ∷ rest

-- a growth is ordered before changes
memory_first : (pages : ℕ) (next : Effect) → IsChange next → is_before (Grow pages) next ≡ true
memory_first pages (Grow n) h = absurd h
memory_first pages next h = refl

table_first : (size : ℕ) (next : Effect) → IsChange next → is_before (GrowTable size) next ≡ true
table_first size (Grow n) h = absurd h
table_first size (GrowTable n) h = absurd h
table_first size next h = refl

growth_before : (growth : Effect) → ((next : Effect) → IsChange next → is_before growth next ≡ true)
    → (effects : List Effect) → AreChanges effects → are_ordered effects ≡ true
    → are_ordered_after growth effects ≡ true
growth_before growth first [] are order = refl
growth_before growth first (next ∷ effects) are order =
    and_true (is_before growth next) (are_ordered_after next effects) (first next are.0) order

module _ (changes : List Effect) (are : AreChanges changes) (order : are_ordered changes ≡ true)
    (some : list_all has_bytes changes ≡ true) where
  table_before : (size : ℕ) → are_ordered_after (GrowTable size) changes ≡ true
  table_before size = growth_before (GrowTable size) (table_first size) changes are order

  memory_before : (pages : ℕ) → are_ordered_after (Grow pages) changes ≡ true
  memory_before pages = growth_before (Grow pages) (memory_first pages) changes are order

  growths_ordered : (pages size : Option ℕ) → are_ordered (with_growth pages (with_table_growth size changes)) ≡ true
  growths_ordered None None = order
  growths_ordered None (Some size) = table_before size
  growths_ordered (Some pages) None = memory_before pages
  growths_ordered (Some pages) (Some size) = table_before size

  growths_nonempty : (pages size : Option ℕ)
      → list_all has_bytes (with_growth pages (with_table_growth size changes)) ≡ true
  growths_nonempty None None = some
  growths_nonempty None (Some size) = some
  growths_nonempty (Some pages) None = some
  growths_nonempty (Some pages) (Some size) = some

  growths_pages : (pages size : Option ℕ)
      → last_some effect_pages (with_growth pages (with_table_growth size changes)) ≡ pages
  growths_pages None None = no_growth changes are
  growths_pages None (Some size) = ap (λ o. option_or o None) (no_growth changes are)
  growths_pages (Some pages) None = ap (λ o. option_or o (Some pages)) (no_growth changes are)
  growths_pages (Some pages) (Some size) = ap (λ o. option_or (option_or o None) (Some pages)) (no_growth changes are)

  growths_entries : (pages size : Option ℕ)
      → last_some effect_entries (with_growth pages (with_table_growth size changes)) ≡ size
  growths_entries None None = no_table_growth changes are
  growths_entries None (Some size) = ap (λ o. option_or o (Some size)) (no_table_growth changes are)
  growths_entries (Some pages) None = ap (λ o. option_or o None) (no_table_growth changes are)
  growths_entries (Some pages) (Some size) =
      ap (λ o. option_or (option_or o (Some size)) None) (no_table_growth changes are)

  -- growths in front of ordered changes are in order with these, and give their sizes
  growths : (pages size : Option ℕ)
      → (are_ordered (with_growth pages (with_table_growth size changes)) ≡ true)
      × (list_all has_bytes (with_growth pages (with_table_growth size changes)) ≡ true)
      × (last_some effect_pages (with_growth pages (with_table_growth size changes)) ≡ pages)
      × (last_some effect_entries (with_growth pages (with_table_growth size changes)) ≡ size)
  growths pages size =
      (growths_ordered pages size, growths_nonempty pages size, growths_pages pages size, growths_entries pages size)

growths_keep : {X : Type 0} (part : Effect → Option X) → ((n : ℕ) → part (Grow n) ≡ None)
    → ((n : ℕ) → part (GrowTable n) ≡ None) → (pages size : Option ℕ) (changes : List Effect)
    → last_some part (with_growth pages (with_table_growth size changes)) ≡ last_some part changes
growths_keep part none none_table None None changes = refl
growths_keep part none none_table None (Some size) changes =
    ap (option_or (last_some part changes)) (none_table size) ∙ or_none (last_some part changes)
growths_keep part none none_table (Some pages) None changes =
    ap (option_or (last_some part changes)) (none pages) ∙ or_none (last_some part changes)
growths_keep part none none_table (Some pages) (Some size) changes =
    (λ i. option_or (option_or (last_some part changes) (none_table size i)) (none pages i))
    ∙ or_none (option_or (last_some part changes) None) ∙ or_none (last_some part changes)

-- ---- all effects

own_map : {X : Type 0} (o : Option X) → option_map (λ (x : X). x) o ≡ o
own_map None = refl
own_map (Some x) = refl

past_none : {X : Type 0} (o : Option X) (at end : ℕ) → ((x : X) → o ≡ Some x → at < end) → end ≤ at → o ≡ None
past_none None at end within past = refl
past_none (Some x) at end within past = let below = within x refl in absurd (omega (arith, below, past))

module _ (m : Module) (known : Known) (window : List Observation) (store : Store) (kept : IsKept m known store)
    (real : IsReadOf known window store) where
  sizes : HasSizes store
  sizes = sizes_of m store kept.is

  -- a global that is needed has a value
  global_there : (at : ℕ) (x : Option Val) → needed_global known window at ≡ Some x
      → (v : Val) × (x ≡ Some v) × (slice_get store.globals at ≡ Some v)
  global_there at x need = go x found differs
    where
      found : slice_get store.globals at ≡ x
      found =
          real.global at x
          (needed_is (same_option same_value) (known.global at) (first_global window at) x need).0

      differs : same_option same_value (known.global at) x ≡ false
      differs = (needed_is (same_option same_value) (known.global at) (first_global window at) x need).1

      go : (x : Option Val) → slice_get store.globals at ≡ x → same_option same_value (known.global at) x ≡ false
          → (v : Val) × (x ≡ Some v) × (slice_get store.globals at ≡ Some v)
      go (Some v) is d = (v, refl, is)
      go None is d =
          absurd (by (known.global at) (kept.of.types at ∙ ap (option_map (λ value. value.ty)) is) d)
        where
          by : (o : Option Val) → option_map (λ value. value.ty) o ≡ None → same_option same_value o None ≡ false → ⊥
          by None t d = cc
          by (Some v) t d = cc

  abbrev value_at : ℕ → Option Val
  value_at at = option_flatten (needed_global known window at)

  value_is : (at : ℕ) → option_map (λ (v : Val). Some v) (value_at at) ≡ needed_global known window at
  value_is at = go (needed_global known window at) refl
    where
      go : (o : Option (Option Val)) → needed_global known window at ≡ o
          → option_map (λ (v : Val). Some v) (option_flatten o) ≡ o
      go None is = refl
      go (Some (Some v)) is = refl
      go (Some None) is =
          let p = global_there at None is in absurd (none-some p.0 p.1)

  past_globals : (at : ℕ) → length store.globals ≤ at → value_at at ≡ None
  past_globals at past =
      ap option_flatten
      (past_none (needed_global known window at) at (length store.globals)
      (λ x is. let p = global_there at x is in slice_get_within store.globals at p.0 p.2) past)

  past_bytes : (at : ℕ) → memory_length store.memory ≤ at → needed_byte known window at ≡ None
  past_bytes at past =
      past_none (needed_byte known window at) at (memory_length store.memory)
      (λ x is. (byte_there known window store sizes kept.of real at x is).0) past

  past_entries : (at : ℕ) → table_length store.table ≤ at → needed_entry known window at ≡ None
  past_entries at past =
      past_none (needed_entry known window at) at (table_length store.table)
      (λ x is. (entry_there known window store sizes kept.of real at x is).0) past

  abbrev globals : List Effect
  globals = effects_from Global value_at 0 (length store.globals) []

  abbrev entries : List Effect
  entries = effects_from Entry (needed_entry known window) 0 (table_length store.table) globals

  abbrev changes : List Effect
  changes = runs (needed_byte known window) 0 (memory_length store.memory) entries

  abbrev effects : List Effect
  effects = with_growth (needed_pages known window) (with_table_growth (needed_entries known window) changes)

  globals_are : ArePlaced GlobalFrom 0 globals
  globals_are =
      effects_are Global GlobalFrom global_placing value_at 0 (length store.globals) []
      (λ i. record { changes = tt; nonempty = refl; ordered = refl; start = tt })

  entries_are : ArePlaced EntryFrom 0 entries
  entries_are =
      effects_are Entry EntryFrom entry_placing (needed_entry known window) 0 (table_length store.table) globals
      (λ i. record {
        changes = globals_are.changes;
        nonempty = globals_are.nonempty;
        ordered = globals_are.ordered;
        start = globals_then_entries i globals globals_are.start;
      })

  changes_are : ArePlaced BytesFrom 0 changes
  changes_are =
      runs_are (needed_byte known window) 0 (memory_length store.memory) entries
      (λ i. record {
        changes = entries_are.changes;
        nonempty = entries_are.nonempty;
        ordered = entries_are.ordered;
        start = entries_then_bytes i entries entries_are.start;
      })

  pub needed_effects : (effects : List Effect) × AreNeeded known window effects
  needed_effects =
      let sizes =
      growths changes changes_are.changes changes_are.ordered changes_are.nonempty (needed_pages known window)
      (needed_entries known window)
      in (
        effects,
        record {
          ordered = sizes.0;
          nonempty = sizes.1;
          pages = sizes.2;
          entries = sizes.3;
          byte = λ at.
              growths_keep (effect_byte at) (λ n. refl) (λ n. refl) (needed_pages known window)
              (needed_entries known window) changes
              ∙ runs_give (needed_byte known window) 0 (memory_length store.memory) entries at
              (λ x past. past_bytes x (omega (arith, past)))
              (effects_keep Entry (effect_byte at) (λ i a. refl) (needed_entry known window) 0 (table_length store.table)
              globals
              ∙ effects_keep Global (effect_byte at) (λ i a. refl) value_at 0 (length store.globals) [])
              ∙ from_first_place (needed_byte known window) at;
          entry = λ at.
              growths_keep (effect_entry at) (λ n. refl) (λ n. refl) (needed_pages known window)
              (needed_entries known window) changes
              ∙ runs_keep (effect_entry at) (λ address bytes. refl) (needed_byte known window) 0
              (memory_length store.memory) entries
              ∙ effects_give Entry (λ (func : Option ℕ). func) effect_entry (λ i a x. refl) (needed_entry known window) 0
              (table_length store.table) globals at
              (λ x past. past_entries x (omega (arith, past)))
              (effects_keep Global (effect_entry at) (λ i a. refl) value_at 0 (length store.globals) [])
              ∙ from_first_place (λ y. option_map (λ (func : Option ℕ). func) (needed_entry known window y)) at
              ∙ own_map (needed_entry known window at);
          global = λ at.
              growths_keep (effect_global at) (λ n. refl) (λ n. refl) (needed_pages known window)
              (needed_entries known window) changes
              ∙ runs_keep (effect_global at) (λ address bytes. refl) (needed_byte known window) 0
              (memory_length store.memory) entries
              ∙ effects_keep Entry (effect_global at) (λ i a. refl) (needed_entry known window) 0
              (table_length store.table) globals
              ∙ effects_give Global (λ (v : Val). Some v) effect_global (λ i a x. refl) value_at 0
              (length store.globals) [] at
              (λ x past. past_globals x (omega (arith, past))) refl
              ∙ from_first_place (λ y. option_map (λ (v : Val). Some v) (value_at y)) at
              ∙ value_is at;
        },
      )
