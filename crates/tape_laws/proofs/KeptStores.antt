-- What each step of a run keeps of its store and of what is known: maxima are within those declared, and immutable
-- globals are known.
use Rattle.std.proofs.Common.{◌≡◌, ℕ, ◌++◌, List, [], ◌∷◌, Option, Some, None, Bool, true, ◌&&◌, nat_le, slice_get, refl, sym, ap, ◌∙◌, subst}
use Rattle.std.specs.Prelude.{option_map, Ok}
use Rattle.std.proofs.lemmas.Option.{same_Some}
use Rattle.base.proofs.Booleans.{and_left, and_right}
use Rattle.wasm_syntax.specs.declared.limits.TheConstants.{MAX_ENTRIES, MAX_PAGES}
use Rattle.wasm_syntax.specs.declared.values.Val.{Val}
use Rattle.wasm_syntax.specs.declared.signatures.Limits.{Limits}
use Rattle.wasm_syntax.specs.declared.modules.Module.{Module}
use Rattle.wasm_syntax.specs.Index.{of_kind, memory_import, table_import, all_tables, all_memories}
use Rattle.host_script.specs.declared.scripts.Supply.{Supply}
use Rattle.host_script.specs.Supply.{keeps_max, is_within, limits_match}
use Rattle.history_spec.specs.Store.{Store, Memory, Table}
use Rattle.history_spec.specs.Instantiation.{limits_of, memory_limits, table_limits, new_memory, new_table, new_store, with_datas, with_elems, with_segments, first_unfit, store_unless, instantiate}
use Rattle.record_replay_spec.specs.Observations.{Observation}
use Rattle.record_replay_spec.specs.Known.{Known, known_after, known_after_all, read_global, written_global}
use Rattle.record_replay_spec.specs.Changes.{with_change, with_changes}
use Rattle.type_safety.specs.Stores.{IsStore}
use Rattle.type_safety.specs.Supplies.{Match, IsSupply}
use Rattle.type_safety.proofs.Supplies.{max_kept}
use Rattle.tape_laws.specs.KnownValues.{KnowsImmutable}
use Rattle.tape_laws.specs.RealReads.{IsKnownOf}
use Rattle.tape_laws.proofs.Stores.{Maxima, maxima}
use Rattle.tape_laws.proofs.Relation.{AreSeen}
use Rattle.tape_laws.proofs.Places.{part_after}
use Rattle.tape_laws.proofs.Items.{touched_global}

-- ---- maxima

-- a maximum is within that of limits
abbrev pub IsDeclared : List Limits → Option (Option ℕ) → Type 0
IsDeclared limits max =
    (given : Option ℕ) (wanted : Limits) → max ≡ Some given → slice_get limits 0 ≡ Some wanted
    → keeps_max given wanted.max ≡ true

-- a store's memory and table may grow to at most what the module declares
pub record AreDeclared (m : Module) (most : Maxima) : Type 0 where
  pub pages : IsDeclared (all_memories m) most.pages
  pub entries : IsDeclared (all_tables m) most.entries

matched_max : (most : ℕ) (given wanted : Limits) → limits_match most given wanted ≡ true
    → keeps_max given.max wanted.max ≡ true
matched_max most given wanted h =
    let test : Bool = nat_le wanted.min given.min && keeps_max given.max wanted.max in
    let within : Bool = is_within given.min given.max in
    let first = and_left (test && within) (nat_le given.min most) h in
    and_right (nat_le wanted.min given.min) (keeps_max given.max wanted.max) (and_left test within first)

-- the limits of an import match those supplied, and a definition has its own
limits_declared : (most : ℕ) (imports defined : List Limits) (supplied : Option Limits) → Match most imports supplied
    → IsDeclared (imports ++ defined) (option_map (λ limits. limits.max) (limits_of imports supplied defined))
limits_declared most [] [] supplied matches given wanted e h = cc
limits_declared most [] (limits ∷ more) supplied matches given wanted e h =
    let same = same_Some limits wanted h in
    let max = same_Some limits.max given e in
    subst (λ (w : Limits). keeps_max given w.max ≡ true) same
    (subst (λ g. keeps_max g limits.max ≡ true) max (max_kept limits.max))
limits_declared most (import ∷ imports) defined None matches given wanted e h = absurd matches
limits_declared most (import ∷ imports) defined (Some limits) matches given wanted e h =
    let same = same_Some import wanted h in
    let max = same_Some limits.max given e in
    subst (λ (w : Limits). keeps_max given w.max ≡ true) same
    (subst (λ g. keeps_max g import.max ≡ true) max (matched_max most limits import matches))

written_memory : (m : Module) (imported : List Val) (o : Option Limits)
    → option_map (λ (memory : Memory). memory.max) (option_map (with_datas imported m.datas) (option_map new_memory o))
    ≡ option_map (λ (limits : Limits). limits.max) o
written_memory m imported None = refl
written_memory m imported (Some limits) = refl

written_table : (m : Module) (imported : List Val) (o : Option Limits)
    → option_map (λ (table : Table). table.max) (option_map (with_elems imported m.elems) (option_map new_table o))
    ≡ option_map (λ (limits : Limits). limits.max) o
written_table m imported None = refl
written_table m imported (Some limits) = refl

-- the store of a newly instantiated module is the one in which the segments are written
pub store_made : (m : Module) (supply : Supply) (store : Store) → instantiate m supply ≡ Ok store
    → with_segments m supply.globals (new_store m supply) ≡ store
store_made m supply store opens = is (first_unfit m supply.globals (new_store m supply)) opens
  where
    is : (o : Option ℕ) → store_unless o (with_segments m supply.globals (new_store m supply)) ≡ Ok store
        → with_segments m supply.globals (new_store m supply) ≡ store
    is None h = cc
    is (Some n) h = cc

-- the maxima of the store of a newly instantiated module are those of its limits
pub new_maxima : (m : Module) (supply : Supply) (store : Store) → instantiate m supply ≡ Ok store
    → maxima store
    ≡ record {
      pages = option_map (λ limits. limits.max) (memory_limits m supply);
      entries = option_map (λ limits. limits.max) (table_limits m supply);
    }
new_maxima m supply store opens =
    let pages = written_memory m supply.globals (memory_limits m supply) in
    let entries = written_table m supply.globals (table_limits m supply) in
    sym (ap maxima (store_made m supply store opens)) ∙ (λ j. record { pages = pages j; entries = entries j })

pub new_declared : (m : Module) (supply : Supply) (store : Store) → IsSupply m supply
    → instantiate m supply ≡ Ok store → AreDeclared m (maxima store)
new_declared m supply store matches opens =
    subst (AreDeclared m) (sym (new_maxima m supply store opens))
    (record {
      pages = limits_declared MAX_PAGES (of_kind memory_import m.imports) m.memories supply.memory matches.memory;
      entries = limits_declared MAX_ENTRIES (of_kind table_import m.imports) m.tables supply.table matches.table;
    })

-- ---- immutable globals

-- a known global is known after what the module observes
known_after_seen : (known : Known) (store : Store) (seen : List Observation) (at : ℕ) → AreSeen known store seen
    → known.global at ≡ slice_get store.globals at
    → (known_after_all known seen).global at ≡ slice_get (with_changes store seen).globals at
known_after_seen known store [] at are h = h
known_after_seen known store (o ∷ seen) at are h =
    known_after_seen (known_after known o) (with_change store o) seen at are.1
    (part_after (λ (o : Option Val). o) (read_global at o) (written_global at o) (slice_get store.globals at)
    (slice_get (with_change store o).globals at) (known.global at) (touched_global known store o are.0 at) h)

pub immutable_after : (m : Module) (known : Known) (store : Store) (seen : List Observation) → AreSeen known store seen
    → KnowsImmutable m known store → KnowsImmutable m (known_after_all known seen) (with_changes store seen)
immutable_after m known store seen are knows at ty there fixed =
    known_after_seen known store seen at are (knows at ty there fixed)

-- ---- all that is kept

-- a store of the module, what is known of it, and what each step keeps
pub record IsKept (m : Module) (known : Known) (store : Store) : Type 0 where
  pub is : IsStore m store
  pub of : IsKnownOf known store
  pub declared : AreDeclared m (maxima store)
  pub immutable : KnowsImmutable m known store
