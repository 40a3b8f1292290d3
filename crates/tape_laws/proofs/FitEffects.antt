-- The effects that a window needs of the activity before it fit the module.
use Rattle.std.proofs.Common.{◌≡◌, ℕ, ◌+◌, ◌-◌, ◌*◌, ◌<◌, ◌≤◌, List, [], ◌∷◌, length, Option, Some, None, Bool, true, false, cond, ◌&&◌, nat_le, nat_lt, nat_eq, slice_get, refl, sym, ap, ◌∙◌, subst, arith}
use Rattle.std.specs.Prelude.{IfSome, option_map}
use Rattle.std.specs.Option.{option_or}
use Rattle.std.specs.List.{list_all}
use Rattle.std.proofs.lemmas.Bool.Decides.{nat_tests}
use Rattle.std.proofs.lemmas.Option.{none-some, same_Some, slice_get-map}
use Rattle.base.proofs.Booleans.{and_left, and_right, and_true}
use Rattle.base.proofs.Lists.{item_there, all_at}
use Rattle.base.proofs.Options.{or_first}
use Rattle.wasm_syntax.specs.declared.limits.TheConstants.{MAX_ENTRIES, MAX_PAGES, PAGE_SIZE}
use Rattle.wasm_syntax.specs.declared.values.Val.{Val}
use Rattle.wasm_syntax.specs.declared.signatures.Limits.{Limits}
use Rattle.wasm_syntax.specs.declared.signatures.GlobalType.{GlobalType}
use Rattle.wasm_syntax.specs.declared.modules.Module.{Module}
use Rattle.wasm_syntax.specs.Alike.{same_type}
use Rattle.wasm_syntax.specs.Index.{func_indices, all_tables, all_memories, all_globals}
use Rattle.wasm_syntax.proofs.ValTypes.{type_own}
use Rattle.host_script.specs.Supply.{keeps_max, is_within}
use Rattle.trace_model.specs.declared.tapes.Effect.{Effect}
use Rattle.trace_model.specs.declared.tapes.Effect.TheVariants.{Grow, Table as GrowTable, Bytes, Entry, Global}
use Rattle.trace_model.specs.Effects.{are_ordered_after, are_ordered}
use Rattle.trace_model.specs.Fitting.{is_within as is_size, grows_within, names_function, takes_value, effect_fits, effects_fit}
use Rattle.history_spec.specs.Store.{Store, Memory, Table, pages}
use Rattle.history_spec.specs.Instantiation.{memory_length, table_length}
use Rattle.record_replay_spec.specs.Observations.{Observation}
use Rattle.record_replay_spec.specs.Known.{Known, entry_of, pages_of, last_some}
use Rattle.record_replay_spec.specs.Alike.{same_option, same_value}
use Rattle.record_replay_spec.specs.Windows.{first_entry, first_global, found_pages, found_entries}
use Rattle.record_replay_spec.specs.Needed.{needed_byte, needed_entry, needed_global, needed_pages, needed_entries, effect_byte, effect_entry, effect_global, effect_pages, effect_entries, has_bytes, AreNeeded}
use Rattle.type_safety.specs.Stores.{func_count, global_types, MayBeMemory, MayBeTable}
use Rattle.tape_laws.specs.RealReads.{IsReadOf}
use Rattle.record_replay_spec.proofs.OneList.{globals_after, entries_after, ordered_rest}
use Rattle.tape_laws.proofs.Stores.{IsThere}
use Rattle.tape_laws.proofs.Effects.{or_second, last_among, some_bytes}
use Rattle.record_replay_spec.proofs.OneList.{pages_after}
use Rattle.record_replay_spec.proofs.Alike.{own_value}
use Rattle.tape_laws.proofs.Activities.{HasSizes, changes_after, no_table_growth, needed_is, size_between, byte_there, entry_there}
use Rattle.tape_laws.proofs.Activity.{size_needed, memory_seen, table_seen}
use Rattle.tape_laws.proofs.HostStores.{sizes_of, type_at}
use Rattle.tape_laws.proofs.KeptStores.{IsDeclared, IsKept}

-- ---- sizes

-- a size that is at most one within a maximum is within the declared maximum
within_declared : (limit size now : ℕ) (max wanted : Option ℕ) → size ≤ now → now ≤ limit
    → is_within now max ≡ true → keeps_max max wanted ≡ true → is_size limit size wanted ≡ true
within_declared limit size now max None low most within declared = grind (arith, nat_tests, low, most)
within_declared limit size now None (Some w) low most within declared = cc
within_declared limit size now (Some g) (Some w) low most within declared =
    and_true (nat_le size limit) (nat_le size w) (grind (arith, nat_tests, low, most))
    (grind (arith, nat_tests, low, within, declared))

memory_grows : (limits : List Limits) (o : Option Memory) (size : ℕ) → MayBeMemory limits o
    → IsDeclared limits (option_map (λ m. m.max) o) → IsThere o → size ≤ pages_of o
    → grows_within MAX_PAGES size (slice_get limits 0) ≡ true
memory_grows [] None size maybe declared there low = absurd (none-some there.0 there.1)
memory_grows [] (Some m) size maybe declared there low = absurd maybe
memory_grows (l ∷ more) None size maybe declared there low = absurd maybe
memory_grows (l ∷ more) (Some m) size maybe declared there low =
    within_declared MAX_PAGES size (pages m) m.max l.max low maybe.most maybe.within (declared m.max l refl refl)

table_grows : (funcs : ℕ) (limits : List Limits) (o : Option Table) (size : ℕ) → MayBeTable funcs limits o
    → IsDeclared limits (option_map (λ t. t.max) o) → IsThere o → size ≤ table_length o
    → grows_within MAX_ENTRIES size (slice_get limits 0) ≡ true
table_grows funcs [] None size maybe declared there low = absurd (none-some there.0 there.1)
table_grows funcs [] (Some t) size maybe declared there low = absurd maybe
table_grows funcs (l ∷ more) None size maybe declared there low = absurd maybe
table_grows funcs (l ∷ more) (Some t) size maybe declared there low =
    within_declared MAX_ENTRIES size (length t.entries) t.max l.max low maybe.most maybe.within
    (declared t.max l refl refl)

-- ---- places

-- bytes that end within the memory end within the largest memory
bytes_fit : (limits : List Limits) (o : Option Memory) (end : ℕ) → MayBeMemory limits o → 0 < end
    → end ≤ memory_length o → (nat_lt 0 (length limits) && nat_le end (MAX_PAGES * PAGE_SIZE)) ≡ true
bytes_fit limits None end maybe some low = absurd (omega (arith, some, low))
bytes_fit [] (Some m) end maybe some low = absurd maybe
bytes_fit (l ∷ more) (Some m) end maybe some low =
    let whole : length m.bytes ≡ pages m * 65536 = maybe.whole in
    let most : pages m ≤ 4096 = maybe.most in
    let fits : end ≤ 4096 * 65536 = omega (arith, whole, most, low) in
    grind (arith, nat_tests, fits)

-- an entry of the table names a function
entry_fits : (funcs : ℕ) (m : Module) → func_count m ≡ funcs → (limits : List Limits) (o : Option Table) (index : ℕ)
    (func : Option ℕ) → MayBeTable funcs limits o → index < table_length o → entry_of o index ≡ func
    → (nat_lt 0 (length limits) && names_function m func) ≡ true
entry_fits funcs m count limits None index func maybe below is = absurd (omega (arith, below))
entry_fits funcs m count [] (Some t) index func maybe below is = absurd maybe
entry_fits funcs m count (l ∷ more) (Some t) index func maybe below is =
    and_true (nat_lt 0 (length (l ∷ more))) (names_function m func) (grind (arith, nat_tests)) (go func is)
  where
    go : (func : Option ℕ) → entry_of (Some t) index ≡ func → names_function m func ≡ true
    go None is = refl
    go (Some f) is = go' (item_there t.entries index below)
      where
        go' : ((e : Option ℕ) × (slice_get t.entries index ≡ Some e)) → names_function m (Some f) ≡ true
        go' (None, there) = cc
        go' (Some g, there) =
            let low : g < funcs =
            all_at (λ entry. IfSome entry (λ f. f < funcs)) t.entries index (Some g) maybe.entries there in
            let same : g ≡ f = cc in
            let all : length (func_indices m) ≡ funcs = count in
            grind (arith, nat_tests, low, same, all)

-- ---- the order of effects

-- after a change of a global only globals with greater indices are set
pub none_after_global : {X : Type 0} (part : Effect → Option X) → ((x : ℕ) (v : Val) → part (Global x v) ≡ None)
    → (global : ℕ) (value : Val) (effects : List Effect) → are_ordered_after (Global global value) effects ≡ true
    → last_some part effects ≡ None
none_after_global part none global value [] h = refl
none_after_global part none global value (Global x v ∷ effects) h =
    let later = none_after_global part none x v effects
    (and_right (nat_lt global x) (are_ordered_after (Global x v) effects) h) in
    (λ i. option_or (later i) (none x v i))
none_after_global part none global value (effect ∷ effects) h = cc

module _ (m : Module) (known : Known) (window : List Observation) (store : Store) (kept : IsKept m known store)
    (real : IsReadOf known window store) where
  sizes : HasSizes store
  sizes = sizes_of m store kept.is

  -- what effects give is needed
  record AreAmong (effects : List Effect) : Type 0 where
    pub pages : (n : ℕ) → last_some effect_pages effects ≡ Some n → needed_pages known window ≡ Some n
    pub entries : (n : ℕ) → last_some effect_entries effects ≡ Some n → needed_entries known window ≡ Some n
    pub byte : (at x : ℕ) → last_some (effect_byte at) effects ≡ Some x → needed_byte known window at ≡ Some x
    pub entry : (at : ℕ) (x : Option ℕ) → last_some (effect_entry at) effects ≡ Some x
        → needed_entry known window at ≡ Some x
    pub global : (at : ℕ) (x : Option Val) → last_some (effect_global at) effects ≡ Some x
        → needed_global known window at ≡ Some x

  rest_among : (effect : Effect) (effects : List Effect) → AreAmong (effect ∷ effects) → AreAmong effects
  rest_among effect effects are =
      record {
        pages = λ n h. are.pages n (or_first (last_some effect_pages effects) (effect_pages effect) n h);
        entries = λ n h. are.entries n (or_first (last_some effect_entries effects) (effect_entries effect) n h);
        byte = λ at x h. are.byte at x (or_first (last_some (effect_byte at) effects) (effect_byte at effect) x h);
        entry = λ at x h. are.entry at x (or_first (last_some (effect_entry at) effects) (effect_entry at effect) x h);
        global = λ at x h.
            are.global at x (or_first (last_some (effect_global at) effects) (effect_global at effect) x h);
      }

  global_fits : (global : ℕ) (value : Val) → needed_global known window global ≡ Some (Some value)
      → takes_value value.ty (slice_get (all_globals m) global) ≡ true
  global_fits global value need = by (slice_get (all_globals m) global) refl typed
    where
      found : slice_get store.globals global ≡ Some value
      found =
          real.global global (Some value)
          (needed_is (same_option same_value) (known.global global) (first_global window global) (Some value) need).0

      differs : same_option same_value (known.global global) (Some value) ≡ false
      differs =
          (needed_is (same_option same_value) (known.global global) (first_global window global) (Some value) need).1

      typed : option_map (λ (g : GlobalType). g.ty) (slice_get (all_globals m) global) ≡ Some value.ty
      typed =
          sym (slice_get-map (λ (g : GlobalType). g.ty) (all_globals m) global)
          ∙ sym (type_at m (func_count m) (global_types m) store.globals global kept.is.globals)
          ∙ ap (option_map (λ value. value.ty)) found

      by : (o : Option GlobalType) → slice_get (all_globals m) global ≡ o
          → option_map (λ (g : GlobalType). g.ty) o ≡ Some value.ty → takes_value value.ty o ≡ true
      by None there h = cc
      by (Some g) there h =
          let same = same_Some g.ty value.ty h in
          and_true g.mutable (same_type value.ty g.ty) (changes g.mutable refl)
          (ap (same_type value.ty) same ∙ type_own value.ty)
        where
          changes : (b : Bool) → g.mutable ≡ b → g.mutable ≡ true
          changes true is = is
          changes false is =
              let fixed = kept.immutable global g there is ∙ found in
              let yes = ap (λ o. same_option same_value o (Some value)) fixed ∙ own_value value in
              let no = differs in
              cc

  one_fits : (effect : Effect) (effects : List Effect) → are_ordered_after effect effects ≡ true
      → has_bytes effect ≡ true → AreAmong (effect ∷ effects) → effect_fits m effect ≡ true
  one_fits (Grow size) effects order some are =
      let found = found_pages known.pages window in
      let need = are.pages size (ap (λ o. option_or o (Some size)) (pages_after (Grow size) effects order)) in
      let is = size_needed known.pages found size (sym need) in
      let between = size_between known window store sizes kept.of real known.pages (pages_of store.memory) found _
      kept.of.pages real.pages in
      let there = memory_seen store.memory known.pages found between.0 between.1 is.1 in
      memory_grows (all_memories m) store.memory size kept.is.memory kept.declared.pages there
      (subst (λ n. n ≤ pages_of store.memory) (sym is.0) between.1)
  one_fits (GrowTable size) effects order some are =
      let found = found_entries known.entries window in
      let need = are.entries size
      (ap (λ o. option_or o (Some size)) (no_table_growth effects (changes_after (GrowTable size) effects tt order))) in
      let is = size_needed known.entries found size (sym need) in
      let between = size_between known window store sizes kept.of real known.entries (table_length store.table) found _
      kept.of.entries real.entries in
      let there = table_seen store.table known.entries found between.0 between.1 is.1 in
      table_grows (func_count m) (all_tables m) store.table size kept.is.table kept.declared.entries there
      (subst (λ n. n ≤ table_length store.table) (sym is.0) between.1)
  one_fits (Bytes address bytes) effects order some are =
      let filled = some_bytes address bytes some in
      let last = or_second (last_some (effect_byte (address + (length bytes - 1))) effects)
      (effect_byte (address + (length bytes - 1)) (Bytes address bytes)) _ (last_among address bytes filled) in
      let need = are.byte (address + (length bytes - 1)) last.0 last.1 in
      let below = (byte_there known window store sizes kept.of real (address + (length bytes - 1)) last.0 need).0 in
      bytes_fit (all_memories m) store.memory (address + length bytes) kept.is.memory (omega (arith, filled))
      (omega (arith, filled, below))
  one_fits (Entry index func) effects order some are =
      let same : nat_eq index index ≡ true = grind (arith, nat_tests) in
      let none = entries_after index func index effects (omega arith) order in
      let need = are.entry index func
      ((λ i. option_or (none i) (cond (same i) (Some func) None))) in
      let found = (needed_is (same_option nat_eq) (known.entry index) (first_entry window index) func need).0 in
      entry_fits (func_count m) m refl (all_tables m) store.table index func kept.is.table
      (entry_there known window store sizes kept.of real index func need).0 (real.entry index func found)
  one_fits (Global global value) effects order some are =
      let same : nat_eq global global ≡ true = grind (arith, nat_tests) in
      let none = globals_after global value global effects (omega arith) order in
      global_fits global value
      (are.global global (Some value) (λ i. option_or (none i) (cond (same i) (Some (Some value)) None)))

  all_fit : (effects : List Effect) → are_ordered effects ≡ true → list_all has_bytes effects ≡ true
      → AreAmong effects → list_all (effect_fits m) effects ≡ true
  all_fit [] order some are = refl
  all_fit (effect ∷ effects) order some are =
      and_true (effect_fits m effect) (list_all (effect_fits m) effects)
      (one_fits effect effects order (and_left (has_bytes effect) (list_all has_bytes effects) some) are)
      (all_fit effects (ordered_rest effect effects order)
      (and_right (has_bytes effect) (list_all has_bytes effects) some) (rest_among effect effects are))

  pub needed_effects_fit : (effects : List Effect) → AreNeeded known window effects → effects_fit m effects ≡ true
  needed_effects_fit effects need =
      and_true (are_ordered effects) (list_all (effect_fits m) effects) need.ordered
      (all_fit effects need.ordered need.nonempty
      (record {
        pages = λ n h. sym need.pages ∙ h;
        entries = λ n h. sym need.entries ∙ h;
        byte = λ at x h. sym (need.byte at) ∙ h;
        entry = λ at x h. sym (need.entry at) ∙ h;
        global = λ at x h. sym (need.global at) ∙ h;
      }))
