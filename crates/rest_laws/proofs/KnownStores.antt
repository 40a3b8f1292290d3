-- The store that holds just what is known before a top-level call is a well-typed store of the module.
use Rattle.std.proofs.Common.{◌≡◌, ℕ, ◌*◌, ◌<◌, ◌≤◌, List, [], length, map, Option, Some, None, Bool, true, false, nat_lt, slice_get, slice_index, refl, sym, ap, ◌∙◌, subst, arith}
use Rattle.std.specs.Prelude.{option_map, unwrap_or}
use Rattle.std.specs.List.{range_with_len}
use Rattle.std.specs.Option.{option_flatten}
use Rattle.std.proofs.lemmas.Bool.Decides.{nat_tests}
use Rattle.std.proofs.lemmas.List.{get_or_past, length-map}
use Rattle.std.proofs.lemmas.List.FromFn.{length-map-range_with_len, get_or-map-range_with_len}
use Rattle.std.proofs.lemmas.Option.{none-some, same_Some, slice_get-get_or, slice_get_past}
use Rattle.base.proofs.Lists.{item_there}
use Rattle.wasm_syntax.specs.declared.limits.TheConstants.{PAGE_SIZE}
use Rattle.wasm_syntax.specs.declared.values.ValType.{ValType}
use Rattle.wasm_syntax.specs.declared.values.Val.{Val}
use Rattle.wasm_syntax.specs.declared.modules.Module.{Module}
use Rattle.wasm_syntax.specs.Index.{all_globals}
use Rattle.history_spec.specs.Code.{i32_value}
use Rattle.history_spec.specs.Instantiation.{memory_length, table_length}
use Rattle.history_spec.specs.Run.{program_of, start_in_store}
use Rattle.history_spec.specs.Step.{Program, StepResult, Running}
use Rattle.history_spec.specs.Store.{Store, Memory, Table}
use Rattle.record_replay_spec.specs.Observations.{observations, run_observations}
use Rattle.record_replay_spec.specs.Known.{Known, byte_of, entry_of, pages_of, opening_known}
use Rattle.rest_spec.specs.AtCalls.{AtCall, at_call}
use Rattle.rest_spec.specs.KnownBefore.{known_before}
use Rattle.rest_spec.specs.KnownStates.{bytes_below, entries_below}
use Rattle.type_safety.specs.Stores.{func_count, global_types, IsStore}
use Rattle.tape_laws.specs.Below.{LawsOfSteps, LawsOfRuns}
use Rattle.tape_laws.specs.KnownValues.{AreKnownValues, KnownValuesAreTyped}
use Rattle.tape_laws.specs.RealReads.{IsKnownOf, RunsReadWhatIsThere, known_so_far, observed_from}
use Rattle.tape_laws.proofs.AllSteps.{opening_is_known}
use Rattle.tape_laws.proofs.HostStores.{sizes_of, type_at}
use Rattle.tape_laws.proofs.Items.{if_bytes, if_entries}
use Rattle.tape_laws.proofs.SafeRuns.{IsSafeRun, safe_run}
use Rattle.tape_laws.proofs.Stores.{Maxima, maxima}
use Rattle.tape_laws.proofs.TypedStores.{IsWithin, opening_typed, pages_are, store_typed}
use Rattle.rest_laws.specs.Calls.{IsCallOfRun, AtStart, InRun}
use Rattle.rest_laws.specs.KnownStores.{known_memory, known_table, known_store, IsKnownStore, KnownStoresAreTyped}
use Rattle.rest_laws.specs.Laws.{IsSameKnown, KnownBeforeIsKept}
use Rattle.rest_laws.specs.Replays.{HoldsKnown, HaveSameMaxima}
use Rattle.rest_laws.proofs.Maxima.{reached_safely}
use Rattle.rest_laws.proofs.Starts.{calls_are_of_runs}

-- ---- lists of what is known

module _ {X : Type 0} (part : ℕ → X) where
  -- the parts below an index
  abbrev parts : ℕ → List X
  parts n = map part (range_with_len 0 n)

  long : (n : ℕ) → length (parts n) ≡ n
  long n = length-map-range_with_len part 0 n

  part_there : (n at : ℕ) (other : X) → at < n → slice_get (parts n) at ≡ Some (part at)
  part_there n at other below =
      let l = long n in
      slice_get-get_or (parts n) at other (omega (arith, l, below))
      ∙ ap Some (get_or-map-range_with_len part 0 n at at other below (omega arith))

  no_part : (n at : ℕ) → n ≤ at → slice_get (parts n) at ≡ None
  no_part n at past = let l = long n in slice_get_past (parts n) at (omega (arith, l, past))

-- ---- the store

option_none : {X Y : Type 0} (f : X → Y) (o : Option X) → option_map f o ≡ None → o ≡ None
option_none f None e = refl
option_none f (Some x) e = absurd (none-some (f x) (sym e))

module _ (m : Module) (known : Known) (store now : Store) (real : IsStore m now) (same : maxima now ≡ maxima store)
    (of : IsKnownOf known now) where
  abbrev held : Store
  held = known_store m store known

  -- a first store without a memory or a table has nothing known of it
  no_pages : (o : Option Memory)
      → option_map (λ memory. memory.max) now.memory ≡ option_map (λ memory. memory.max) o → o ≡ None
      → known.pages ≡ 0
  no_pages o max e =
      let fits = of.pages in
      let none = ap pages_of
      (option_none (λ memory. memory.max) now.memory (max ∙ ap (option_map (λ memory. memory.max)) e)) in
      omega (arith, fits, none)

  no_entries : (o : Option Table)
      → option_map (λ table. table.max) now.table ≡ option_map (λ table. table.max) o → o ≡ None → known.entries ≡ 0
  no_entries o max e =
      let fits = of.entries in
      let none = ap table_length
      (option_none (λ table. table.max) now.table (max ∙ ap (option_map (λ table. table.max)) e)) in
      omega (arith, fits, none)

  same_pages : option_map (λ memory. memory.max) now.memory ≡ option_map (λ memory. memory.max) store.memory
  same_pages = ap (λ (m : Maxima). m.pages) same

  same_entries : option_map (λ table. table.max) now.table ≡ option_map (λ table. table.max) store.table
  same_entries = ap (λ (m : Maxima). m.entries) same

  -- ---- sizes

  memory_long : (o : Option Memory)
      → option_map (λ memory. memory.max) now.memory ≡ option_map (λ memory. memory.max) o
      → memory_length (option_map (known_memory known) o) ≡ known.pages * PAGE_SIZE
  memory_long None max = ap (λ n. n * PAGE_SIZE) (sym (no_pages None max refl))
  memory_long (Some memory) max = long known.byte (known.pages * PAGE_SIZE)

  table_long : (o : Option Table)
      → option_map (λ table. table.max) now.table ≡ option_map (λ table. table.max) o
      → table_length (option_map (known_table known) o) ≡ known.entries
  table_long None max = sym (no_entries None max refl)
  table_long (Some table) max = long known.entry known.entries

  held_pages : pages_of held.memory ≡ known.pages
  held_pages = pages_are held.memory known.pages (memory_long store.memory same_pages)

  held_entries : table_length held.table ≡ known.entries
  held_entries = table_long store.table same_entries

  -- ---- places

  byte_held : (o : Option Memory)
      → option_map (λ memory. memory.max) now.memory ≡ option_map (λ memory. memory.max) o → (at : ℕ)
      → byte_of (option_map (known_memory known) o) at ≡ known.byte at
  byte_held None max at =
      sym (of.past_pages at (subst (λ n. n * PAGE_SIZE ≤ at) (sym (no_pages None max refl)) (omega arith)))
  byte_held (Some memory) max at = go (nat_lt at (known.pages * PAGE_SIZE)) refl
    where
      go : (b : Bool) → nat_lt at (known.pages * PAGE_SIZE) ≡ b
          → slice_index (bytes_below (known.pages * PAGE_SIZE) known) at ≡ known.byte at
      go true p =
          get_or-map-range_with_len known.byte 0 (known.pages * PAGE_SIZE) at at 0 (grind (arith, nat_tests, p))
          (omega arith)
      go false p =
          let past : known.pages * PAGE_SIZE ≤ at = grind (arith, nat_tests, p) in
          get_or_past (bytes_below (known.pages * PAGE_SIZE) known) at 0
          (subst (λ n. n ≤ at) (sym (long known.byte (known.pages * PAGE_SIZE))) past)
          ∙ sym (of.past_pages at past)

  entry_held : (o : Option Table)
      → option_map (λ table. table.max) now.table ≡ option_map (λ table. table.max) o → (at : ℕ)
      → entry_of (option_map (known_table known) o) at ≡ known.entry at
  entry_held None max at = let none = no_entries None max refl in sym (of.past_entries at (omega (arith, none)))
  entry_held (Some table) max at = go (nat_lt at known.entries) refl
    where
      go : (b : Bool) → nat_lt at known.entries ≡ b
          → option_flatten (slice_get (entries_below known.entries known) at) ≡ known.entry at
      go true p = ap option_flatten (part_there known.entry known.entries at None (grind (arith, nat_tests, p)))
      go false p =
          let past : known.entries ≤ at = grind (arith, nat_tests, p) in
          ap option_flatten (no_part known.entry known.entries at past) ∙ sym (of.past_entries at past)

  -- the known globals are those of the module, with their types
  known_types : (at : ℕ) → option_map (λ value. value.ty) (known.global at) ≡ slice_get (global_types m) at
  known_types at = of.types at ∙ type_at m (func_count m) (global_types m) now.globals at real.globals

  abbrev part : ℕ → Val
  part at = unwrap_or (known.global at) (i32_value 0)

  abbrev count : ℕ
  count = length (all_globals m)

  global_held : (at : ℕ) → slice_get held.globals at ≡ known.global at
  global_held at = go (nat_lt at count) refl
    where
      types_long : length (global_types m) ≡ count
      types_long = length-map (all_globals m) (λ global. global.ty)

      some : (o : Option Val) (ty : ValType) → option_map (λ value. value.ty) o ≡ Some ty
          → Some (unwrap_or o (i32_value 0)) ≡ o
      some None ty e = absurd (none-some ty e)
      some (Some value) ty e = refl

      known_value : (ty : ValType) × (slice_get (global_types m) at ≡ Some ty) → Some (part at) ≡ known.global at
      known_value (ty, there) = some (known.global at) ty (known_types at ∙ there)

      go : (b : Bool) → nat_lt at count ≡ b → slice_get held.globals at ≡ known.global at
      go true p =
          let l = types_long in
          let below : at < count = grind (arith, nat_tests, p) in
          part_there part count at (i32_value 0) below
          ∙ known_value (item_there (global_types m) at (omega (arith, l, below)))
      go false p =
          let l = types_long in
          let past : count ≤ at = grind (arith, nat_tests, p) in
          no_part part count at past
          ∙ sym
          (option_none (λ value. value.ty) (known.global at)
          (known_types at ∙ slice_get_past (global_types m) at (omega (arith, l, past))))

  -- ---- the store holds what is known, and is typed

  holds : HoldsKnown known held
  holds =
      record {
        pages = if_bytes held.memory (known.pages * PAGE_SIZE) (memory_long store.memory same_pages);
        entries = if_entries held.table known.entries held_entries;
        byte = byte_held store.memory same_pages;
        entry = entry_held store.table same_entries;
        global = global_held;
      }

  same_held : HaveSameMaxima store held
  same_held = record { memory = memory_max store.memory; table = table_max store.table }
    where
      memory_max : (o : Option Memory)
          → option_map (λ memory. memory.max) (option_map (known_memory known) o)
          ≡ option_map (λ memory. memory.max) o
      memory_max None = refl
      memory_max (Some memory) = refl

      table_max : (o : Option Table)
          → option_map (λ table. table.max) (option_map (known_table known) o) ≡ option_map (λ table. table.max) o
      table_max None = refl
      table_max (Some table) = refl

  held_within : IsWithin now held
  held_within =
      record {
        same =
            (λ i. record { pages = same_held.memory i; entries = same_held.table i }) ∙ sym same;
        long = memory_long store.memory same_pages ∙ ap (λ n. n * PAGE_SIZE) (sym held_pages);
        pages = let fits = of.pages in let size = held_pages in omega (arith, fits, size);
        entries = let fits = of.entries in let size = held_entries in omega (arith, fits, size);
      }

  pub is_known_store : AreKnownValues m store known → IsKnownStore m store known
  is_known_store values =
      record {
        typed =
            store_typed m now held real held_within
            (record {
              byte = λ at. subst (λ byte. byte < 256) (sym (holds.byte at)) (values.typed.byte at);
              entry = λ at func e. values.typed.entry at func (sym (holds.entry at) ∙ e);
              global = λ at ty value there e. values.typed.global at ty value there (sym (global_held at) ∙ e);
              pages = λ limits e. subst (λ n. limits.min ≤ n) (sym held_pages) (values.typed.pages limits e);
              entries = λ limits e. subst (λ n. limits.min ≤ n) (sym held_entries) (values.typed.entries limits e);
            })
            (λ at. ap (option_map (λ value. value.ty)) (global_held at) ∙ known_types at);
        holds = holds;
        pages = held_pages;
        entries = held_entries;
        maxima = same_held;
        immutable = λ at ty there fixed. global_held at ∙ values.immutable at ty there fixed;
      }

-- ---- before a top-level call

same_known : (known : Known) (at : AtCall) (o : Option Known) (p : Option AtCall) → o ≡ Some known → p ≡ Some at
    → IsSameKnown o p → at.known ≡ known
same_known known at None p e f same = absurd (none-some known e)
same_known known at (Some own) None e f same = absurd (none-some at f)
same_known known at (Some own) (Some call) e f same =
    ap (λ (a : AtCall). a.known) (sym (same_Some call at f)) ∙ sym same ∙ same_Some own known e

pub known_stores_are_typed : LawsOfSteps → LawsOfRuns → RunsReadWhatIsThere → KnownValuesAreTyped → KnownBeforeIsKept
    → KnownStoresAreTyped
known_stores_are_typed laws safety reads values kept m script supply store count number rest known runnable fits links
    opens has_rest before =
    by_call (calls_are_of_runs m script store count number rest has_rest)
  where
    program : Program
    program = program_of m script

    initial : StepResult
    initial = start_in_store m script store

    opening : Known
    opening = opening_known store

    run : IsSafeRun m script store
    run = safe_run safety m script supply store runnable fits links opens

    is_same : (at : AtCall) → at_call number 0 opening (run_observations program initial count) ≡ Some at
        → at.known ≡ known
    is_same at seen =
        same_known known at (known_before number 0 opening [] (run_observations program initial count))
        (at_call number 0 opening (run_observations program initial count)) before seen
        (kept opening (run_observations program initial count) number)

    by_call : IsCallOfRun program initial opening count number rest → IsKnownStore m store known
    by_call (AtStart is seen) =
        subst (IsKnownStore m store)
        (is_same (record { known = opening; later = observed_from program count initial }) seen)
        (is_known_store m opening store store run.is refl (opening_is_known store (sizes_of m store run.is))
        (record { typed = opening_typed m store run.is; immutable = λ at ty there fixed. refl }))
    by_call (InRun before later config action actions all reached alone is seen) =
        let state = known_so_far m script store before in
        let found = reached_safely laws m script store runnable fits run before config reached in
        subst (IsKnownStore m store)
        (is_same (record { known = state; later = observations program later (Running config) }) seen)
        (is_known_store m state store config.store found.fine.store found.kept
        (reads m script supply store before config runnable fits links opens reached).0
        (values m script supply store before config runnable fits links opens reached))
