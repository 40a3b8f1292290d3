-- The effects that a window needs and that give a size give a greater one.
use Rattle.std.proofs.Common.{◌≡◌, ℕ, ◌*◌, ◌<◌, ◌≤◌, List, [], ◌∷◌, length, Option, Some, None, true, nat_eq, sym, ap, ◌∙◌, arith}
use Rattle.std.specs.Prelude.{IfSome, option_and_then}
use Rattle.std.specs.Option.{option_or}
use Rattle.std.proofs.lemmas.Bool.Decides.{nat_tests}
use Rattle.base.proofs.Options.{map_some, or_none}
use Rattle.wasm_syntax.specs.declared.limits.TheConstants.{PAGE_SIZE}
use Rattle.trace_model.specs.declared.tapes.Effect.{Effect}
use Rattle.trace_model.specs.declared.tapes.Effect.TheVariants.{Grow, Table as GrowTable, Bytes, Entry, Global}
use Rattle.trace_model.specs.Effects.{are_ordered_after, are_ordered}
use Rattle.history_spec.specs.Store.{Store, Memory, Table, with_memory}
use Rattle.history_spec.specs.Instantiation.{table_length}
use Rattle.record_replay_spec.specs.Observations.{Observation}
use Rattle.record_replay_spec.specs.Known.{Known, pages_of, last_some}
use Rattle.record_replay_spec.specs.Windows.{found_pages, found_entries}
use Rattle.record_replay_spec.specs.Needed.{needed, needed_pages, needed_entries, effect_pages, effect_entries, AreNeeded}
use Rattle.record_replay_spec.specs.TapeRun.{memory_of_size, store_after_effect}
use Rattle.generated_code_laws.specs.EffectLaws.{AllGrowSizes}
use Rattle.tape_laws.proofs.Relation.{IsKnownOf, IsReadOf, Holds}
use Rattle.tape_laws.proofs.Held.{whole_pages}
use Rattle.tape_laws.proofs.Effects.{AreChanges}
use Rattle.record_replay_spec.proofs.OneList.{pages_after}
use Rattle.tape_laws.proofs.Activities.{HasSizes, changes_after, no_table_growth, size_between}
use Rattle.tape_laws.proofs.Activity.{size_needed}

-- changes of bytes, entries and globals give no size
changes_grow : (effects : List Effect) (store : Store) → AreChanges effects → AllGrowSizes store effects
changes_grow [] store are = tt
changes_grow (Grow size ∷ effects) store are = absurd are.0
changes_grow (GrowTable size ∷ effects) store are = absurd are.0
changes_grow (Bytes address bytes ∷ effects) store are = (tt, λ next is. changes_grow effects next are.1)
changes_grow (Entry index func ∷ effects) store are = (tt, λ next is. changes_grow effects next are.1)
changes_grow (Global global value ∷ effects) store are = (tt, λ next is. changes_grow effects next are.1)

-- a needed size is greater than the known one
greater : (known found size : ℕ) → known ≤ found → Some size ≡ needed nat_eq known (Some found) → known < size
greater known found size low need =
    let is = size_needed known found size need in
    let same = is.0 in
    let differs = is.1 in
    let less : known < found = grind (arith, nat_tests, low, differs) in
    omega (arith, same, less)

known_pages : (o : Option Memory) (known : ℕ) → IfSome o (λ m. length m.bytes ≡ known * PAGE_SIZE)
    → pages_of o ≤ known
known_pages None known long = omega arith
known_pages (Some m) known long = let same = whole_pages (length m.bytes) known long in omega (arith, same)

known_entries : (o : Option Table) (known : ℕ) → IfSome o (λ t. length t.entries ≡ known) → table_length o ≤ known
known_entries None known count = omega arith
known_entries (Some t) known count = omega (arith, count)

-- a growth of the memory leaves the table unchanged
same_table : (store next : Store) (size : ℕ) → store_after_effect store (Grow size) ≡ Some next
    → table_length next.table ≡ table_length store.table
same_table store next size is =
    let m = map_some (with_memory store) (option_and_then (memory_of_size size) store.memory) next is in
    ap (λ (s : Store). table_length s.table) (sym m.2)

module _ (known : Known) (window : List Observation) (store : Store) (sizes : HasSizes store)
    (k : IsKnownOf known store) (real : IsReadOf known window store) where
  pages_less : (size : ℕ) → Some size ≡ needed_pages known window → known.pages < size
  pages_less size =
      greater known.pages (found_pages known.pages window) size
      (size_between known window store sizes k real known.pages (pages_of store.memory)
      (found_pages known.pages window) _ k.pages real.pages).0

  entries_less : (size : ℕ) → Some size ≡ needed_entries known window → known.entries < size
  entries_less size =
      greater known.entries (found_entries known.entries window) size
      (size_between known window store sizes k real known.entries (table_length store.table)
      (found_entries known.entries window) _ k.entries real.entries).0

  -- a growth of the table, and the effects after it
  table_grows : (now : Store) (size : ℕ) (effects : List Effect) → table_length now.table ≤ known.entries
      → are_ordered_after (GrowTable size) effects ≡ true
      → last_some effect_entries (GrowTable size ∷ effects) ≡ needed_entries known window
      → AllGrowSizes now (GrowTable size ∷ effects)
  table_grows now size effects low order need =
      let are = changes_after (GrowTable size) effects tt order in
      let more = entries_less size (sym (ap (λ o. option_or o (Some size)) (no_table_growth effects are)) ∙ need) in (
        omega (arith, low, more),
        λ next is. changes_grow effects next are,
      )

  -- the effects after a growth of the memory
  rest_grows : (now : Store) (size : ℕ) (effects : List Effect) → table_length now.table ≤ known.entries
      → are_ordered_after (Grow size) effects ≡ true
      → last_some effect_entries effects ≡ needed_entries known window → AllGrowSizes now effects
  rest_grows now size [] low order need = tt
  rest_grows now size (Grow new ∷ effects) low order need = cc
  rest_grows now size (GrowTable new ∷ effects) low order need = table_grows now new effects low order need
  rest_grows now size (Bytes address bytes ∷ effects) low order need =
      changes_grow (Bytes address bytes ∷ effects) now (tt, changes_after (Bytes address bytes) effects tt order)
  rest_grows now size (Entry index func ∷ effects) low order need =
      changes_grow (Entry index func ∷ effects) now (tt, changes_after (Entry index func) effects tt order)
  rest_grows now size (Global global value ∷ effects) low order need =
      changes_grow (Global global value ∷ effects) now (tt, changes_after (Global global value) effects tt order)

  -- needed effects in a store with the known sizes
  pub needed_grow : (other : Store) → Holds known [] other → (effects : List Effect) → AreNeeded known window effects
      → AllGrowSizes other effects
  needed_grow other holds effects need = go effects need.ordered need.pages need.entries
    where
      few : table_length other.table ≤ known.entries
      few = known_entries other.table known.entries holds.entries

      go : (effects : List Effect) → are_ordered effects ≡ true
          → last_some effect_pages effects ≡ needed_pages known window
          → last_some effect_entries effects ≡ needed_entries known window → AllGrowSizes other effects
      go [] order grown count = tt
      go (Grow size ∷ effects) order grown count =
          let more = pages_less size
          (sym (ap (λ o. option_or o (Some size)) (pages_after (Grow size) effects order)) ∙ grown) in
          let low = known_pages other.memory known.pages holds.pages in (
            omega (arith, low, more),
            λ next is.
                let same = same_table other next size is in
                let less = few in
                rest_grows next size effects (omega (arith, same, less)) order
                (sym (or_none (last_some effect_entries effects)) ∙ count),
          )
      go (GrowTable size ∷ effects) order grown count = table_grows other size effects few order count
      go (Bytes address bytes ∷ effects) order grown count =
          changes_grow (Bytes address bytes ∷ effects) other
          (tt, changes_after (Bytes address bytes) effects tt order)
      go (Entry index func ∷ effects) order grown count =
          changes_grow (Entry index func ∷ effects) other (tt, changes_after (Entry index func) effects tt order)
      go (Global global value ∷ effects) order grown count =
          changes_grow (Global global value ∷ effects) other
          (tt, changes_after (Global global value) effects tt order)
