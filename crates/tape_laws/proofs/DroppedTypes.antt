-- A store that holds at each place what one of two well-typed stores holds is well typed.
use Rattle.std.proofs.Common.{◌≡◌, ℕ, ◌*◌, ◌<◌, ◌≤◌, Option, Some, None, slice_get, refl, sym, ap, ◌∙◌, subst, arith, inl, inr}
use Rattle.std.specs.Prelude.{◌⊎◌, option_map}
use Rattle.wasm_syntax.specs.declared.limits.TheConstants.{PAGE_SIZE}
use Rattle.wasm_syntax.specs.declared.modules.Module.{Module}
use Rattle.history_spec.specs.Store.{Store}
use Rattle.history_spec.specs.Instantiation.{memory_length, table_length}
use Rattle.record_replay_spec.specs.Known.{byte_of, entry_of, pages_of, opening_known}
use Rattle.type_safety.specs.Values.{IsValue}
use Rattle.type_safety.specs.Stores.{func_count, global_types, IsStore}
use Rattle.tape_laws.specs.KnownValues.{AreTypedKnown}
use Rattle.tape_laws.proofs.DroppedPlaces.{MayLack}
use Rattle.tape_laws.proofs.HostStores.{type_at}
use Rattle.tape_laws.proofs.Stores.{maxima}
use Rattle.tape_laws.proofs.TypedStores.{opening_typed, pages_are, store_typed as typed_by_places}

-- a place holds what it holds in one store or in the other
abbrev pub IsEither : {X : Type 0} → (real other found : X) → Type 0
IsEither real other found = (found ≡ real) ⊎ (found ≡ other)

pub either_of : {X : Type 0} (first : Option X) (known real other found : X) (free : Type 0)
    → ((x : X) → first ≡ Some x → real ≡ x) → other ≡ known → MayLack first known found free
    → IsEither real other found
either_of None known real other found free reads same (inl h) = inr (h ∙ sym same)
either_of (Some x) known real other found free reads same (inl h) = inl (h ∙ sym (reads x refl))
either_of first known real other found free reads same (inr h) = inr (h.0 ∙ sym same)

either_has : {X : Type 0} (P : X → Type 0) (real other found : X) → P real → P other → IsEither real other found
    → P found
either_has P real other found p q (inl h) = subst P (sym h) p
either_has P real other found p q (inr h) = subst P (sym h) q

-- ---- stores

-- the sizes of a store are between those of two others
pub record IsBetween (other real found : Store) : Type 0 where
  pub size : ℕ
  pub long : memory_length found.memory ≡ size * PAGE_SIZE
  pub more : pages_of other.memory ≤ size
  pub fits : size ≤ pages_of real.memory
  pub more_entries : table_length other.table ≤ table_length found.table
  pub fits_entries : table_length found.table ≤ table_length real.table

pub store_typed : (m : Module) (real other found : Store) → IsStore m real → IsStore m other
    → maxima found ≡ maxima other → maxima other ≡ maxima real
    → ((at : ℕ) → IsEither (byte_of real.memory at) (byte_of other.memory at) (byte_of found.memory at))
    → ((at : ℕ) → IsEither (entry_of real.table at) (entry_of other.table at) (entry_of found.table at))
    → ((at : ℕ) → IsEither (slice_get real.globals at) (slice_get other.globals at) (slice_get found.globals at))
    → IsBetween other real found → IsStore m found
store_typed m real other found is of same alike bytes entries globals sizes =
    typed_by_places m real found is
    (record {
      same = same ∙ alike;
      long = sizes.long ∙ ap (λ n. n * PAGE_SIZE) (sym size);
      pages = let fits = sizes.fits in omega (arith, fits, size);
      entries = sizes.fits_entries;
    })
    (record {
      byte = λ at.
          either_has (λ byte. byte < 256) (byte_of real.memory at) (byte_of other.memory at) (byte_of found.memory at)
          (first.byte at) (second.byte at) (bytes at);
      entry = λ at.
          either_has (λ entry. (func : ℕ) → entry ≡ Some func → func < func_count m) (entry_of real.table at)
          (entry_of other.table at) (entry_of found.table at) (first.entry at) (second.entry at) (entries at);
      global = λ at ty value there.
          either_has (λ global. global ≡ Some value → IsValue (func_count m) ty value) (slice_get real.globals at)
          (slice_get other.globals at) (slice_get found.globals at) (first.global at ty value there)
          (second.global at ty value there) (globals at);
      pages = λ limits e. let least = second.pages limits e in let more = sizes.more in omega (arith, least, more, size);
      entries = λ limits e. let least = second.entries limits e in let more = sizes.more_entries in omega (arith, least, more);
    })
    (λ at.
    either_has (λ global. option_map (λ value. value.ty) global ≡ slice_get (global_types m) at)
    (slice_get real.globals at) (slice_get other.globals at) (slice_get found.globals at)
    (type_at m (func_count m) (global_types m) real.globals at is.globals)
    (type_at m (func_count m) (global_types m) other.globals at of.globals) (globals at))
  where
    first : AreTypedKnown m (opening_known real)
    first = opening_typed m real is

    second : AreTypedKnown m (opening_known other)
    second = opening_typed m other of

    size : pages_of found.memory ≡ sizes.size
    size = pages_are found.memory sizes.size sizes.long
