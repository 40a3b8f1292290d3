-- The state of what is frozen where something is known.
use Rattle.std.proofs.Common.{◌≡◌, ℕ, suc, ◌*◌, List, [], ◌∷◌, length, map, Option, Some, None, slice_get, refl, sym, ap, ◌∙◌}
use Rattle.std.specs.Prelude.{option_and_then, option_map}
use Rattle.std.specs.List.{range_with_len}
use Rattle.std.proofs.lemmas.Option.{none-some, same_Some}
use Rattle.wasm_syntax.specs.declared.limits.TheConstants.{PAGE_SIZE}
use Rattle.wasm_syntax.specs.declared.modules.Module.{Module}
use Rattle.wasm_syntax.specs.Index.{all_globals, imported_funcs}
use Rattle.history_spec.specs.Store.{Store}
use Rattle.record_replay_spec.specs.Hooks.{original, renumber}
use Rattle.record_replay_spec.specs.Known.{Known}
use Rattle.recorder.specs.FrozenViews.{FrozenView, ShowsFrozen, known_entry, original_entry}
use Rattle.rest_spec.specs.KnownStates.{bytes_below, entries_below, globals_below, state_of_known}
use Rattle.rest_laws.specs.KnownStores.{IsKnownStore}
use Rattle.rest_laws.specs.TopEnters.{renumbered_known}
use Rattle.checkpoint.specs.FrozenLaws.{FrozenStatesAreKnown}
use Rattle.checkpoint.specs.FrozenStates.{frozen_bytes, frozen_entries, state_of_frozen}

-- two lists with the same items
same_list : {X : Type 0} (xs ys : List X) → ((at : ℕ) → slice_get xs at ≡ slice_get ys at) → xs ≡ ys
same_list [] [] same = refl
same_list [] (y ∷ ys) same = absurd (none-some y (same 0))
same_list (x ∷ xs) [] same = absurd (none-some x (sym (same 0)))
same_list (x ∷ xs) (y ∷ ys) same =
    ap (λ z. z ∷ xs) (same_Some x y (same 0)) ∙ ap (λ zs. y ∷ zs) (same_list xs ys (λ at. same (suc at)))

-- a renumbered function is that of the original
original_of : (n : ℕ) → ((func : ℕ) → original n (renumber n func) ≡ Some func) → (entry : Option ℕ)
    → option_and_then (original n) (option_map (renumber n) entry) ≡ entry
original_of n back None = refl
original_of n back (Some func) = back func

module _ (back : (n func : ℕ) → original n (renumber n func) ≡ Some func) (m : Module) (store : Store) (known : Known)
    (frozen : FrozenView) (is : IsKnownStore m store known)
    (shows : ShowsFrozen frozen (renumbered_known (imported_funcs m) known))
    (imports : frozen.imports ≡ imported_funcs m) where
  same_bytes : frozen_bytes (frozen.pages * PAGE_SIZE) frozen ≡ bytes_below (known.pages * PAGE_SIZE) known
  same_bytes =
      ap (λ pages. frozen_bytes (pages * PAGE_SIZE) frozen) (sym shows.pages)
      ∙ (λ i. map (λ at. sym (shows.byte at) i) (range_with_len 0 (known.pages * PAGE_SIZE)))

  entry_at : (at : ℕ) → original_entry frozen at ≡ known.entry at
  entry_at at =
      ap (λ n. option_and_then (original n) (known_entry frozen at)) imports
      ∙ ap (option_and_then (original (imported_funcs m))) (sym (shows.entry at))
      ∙ original_of (imported_funcs m) (back (imported_funcs m)) (known.entry at)

  same_entries : frozen_entries (length frozen.entries) frozen ≡ entries_below known.entries known
  same_entries =
      ap (λ index. frozen_entries index frozen) (sym shows.entries)
      ∙ (λ i. map (λ at. entry_at at i) (range_with_len 0 known.entries))

  same_globals : frozen.globals ≡ globals_below (length (all_globals m)) known
  same_globals =
      same_list frozen.globals (globals_below (length (all_globals m)) known)
      (λ at. sym (shows.global at) ∙ sym (is.holds.global at))

  same_state : state_of_frozen frozen ≡ state_of_known (length (all_globals m)) known
  same_state =
      (λ i. record { bytes = same_bytes i; entries = same_entries i; globals = same_globals i })

pub frozen_states_are_known : ((n func : ℕ) → original n (renumber n func) ≡ Some func) → FrozenStatesAreKnown
frozen_states_are_known back m store known frozen is shows imports =
    same_state back m store known frozen is shows imports
