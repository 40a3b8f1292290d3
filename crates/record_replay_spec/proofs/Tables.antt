-- The tables of two stores: their writes and their growth.
use Rattle.std.proofs.Common.{◌≡◌, ℕ, ◌+◌, ◌-◌, ◌<◌, List, [], ◌∷◌, ◌++◌, length, Option, Some, None, Bool, true, false, nat_lt, slice_get, refl, sym, ap, ◌∙◌, subst, arith, append-nil, length-append}
use Rattle.std.specs.Prelude.{IfSome, option_map, replicate}
use Rattle.std.proofs.Math.Nat.{sub_self}
use Rattle.std.proofs.lemmas.List.{length-replicate}
use Rattle.std.proofs.lemmas.Option.{none-some}
use Rattle.std.proofs.lemmas.Bool.Decides.{nat_tests}
use Rattle.base.proofs.Lists.{item_there}
use Rattle.history_spec.specs.Store.{Store, Table, with_table}
use Rattle.record_replay_spec.specs.Observations.{WritesEntry, ResizesTable}
use Rattle.record_replay_spec.specs.Changes.{with_table_entry, with_entries, IsChangedAs}

-- an index without an entry is past the end
pub not_there : {X : Type 0} (xs : List X) (i : ℕ) → slice_get xs i ≡ None → nat_lt i (length xs) ≡ false
not_there xs i none = go (nat_lt i (length xs)) refl
  where
    go : (b : Bool) → nat_lt i (length xs) ≡ b → b ≡ false
    go true e =
        let below : i < length xs = grind (arith, nat_tests, e) in
        let there = item_there xs i below in
        absurd (none-some there.0 (sym none ∙ there.1))
    go false e = refl

pub written_table : (store : Store) (table : Table) → store.table ≡ Some table → (index : ℕ) (func : Option ℕ)
    → nat_lt index (length table.entries) ≡ true
    → IsChangedAs store (WritesEntry index func ∷ []) (with_table store (with_table_entry index func table))
written_table store table is index func within =
    let below : index < length table.entries = grind (arith, nat_tests, within) in
    record {
      possible = (subst (λ o. IfSome o (λ (t : Table). index < length t.entries)) (sym is) below, tt);
      changed = ap (λ o. record store { table = option_map (with_table_entry index func) o }) (sym is);
    }

-- ---- sizes

none_more : (n : ℕ) (func : Option ℕ) (table : Table) → with_entries (n - n) func table ≡ table
none_more n func table =
    ap (λ k. with_entries k func table) (sub_self n)
    ∙ ap (λ entries. record table { entries = entries }) (append-nil table.entries)

pub same_entries : (n : ℕ) (func : Option ℕ) (store : Store) → IsChangedAs store (ResizesTable n n func ∷ []) store
same_entries n func store = record { possible = (omega arith, tt); changed = go store.table }
  where
    go : (o : Option Table)
        → record store { table = o } ≡ record store { table = option_map (with_entries (n - n) func) o }
    go None = refl
    go (Some table) = ap (λ t. record store { table = Some t }) (sym (none_more n func table))

pub grown_entries : (store : Store) (table : Table) → store.table ≡ Some table → (found : Table) (by : ℕ)
    (func : Option ℕ)
    → IsChangedAs store (ResizesTable (length found.entries) (length (with_entries by func found).entries) func ∷ [])
    (with_table store (with_entries by func table))
grown_entries store table is found by func =
    let size : length (found.entries ++ replicate by func) ≡ length found.entries + by =
    length-append found.entries (replicate by func) ∙ ap (λ n. length found.entries + n) (length-replicate by func) in
    let more : length (found.entries ++ replicate by func) - length found.entries ≡ by = omega (arith, size) in
    record {
      possible = (omega (arith, size), tt);
      changed =
          ap (λ o. record store { table = option_map (with_entries by func) o }) (sym is)
          ∙ ap (λ k. record store { table = option_map (with_entries k func) store.table }) (sym more);
    }
