-- The store that a module begins with, if its functions have other numbers.
use Rattle.std.proofs.Common.{◌≡◌, ℕ, ◌+◌, List, [], ◌∷◌, map, Option, Some, None, nat_le, option_map, replicate, refl, ap, ◌∙◌}
use Rattle.std.specs.Prelude.{fold}
use Rattle.std.proofs.lemmas.List.{length-map}
use Rattle.wasm_syntax.specs.declared.signatures.Limits.{Limits}
use Rattle.wasm_syntax.specs.declared.modules.ElemSeg.{ElemSeg}
use Rattle.wasm_syntax.specs.declared.modules.ElemSeg.TheVariants.{Active, Declared}
use Rattle.wasm_syntax.specs.declared.values.Val.{Val}
use Rattle.history_spec.specs.Instantiation.{offset_of, new_table, table_length, elem_fits, with_elem, with_elems}
use Rattle.history_spec.specs.Store.{Store, with_items_at}
use Rattle.history_spec.proofs.RenumberedEntries.{items_mapped, empty_kept, entries_of}
use Rattle.instance_spec.specs.Instances.{Instance}
use Rattle.instance_spec.specs.ForeignRuns.{numbered_table}
use Rattle.instance_spec.specs.Widened.{renamed_elem}

module _ (i : Instance) where
  abbrev entry : Option ℕ → Option ℕ
  entry func = option_map i.funcs func

  elem_written : (imported : List Val) (e : ElemSeg) (entries : List (Option ℕ))
      → with_elem imported (map entry entries) (renamed_elem i e) ≡ map entry (with_elem imported entries e)
  elem_written imported (Active table offset funcs) entries =
      ap (with_items_at (map entry entries) (offset_of imported offset)) (entries_of i.funcs funcs)
      ∙ items_mapped entry entries (offset_of imported offset) (map (λ func. Some func) funcs)
  elem_written imported (Declared funcs) entries = refl

  elems_written : (imported : List Val) (elems : List ElemSeg) (entries other : List (Option ℕ))
      → other ≡ map entry entries
      → fold (with_elem imported) other (map (renamed_elem i) elems)
      ≡ map entry (fold (with_elem imported) entries elems)
  elems_written imported [] entries other e = e
  elems_written imported (elem ∷ elems) entries other e =
      elems_written imported elems (with_elem imported entries elem) (with_elem imported other (renamed_elem i elem))
      (ap (λ old. with_elem imported old (renamed_elem i elem)) e ∙ elem_written imported elem entries)

  pub table_written : (imported : List Val) (elems : List ElemSeg) (limits : Option Limits)
      → option_map (with_elems imported (map (renamed_elem i) elems)) (option_map new_table limits)
      ≡ option_map (numbered_table i) (option_map (with_elems imported elems) (option_map new_table limits))
  table_written imported elems None = refl
  table_written imported elems (Some limits) =
      ap (λ entries. Some (record { entries = entries; max = limits.max }))
      (elems_written imported elems (replicate limits.min None) (replicate limits.min None) (empty_kept i.funcs limits.min))

  elem_fit : (imported : List Val) (store : Store) (e : ElemSeg)
      → elem_fits imported store (renamed_elem i e) ≡ elem_fits imported store e
  elem_fit imported store (Active table offset funcs) =
      ap (λ count. nat_le (offset_of imported offset + count) (table_length store.table))
      (length-map funcs i.funcs)
  elem_fit imported store (Declared funcs) = refl

  pub elems_fit : (imported : List Val) (store : Store) (elems : List ElemSeg)
      → map (elem_fits imported store) (map (renamed_elem i) elems) ≡ map (elem_fits imported store) elems
  elems_fit imported store [] = refl
  elems_fit imported store (e ∷ elems) =
      let first = elem_fit imported store e in
      let rest = elems_fit imported store elems in (λ i. first i ∷ rest i)
