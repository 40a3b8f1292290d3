-- Data segments that are written one after another, and the memory that is instantiated with them.
use Rattle.std.proofs.Common.{◌≡◌, ℕ, ◌+◌, ◌*◌, ◌/◌, ◌≤◌, ◌<◌, List, [], ◌∷◌, length, take, get_or, ◌⊎◌, inl, inr, Option, Some, None, Result, Ok, Err, IsOk, IsTrue, slice_index, refl, sym, ap, subst, ◌∙◌, arith}
use Rattle.std.specs.Prelude.{option_map, unwrap_or}
use Rattle.std.proofs.lemmas.Bool.{cases_lt, leb-true}
use Rattle.std.proofs.lemmas.List.{get_or-replicate, get_or_past, length-replicate, nil_from_length}
use Rattle.std.proofs.lemmas.List.Elements.{All-get_or, All-head, All-tail, All-take, All-weaker}
use Rattle.std.proofs.lemmas.List.Sums.{fold_more}
use Rattle.wasm_syntax.specs.declared.limits.TheConstants.{PAGE_SIZE}
use Rattle.wasm_syntax.specs.declared.values.Val.{Val}
use Rattle.wasm_syntax.specs.declared.signatures.Limits.{Limits}
use Rattle.wasm_syntax.specs.declared.modules.DataSeg.{DataSeg}
use Rattle.wasm_syntax.specs.declared.modules.Module.{Module}
use Rattle.host_script.specs.declared.scripts.Supply.{Supply}
use Rattle.host_script.specs.declared.scripts.LinkFault.{LinkFault}
use Rattle.history_spec.specs.Store.{Store, Memory, zeros}
use Rattle.history_spec.specs.Instantiation.{data_fits, instantiate, memory_length, memory_limits, new_memory, new_store, offset_of, with_data, with_datas}
use Rattle.instantiation_parts.specs.Parts.{HasParts, InstantiatedStoresHaveParts}
use Rattle.wasm_store.specs.Calls.{bytes_in, bytes_of_memory, pages_in, pages_of_memory}
use Rattle.wasm_store.specs.Parts.{minimum_of}
use Rattle.wasm_store.proofs.FirstSizes.{new_memory_length}
use Rattle.shadow_memory.specs.Shadow.{byte_among, AreSame, AreWritten}
use Rattle.shadow_memory.specs.Opening.{with_all, EndWithin}
use Rattle.shadow_memory.proofs.WrittenBytes.{replaced_length, replaced_part}

module _ (imported : List Val) where
  abbrev ends_by : ℕ → DataSeg → Type 0
  ends_by size segment = offset_of imported segment.offset + length segment.bytes ≤ size

  all_length : (datas : List DataSeg) (bytes : List ℕ) → EndWithin imported (length bytes) datas
      → length (with_all imported bytes datas) ≡ length bytes
  all_length [] bytes within = refl
  all_length (segment ∷ more) bytes within =
      let one : length (with_data imported bytes segment) ≡ length bytes =
      replaced_length bytes (offset_of imported segment.offset) segment.bytes
      (All-head (ends_by (length bytes)) segment more within) in
      all_length more (with_data imported bytes segment)
      (subst (λ n. EndWithin imported n more) (sym one) (All-tail (ends_by (length bytes)) segment more within))
      ∙ one

  pub data_taken : (datas : List DataSeg) (i : ℕ) (segment : DataSeg) (bytes before after : List ℕ)
      → i < length datas → segment ≡ get_or datas i segment
      → AreWritten before (offset_of imported segment.offset) segment.bytes after
      → EndWithin imported (length bytes) datas → AreSame (with_all imported bytes (take i datas)) before
      → AreSame (with_all imported bytes (take (i + 1) datas)) after
  data_taken datas i segment bytes before after below is written within same at =
      let done = with_all imported bytes (take i datas) in
      let long : length done ≡ length bytes =
      all_length (take i datas) bytes (All-take (ends_by (length bytes)) i datas within) in
      let ends : offset_of imported segment.offset + length segment.bytes ≤ length bytes =
      subst (ends_by (length bytes)) (sym is) (All-get_or (ends_by (length bytes)) datas i segment below within) in
      written at
      ∙ ap (unwrap_or (byte_among (offset_of imported segment.offset) segment.bytes at)) (same at)
      ∙ sym (replaced_part done (offset_of imported segment.offset) segment.bytes (omega (arith, ends, long)) at)
      ∙ ap (λ s. slice_index (with_data imported done s) at) is
      ∙ sym (ap (λ all. slice_index all at) (fold_more (with_data imported) bytes datas i segment below))

  -- the memory of these limits with these segments
  abbrev opened : Option Limits → List DataSeg → Option Memory
  opened limits datas = option_map (with_datas imported datas) (option_map new_memory limits)

  abbrev pub new_bytes : Option Limits → List ℕ
  new_bytes limits = zeros (minimum_of limits * PAGE_SIZE)

  new_length : (limits : Option Limits) → length (new_bytes limits) ≡ minimum_of limits * PAGE_SIZE
  new_length limits = length-replicate {A = ℕ} (minimum_of limits * PAGE_SIZE) 0

  opened_bytes : (limits : Option Limits) (datas : List DataSeg)
      → EndWithin imported (minimum_of limits * PAGE_SIZE) datas
      → with_all imported (new_bytes limits) datas ≡ bytes_of_memory (opened limits datas)
  opened_bytes None datas within =
      nil_from_length (with_all imported (new_bytes None) datas)
      (all_length datas (new_bytes None) (subst (λ n. EndWithin imported n datas) (sym (new_length None)) within)
      ∙ new_length None)
  opened_bytes (Some limits) datas within = refl

  opened_pages : (limits : Option Limits) (datas : List DataSeg)
      → EndWithin imported (minimum_of limits * PAGE_SIZE) datas
      → minimum_of limits ≡ pages_of_memory (opened limits datas)
  opened_pages None datas within = refl
  opened_pages (Some limits) datas within =
      let long : length (with_all imported (new_bytes (Some limits)) datas) ≡ limits.min * PAGE_SIZE =
      all_length datas (new_bytes (Some limits))
      (subst (λ n. EndWithin imported n datas) (sym (new_length (Some limits))) within)
      ∙ new_length (Some limits) in
      let whole : limits.min ≡ limits.min * PAGE_SIZE / PAGE_SIZE = omega arith in
      whole ∙ sym (ap (λ n. n / PAGE_SIZE) long)

module _ (m : Module) (supply : Supply) (store : Store) (parts : HasParts m supply store) where
  pub datas_within : EndWithin supply.globals (minimum_of (memory_limits m supply) * PAGE_SIZE) m.datas
  datas_within =
      All-weaker (λ segment. IsTrue (data_fits supply.globals (new_store m supply) segment))
      (ends_by supply.globals (minimum_of (memory_limits m supply) * PAGE_SIZE))
      (λ segment fits. omega (
        arith,
        new_memory_length (memory_limits m supply),
        leb-true (offset_of supply.globals segment.offset + length segment.bytes)
            (memory_length (option_map new_memory (memory_limits m supply))) fits,
      ))
      m.datas parts.datas_fit

  pub opening_is : (kept : List ℕ)
      → AreSame (with_all supply.globals (new_bytes supply.globals (memory_limits m supply)) m.datas) kept
      → AreSame (bytes_in store) kept
  opening_is kept same at =
      same at
      ∙ ap (λ bytes. slice_index bytes at)
      (opened_bytes supply.globals (memory_limits m supply) m.datas datas_within
      ∙ sym (ap bytes_of_memory parts.memory))

  pub opening_pages : minimum_of (memory_limits m supply) ≡ pages_in store
  opening_pages =
      opened_pages supply.globals (memory_limits m supply) m.datas datas_within
      ∙ sym (ap pages_of_memory parts.memory)

  pub new_within : EndWithin supply.globals (length (new_bytes supply.globals (memory_limits m supply))) m.datas
  new_within =
      subst (λ n. EndWithin supply.globals n m.datas) (sym (new_length supply.globals (memory_limits m supply)))
      datas_within

-- bytes that are all zero are those of a new memory
pub new_same : (imported : List Val) (limits : Option Limits) (kept : List ℕ)
    → ((at : ℕ) → slice_index kept at ≡ 0) → AreSame (new_bytes imported limits) kept
new_same imported limits kept zero at = zero at ∙ sym (go (cases_lt at (minimum_of limits * PAGE_SIZE)))
  where
    go : (at < minimum_of limits * PAGE_SIZE) ⊎ (minimum_of limits * PAGE_SIZE ≤ at)
        → slice_index (new_bytes imported limits) at ≡ 0
    go (inl below) = get_or-replicate (minimum_of limits * PAGE_SIZE) at 0 0 below
    go (inr past) = get_or_past (new_bytes imported limits) at 0 (omega (arith, past, new_length imported limits))

-- if a module links, all its segments end within any size that its memory fits into
pub links_within : (m : Module) (supply : Supply) (size : ℕ) → InstantiatedStoresHaveParts
    → IsOk (instantiate m supply) → minimum_of (memory_limits m supply) * PAGE_SIZE ≤ size
    → EndWithin supply.globals size m.datas
links_within m supply size law links most = go (instantiate m supply) refl links
  where
    go : (linked : Result Store LinkFault) → instantiate m supply ≡ linked → IsOk linked
        → EndWithin supply.globals size m.datas
    go (Ok store) is ok =
        All-weaker (ends_by supply.globals (minimum_of (memory_limits m supply) * PAGE_SIZE))
        (ends_by supply.globals size) (λ segment ends. omega (arith, ends, most)) m.datas
        (datas_within m supply store (law m supply store is))
    go (Err fault) is ok = cc
