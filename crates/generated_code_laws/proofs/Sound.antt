-- Properties of each store of a tape's run: whole pages, and globals of their types; so code can perform the effects
-- of a tape that fits.
use Rattle.std.proofs.Common.{◌≡◌, ℕ, zero, suc, ◌+◌, ◌-◌, ◌*◌, ◌/◌, ◌<◌, ◌≤◌, List, [], ◌∷◌, ◌++◌, length, Option, Some, None, Bool, true, false, nat_le, slice_get, slice_set, refl, sym, ap, ◌∙◌, subst, arith, length-append, option_map, option_and_then}
use Rattle.std.specs.Prelude.{IfSome}
use Rattle.std.specs.List.{All, list_all}
use Rattle.std.proofs.lemmas.Bool.Decides.{nat_tests}
use Rattle.std.proofs.lemmas.List.{length-replicate}
use Rattle.std.proofs.lemmas.List.Elements.{All-head, All-tail}
use Rattle.std.proofs.lemmas.Option.{none-some, slice_get_within, slice_get-map}
use Rattle.base.proofs.Booleans.{and_parts}
use Rattle.base.proofs.Lists.{get_front}
use Rattle.base.proofs.Options.{map_some, and_then_some, cond_some}
use Rattle.wasm_syntax.specs.declared.limits.TheConstants.{MAX_ENTRIES, MAX_PAGES, PAGE_SIZE}
use Rattle.wasm_syntax.specs.declared.values.Val.{Val}
use Rattle.wasm_syntax.specs.declared.values.ValType.{ValType}
use Rattle.wasm_syntax.specs.declared.signatures.Limits.{Limits}
use Rattle.wasm_syntax.specs.declared.signatures.GlobalType.{GlobalType}
use Rattle.wasm_syntax.specs.declared.modules.Module.{Module}
use Rattle.wasm_syntax.specs.Alike.{same_type}
use Rattle.wasm_syntax.specs.Index.{all_globals, all_memories, all_tables}
use Rattle.wasm_syntax.proofs.ValTypes.{type_same}
use Rattle.trace_model.specs.declared.tapes.Effect.{Effect}
use Rattle.trace_model.specs.declared.tapes.Effect.TheVariants.{Grow, Table as GrowTable, Bytes, Entry as SetEntry, Global}
use Rattle.trace_model.specs.Fitting.{effect_fits, grows_within, is_within as is_within_limit, takes_value}
use Rattle.history_spec.specs.Store.{Store, Memory, pages, zeros, grown_memory, grown_memory_if, with_memory, with_table, with_global}
use Rattle.history_spec.specs.Code.{types_of}
use Rattle.record_replay_spec.specs.Observations.{Observation, Writes, Resizes, WritesGlobal}
use Rattle.record_replay_spec.specs.TapeRun.{memory_of_size, table_of_size, memory_with, table_with, store_after_effect, store_after_effects}
use Rattle.record_replay_spec.specs.StoreAnswers.{HasWholePages}
use Rattle.record_replay_spec.specs.Changes.{CanChange, CanChangeAll, with_bytes, with_change, with_changes, with_pages}
use Rattle.type_safety.specs.Stores.{global_types}
use Rattle.record_replay_spec.specs.Known.{pages_of}
use Rattle.generated_code_laws.specs.EffectLaws.{AllGrowSizes, AreWritable, GrowsSize, IsWritable}
use Rattle.generated_code_laws.proofs.WrittenItems.{written_length, bytes_placed}
use Rattle.generated_code_laws.specs.Playable.{WritesBytes}
use Rattle.replay_module_laws.specs.Stores.{memory_cut, with_own}
use Rattle.generated_code_laws.proofs.EffectStores.{effect_beside}

pub record IsSound (m : Module) (store : Store) : Type 0 where
  pub whole : HasWholePages store
  pub types : types_of store.globals ≡ global_types m

-- ---- memories

abbrev IsWhole : Memory → Type 0
IsWhole memory = length memory.bytes ≡ pages memory * PAGE_SIZE

longer_whole : (memory : Memory) (by : ℕ) → IsWhole memory → IsWhole (with_pages by memory)
longer_whole memory by whole =
    let all = length-append memory.bytes (zeros (by * PAGE_SIZE)) in
    let own : length (zeros (by * PAGE_SIZE)) ≡ by * PAGE_SIZE = length-replicate (by * PAGE_SIZE) 0 in
    let sum : length (memory.bytes ++ zeros (by * PAGE_SIZE))
    ≡ length memory.bytes + by * 65536 = omega (arith, all, own) in
    let is : length memory.bytes ≡ length memory.bytes / 65536 * 65536 = whole in
    omega (arith, sum, is)

written_whole : (memory : Memory) (address : ℕ) (bytes : List ℕ) → address + length bytes ≤ length memory.bytes
    → IsWhole memory → IsWhole (with_bytes address bytes memory)
written_whole memory address bytes within whole =
    let same = written_length memory.bytes bytes address within in
    same ∙ whole ∙ ap (λ n. n / PAGE_SIZE * PAGE_SIZE) (sym same)

if_some : {X : Type 0} (P Q : X → Type 0) (f : X → X) → ((x : X) → Q x → P x → P (f x)) → (o : Option X)
    → IfSome o Q → IfSome o P → IfSome (option_map f o) P
if_some P Q f k None q h = h
if_some P Q f k (Some x) q h = k x q h

-- ---- globals

get_typed : (globals : List Val) (types : List ValType) → types_of globals ≡ types
    → (global : ℕ) (old : Val) (ty : ValType)
    → slice_get globals global ≡ Some old → slice_get types global ≡ Some ty → old.ty ≡ ty
get_typed globals types e global old ty there is =
    let same : Some old.ty ≡ Some ty =
    sym (slice_get-map (λ (v : Val). v.ty) globals global ∙ ap (option_map (λ (v : Val). v.ty)) there)
    ∙ ap (λ l. slice_get l global) e ∙ is in
    cc

set_typed : (globals : List Val) (global : ℕ) (value : Val)
    → option_map (λ (v : Val). v.ty) (slice_get globals global) ≡ Some value.ty
    → types_of (slice_set globals global value) ≡ types_of globals
set_typed [] global value h = refl
set_typed (old ∷ globals) zero value h =
    let same : value.ty ≡ old.ty = cc in ap (λ ty. ty ∷ types_of globals) same
set_typed (old ∷ globals) (suc global) value h = ap (λ l. old.ty ∷ l) (set_typed globals global value h)

module _ (m : Module) where
  -- ---- observed changes

  change_sound : (store : Store) (o : Observation) → CanChange store o → IsSound m store
      → IsSound m (with_change store o)
  change_sound store (Writes address bytes) can s =
      record {
        whole =
            if_some IsWhole (λ memory. address + length bytes ≤ length memory.bytes) (with_bytes address bytes)
            (λ memory within whole. written_whole memory address bytes within whole) store.memory can s.whole;
        types = s.types;
      }
  change_sound store (Resizes found left) can s =
      record {
        whole =
            if_some IsWhole (λ memory. Unit {0}) (with_pages (left - found))
            (λ memory any whole. longer_whole memory (left - found) whole) store.memory (anything store.memory) s.whole;
        types = s.types;
      }
    where
      anything : (o : Option Memory) → IfSome o (λ memory. Unit {0})
      anything None = tt
      anything (Some memory) = tt
  change_sound store (WritesGlobal global value) can s =
      record { whole = s.whole; types = set_typed store.globals global value can ∙ s.types }
  change_sound store o can s = record { whole = s.whole; types = s.types }

  pub changes_sound : (store : Store) (seen : List Observation) → CanChangeAll store seen → IsSound m store
      → IsSound m (with_changes store seen)
  changes_sound store [] can s = s
  changes_sound store (o ∷ seen) can s =
      changes_sound (with_change store o) seen can.1 (change_sound store o can.0 s)

  -- ---- effects

  limited : (limit size : ℕ) (max : Option ℕ) → is_within_limit limit size max ≡ true → size ≤ limit
  limited limit size None h = grind (arith, nat_tests, h)
  limited limit size (Some most) h =
      let a = and_parts (nat_le size limit) (nat_le size most) h in
      let b = a.0 in
      grind (arith, nat_tests, b)

  grows_small : (limit size : ℕ) (limits : Option Limits) → grows_within limit size limits ≡ true → size ≤ limit
  grows_small limit size None h = absurd (cc h)
  grows_small limit size (Some limits) h = limited limit size limits.max h

  declared_type : (ty : ValType) (o : Option GlobalType) → takes_value ty o ≡ true
      → (g : GlobalType) × (o ≡ Some g) × (ty ≡ g.ty)
  declared_type ty None h = absurd (cc h)
  declared_type ty (Some g) h =
      (g, refl, type_same ty g.ty (and_parts g.mutable (same_type ty g.ty) h).1)

  -- the global to which an effect gives a value exists, and has a value of the same type
  global_typed : (store : Store) → IsSound m store → (global : ℕ) (value old : Val)
      → takes_value value.ty (slice_get (all_globals m) global) ≡ true → slice_get store.globals global ≡ Some old
      → old.ty ≡ value.ty
  global_typed store s global value old h there =
      let d = declared_type value.ty (slice_get (all_globals m) global) h in
      get_typed store.globals (global_types m) s.types global old d.0.ty there
      (slice_get-map (λ (g : GlobalType). g.ty) (all_globals m) global ∙ ap (option_map (λ (g : GlobalType). g.ty)) d.1)
      ∙ sym d.2

  effect_sound : (store next : Store) (effect : Effect) → effect_fits m effect ≡ true → IsSound m store
      → store_after_effect store effect ≡ Some next → IsSound m next
  effect_sound store next (Grow size) fits s h = go store.memory s.whole h
    where
      go : (o : Option Memory) → IfSome o IsWhole
          → option_map (with_memory store) (option_and_then (memory_of_size size) o) ≡ Some next → IsSound m next
      go None whole h = absurd (none-some next h)
      go (Some memory) whole h =
          let a = map_some (with_memory store) (memory_of_size size memory) next h in
          let b = cond_some (nat_le (pages memory) size) (grown_memory memory (size - pages memory)) a.0 a.1 in
          subst (IsSound m) a.2 (record { whole = grown a.0 _ b.1; types = s.types })
        where
          grown : (larger : Memory) (b : Bool) → grown_memory_if b memory (size - pages memory) ≡ Some larger
              → IsWhole larger
          grown larger false h = absurd (cc h)
          grown larger true h =
              let same : with_pages (size - pages memory) memory ≡ larger = cc in
              subst IsWhole same (longer_whole memory (size - pages memory) whole)
  effect_sound store next (Bytes address bytes) fits s h = go store.memory s.whole h
    where
      go : (o : Option Memory) → IfSome o IsWhole
          → option_map (with_memory store) (option_and_then (memory_with address bytes) o) ≡ Some next → IsSound m next
      go None whole h = absurd (none-some next h)
      go (Some memory) whole h =
          let a = map_some (with_memory store) (memory_with address bytes memory) next h in
          let placed = bytes_placed memory a.0 address bytes a.1 in
          subst (IsSound m) a.2
          (record {
            whole =
                subst IsWhole placed.1 (written_whole memory address bytes placed.0 whole);
            types = s.types;
          })
  effect_sound store next (GrowTable size) fits s h =
      let a = map_some (with_table store) (option_and_then (table_of_size size) store.table) next h in
      subst (IsSound m) a.2 (record { whole = s.whole; types = s.types })
  effect_sound store next (SetEntry index func) fits s h =
      let a = map_some (with_table store) (option_and_then (table_with index func) store.table) next h in
      subst (IsSound m) a.2 (record { whole = s.whole; types = s.types })
  effect_sound store next (Global global value) fits s h =
      let a = map_some (λ (old : Val). with_global store global value) (slice_get store.globals global) next h in
      subst (IsSound m) a.2
      (record {
        whole = s.whole;
        types =
            set_typed store.globals global value
            (ap (option_map (λ (v : Val). v.ty)) a.1
            ∙ ap (λ ty. Some ty) (global_typed store s global value a.0 fits a.1))
            ∙ s.types;
      })

  -- ---- effects that code can perform

  effect_writable : (own : List Val) (store next : Store) (effect : Effect) → effect_fits m effect ≡ true
      → WritesBytes effect → IsSound m store → store_after_effect store effect ≡ Some next
      → IsWritable (length (all_globals m)) (with_own own store) effect
  effect_writable own store next (Grow size) fits bytes s h =
      let most : size ≤ 4096 = grows_small MAX_PAGES size (slice_get (all_memories m) 0) fits in
      omega (arith, most)
  effect_writable own store next (GrowTable size) fits bytes s h =
      let most : size ≤ 1000000 = grows_small MAX_ENTRIES size (slice_get (all_tables m) 0) fits in
      omega (arith, most)
  effect_writable own store next (Bytes address written) fits bytes s h = bytes
  effect_writable own store next (SetEntry index func) fits bytes s h = tt
  effect_writable own store next (Global global value) fits bytes s h =
      let a = map_some (λ (old : Val). with_global store global value) (slice_get store.globals global) next h in
      let d = declared_type value.ty (slice_get (all_globals m) global) fits in
      let there : slice_get (store.globals ++ own) global ≡ Some a.0 =
      get_front store.globals own global (slice_get_within store.globals global a.0 a.1) ∙ a.1 in (
        slice_get_within (all_globals m) global d.0 d.1,
        subst (λ o. IfSome o (λ (old : Val). old.ty ≡ value.ty)) (sym there)
            (global_typed store s global value a.0 fits a.1),
      )

  pub effects_writable : (own : List Val) (store after : Store) (effects : List Effect)
      → list_all (effect_fits m) effects ≡ true → All WritesBytes effects → IsSound m store
      → store_after_effects effects store ≡ Some after
      → AreWritable (length (all_globals m)) (with_own own store) effects × IsSound m after
  effects_writable own store after [] fits bytes s h =
      let same : store ≡ after = cc in (tt, subst (IsSound m) same s)
  effects_writable own store after (effect ∷ effects) fits bytes s h =
      let f = and_parts (effect_fits m effect) (list_all (effect_fits m) effects) fits in
      let b = and_then_some (store_after_effect store effect) (store_after_effects effects) after h in
      let later =
      effects_writable own b.0 after effects f.1 (All-tail WritesBytes effect effects bytes)
      (effect_sound store b.0 effect f.0 s b.1) b.2 in
      let beside = effect_beside own store b.0 effect b.1 in (
        (
          effect_writable own store b.0 effect f.0 (All-head WritesBytes effect effects bytes) s b.1,
          λ next e.
              let same : with_own own b.0 ≡ next = cc in
              subst (λ st. AreWritable (length (all_globals m)) st effects) same later.0,
        ),
        later.1,
      )

-- ---- effects that change each size that they give

pages_beside : (o : Option Memory) → pages_of (option_map memory_cut o) ≡ pages_of o
pages_beside None = refl
pages_beside (Some memory) = refl

grows_size_beside : (own : List Val) (store : Store) (effect : Effect) → GrowsSize store effect
    → GrowsSize (with_own own store) effect
grows_size_beside own store (Grow size) g = subst (λ n. n < size) (sym (pages_beside store.memory)) g
grows_size_beside own store (GrowTable size) g = g
grows_size_beside own store (Bytes address bytes) g = g
grows_size_beside own store (SetEntry index func) g = g
grows_size_beside own store (Global global value) g = g

pub grow_beside : (own : List Val) (store after : Store) (effects : List Effect)
    → store_after_effects effects store ≡ Some after → AllGrowSizes store effects
    → AllGrowSizes (with_own own store) effects
grow_beside own store after [] h g = tt
grow_beside own store after (effect ∷ effects) h g =
    let b = and_then_some (store_after_effect store effect) (store_after_effects effects) after h in
    let beside = effect_beside own store b.0 effect b.1 in
    let later = grow_beside own b.0 after effects b.2 (g.1 b.0 b.1) in (
      grows_size_beside own store effect g.0,
      λ next e.
          let same : with_own own b.0 ≡ next = cc in subst (λ st. AllGrowSizes st effects) same later,
    )
