-- The code of each effect performs it.
use Rattle.std.proofs.Common.{◌≡◌, ℕ, ◌+◌, ◌-◌, ◌*◌, ◌/◌, ◌<◌, ◌≤◌, ◌^◌, List, [], ◌∷◌, ◌++◌, length, take, drop, Option, Some, None, Bool, true, false, cond, nat_lt, nat_le, slice_get, refl, sym, ap, ◌∙◌, subst, arith, length-append, option_map, option_and_then}
use Rattle.std.specs.Prelude.{map, replicate, IfSome}
use Rattle.std.proofs.lemmas.Bool.Decides.{nat_tests}
use Rattle.std.proofs.lemmas.List.{append-nil, length-replicate}
use Rattle.std.proofs.lemmas.Option.{none-some}
use Rattle.base.proofs.Options.{map_some, cond_some}
use Rattle.wasm_syntax.specs.declared.limits.TheConstants.{PAGE_SIZE}
use Rattle.wasm_syntax.specs.declared.values.Val.{Val}
use Rattle.trace_model.specs.declared.tapes.Effect.{Effect}
use Rattle.trace_model.specs.declared.tapes.Effect.TheVariants.{Grow, Table as GrowTable, Bytes, Entry as SetEntry, Global}
use Rattle.trace_model.specs.Weight.{effect_weight}
use Rattle.history_spec.specs.Store.{Store, Memory, Table, pages, zeros, grown_memory, grown_memory_if, grown_table, grown_table_if, with_entry, with_memory, with_table, with_global}
use Rattle.history_spec.specs.Instantiation.{table_length}
use Rattle.record_replay_spec.specs.TapeRun.{memory_of_size, table_of_size, memory_with, table_with, store_after_effect}
use Rattle.replay_module_spec.specs.Effects.{Width, Eight, Four, Two, One, byte_count, store_widths, effect_code}
use Rattle.record_replay_spec.specs.Known.{pages_of}
use Rattle.record_replay_spec.specs.Observations.{Resizes, ResizesTable, WritesGlobal}
use Rattle.replay_run_spec.specs.Items.{Item, Changes, Steps, change_of, entries_in}
use Rattle.replay_run_spec.specs.Stretches.{AreSameChanges}
use Rattle.replay_run_spec.specs.Steps.{StepCount}
use Rattle.replay_run_spec.proofs.Histories.{changes_silent}
use Rattle.replay_module_spec.proofs.Widths.{counts_of, counts_of_all}
use Rattle.generated_code_laws.specs.Leads.{Watched, IsOutside, Standing}
use Rattle.generated_code_laws.specs.Bytes.{AreBytes}
use Rattle.generated_code_laws.specs.Counts.{changes_in, steps_in}
use Rattle.generated_code_laws.specs.EffectLaws.{IsWritable, GrowsSize}
use Rattle.generated_code_laws.proofs.Does.{Does}
use Rattle.generated_code_laws.proofs.StoredBytes.{memory_with_bytes, stores_items}
use Rattle.generated_code_laws.proofs.WrittenItems.{bytes_placed}
use Rattle.generated_code_laws.proofs.Runs.{stores_run, split}
use Rattle.generated_code_laws.proofs.Effects.{does_global, does_entry}
use Rattle.generated_code_laws.proofs.Growth.{does_growth}
use Rattle.generated_code_laws.proofs.TableGrowth.{does_table_growth}
use Rattle.generated_code_laws.proofs.Items.{changes_there, changes_still}
use Rattle.generated_code_laws.proofs.Same.{same_is, bytes_apart}

-- the code of an effect performs it
pub record IsMade (w : Watched) (s : Standing) (store after : Store) (effect : Effect) : Type 0 where
  pub items : List Item
  pub does : Does w s store after [] [] (effect_code effect) items
  pub silent : entries_in items ≡ []
  pub changes : GrowsSize store effect → AreSameChanges (changes_in items) (effect ∷ [])
  pub steps : (steps_in items).steps ≤ 8 * effect_weight effect
  pub blocks : (steps_in items).blocks ≡ 0

-- ---- sizes

pages_grown : (memory larger : Memory) (by : ℕ) → grown_memory memory by ≡ Some larger → pages larger
    ≡ pages memory + by
pages_grown memory larger by h = go _ h
  where
    go : (b : Bool) → grown_memory_if b memory by ≡ Some larger → pages larger ≡ pages memory + by
    go false h = absurd (cc h)
    go true h =
        let is : record memory { bytes = memory.bytes ++ zeros (by * PAGE_SIZE) } ≡ larger = cc in
        let all = length-append memory.bytes (zeros (by * PAGE_SIZE)) in
        let own : length (zeros (by * PAGE_SIZE)) ≡ by * PAGE_SIZE = length-replicate (by * PAGE_SIZE) 0 in
        let sum : length (memory.bytes ++ zeros (by * PAGE_SIZE)) ≡ length memory.bytes + by * 65536 =
        omega (arith, all, own) in
        let divided : (length memory.bytes + by * 65536) / 65536 ≡ length memory.bytes / 65536 + by = omega arith in
        ap pages (sym is) ∙ ap (λ n. n / PAGE_SIZE) sum ∙ divided

entries_grown : (table larger : Table) (by : ℕ) → grown_table table by None ≡ Some larger
    → length larger.entries ≡ length table.entries + by
entries_grown table larger by h = go _ h
  where
    go : (b : Bool) → grown_table_if b table by None ≡ Some larger
        → length larger.entries ≡ length table.entries + by
    go false h = absurd (cc h)
    go true h =
        let is : record table { entries = table.entries ++ replicate by None } ≡ larger = cc in
        ap (λ (t : Table). length t.entries) (sym is)
        ∙ length-append table.entries (replicate by None)
        ∙ ap (λ n. length table.entries + n) (length-replicate by None)

-- ---- bytes

stores_silent : (widths : List Width) (address : ℕ) (bytes : List ℕ)
    → entries_in (stores_items widths address bytes) ≡ []
stores_silent [] address bytes = refl
stores_silent (width ∷ widths) address bytes =
    stores_silent widths (address + byte_count width) (drop (byte_count width) bytes)

stores_blocks : (widths : List Width) (address : ℕ) (bytes : List ℕ)
    → (steps_in (stores_items widths address bytes)).blocks ≡ 0
stores_blocks [] address bytes = refl
stores_blocks (width ∷ widths) address bytes =
    stores_blocks widths (address + byte_count width) (drop (byte_count width) bytes)

one_byte : (width : Width) → 1 ≤ byte_count width
one_byte Eight = omega arith
one_byte Four = omega arith
one_byte Two = omega arith
one_byte One = omega arith

stores_steps : (widths : List Width) (address : ℕ) (bytes : List ℕ)
    → (steps_in (stores_items widths address bytes)).steps ≤ 8 * counts_of widths
stores_steps [] address bytes = omega arith
stores_steps (width ∷ widths) address bytes =
    let later = stores_steps widths (address + byte_count width) (drop (byte_count width) bytes) in
    let one = one_byte width in
    let all : 1 + (1 + (1 + (steps_in (stores_items widths (address + byte_count width)
    (drop (byte_count width) bytes))).steps)) ≤ 8 * (byte_count width + counts_of widths) = omega (arith, later, one) in
    all

stores_same : (widths : List Width) (address : ℕ) (bytes : List ℕ) → length bytes ≡ counts_of widths
    → AreSameChanges (changes_in (stores_items widths address bytes)) (Bytes address bytes ∷ [])
stores_same [] address [] long =
    record {
      pages = refl;
      entries = refl;
      byte = λ at. nothing at (nat_le address at);
      entry = λ at. refl;
      global = λ at. refl;
    }
  where
    nothing : (at : ℕ) (b : Bool) → ◌≡◌ {A = Option ℕ} None (cond b (slice_get [] (at - address)) None)
    nothing at true = refl
    nothing at false = refl
stores_same [] address (byte ∷ bytes) long = absurd (omega (arith, long))
stores_same (width ∷ widths) address bytes long =
    let count = byte_count width in
    let first = take count bytes in
    let more = drop count bytes in
    let are_split = split width widths bytes long in
    let later = stores_same widths (address + count) more are_split.left in
    subst (λ all. AreSameChanges (changes_in (stores_items (width ∷ widths) address bytes))
    (Bytes address all ∷ [])) are_split.parts
    (bytes_apart address (address + count) first more (changes_in (stores_items widths (address + count) more))
    (ap (λ n. address + n) are_split.size) later)

-- ---- each

-- an effect changes a part of a store: the part before, and the part after
record PartChanged (X : Type 0) (put : X → Store) (change : X → Option X) (o : Option X) (after : Store) : Type 0 where
  part : X
  there : o ≡ Some part
  changed : X
  is : change part ≡ Some changed
  left : put changed ≡ after

part_changed : {X : Type 0} (put : X → Store) (change : X → Option X) (o : Option X) (after : Store)
    → option_map put (option_and_then change o) ≡ Some after → PartChanged X put change o after
part_changed put change None after h = absurd (none-some after h)
part_changed put change (Some part) after h =
    let m = map_some put (change part) after h in
    record { part = part; there = refl; changed = m.0; is = m.1; left = m.2 }

-- changes, and the step after them
record AreGrowth (cs : List Effect) : Type 0 where
  silent : entries_in (map Changes cs ++ Steps false ∷ []) ≡ []
  changes : changes_in (map Changes cs ++ Steps false ∷ []) ≡ cs
  steps : (steps_in (map Changes cs ++ Steps false ∷ [])).steps ≡ 1
  blocks : (steps_in (map Changes cs ++ Steps false ∷ [])).blocks ≡ 0

are_growth : (cs : List Effect) → AreGrowth cs
are_growth cs = record {
  silent = changes_silent cs (Steps false ∷ []);
  changes = changes_there cs (Steps false ∷ []) ∙ append-nil cs;
  steps = ap (λ (c : StepCount). c.steps) (changes_still cs (Steps false ∷ []));
  blocks = ap (λ (c : StepCount). c.blocks) (changes_still cs (Steps false ∷ []));
}

module _ (w : Watched) (s : Standing) (outside : IsOutside w.layout s.frame.func) (store after : Store) where
  abbrev MakesIt : Effect → Type 0
  MakesIt effect = store_after_effect store effect ≡ Some after → IsMade w s store after effect

  grow_made : (size : ℕ) → size < 2 ^ 32 → MakesIt (Grow size)
  grow_made size small h =
      let p = part_changed (with_memory store) (memory_of_size size) store.memory after h in
      let memory = p.part in
      let larger = p.changed in
      let c = cond_some (nat_le (pages memory) size) (grown_memory memory (size - pages memory)) larger p.is in
      let less : pages memory ≤ size = grind (arith, nat_tests, c.0) in
      let grown = pages_grown memory larger (size - pages memory) c.1 in
      let is : pages larger ≡ size = omega (arith, grown, less) in
      let cs = change_of w.globals (Resizes (pages memory) (pages larger)) in
      let own = are_growth cs in
      subst (λ st. IsMade w s store st (Grow size)) p.left
      (record {
        items = Steps false ∷ Steps false ∷ Steps false ∷ Steps false ∷ (map Changes cs ++ Steps false ∷ []);
        does = does_growth w s outside store memory p.there size less small larger c.1;
        silent = own.silent;
        changes = λ greater.
            same_is (changes_in (map Changes cs ++ Steps false ∷ [])) (Grow size ∷ [])
            (own.changes ∙ changed memory larger p.there is greater);
        steps = (let one = own.steps in omega (arith, one));
        blocks = own.blocks;
      })
    where
      changed : (memory larger : Memory) → store.memory ≡ Some memory → pages larger ≡ size
          → pages_of store.memory < size
          → change_of w.globals (Resizes (pages memory) (pages larger)) ≡ Grow size ∷ []
      changed memory larger e is greater =
          let here : pages_of store.memory ≡ pages memory = ap pages_of e in
          let more : nat_lt (pages memory) (pages larger) ≡ true = grind (arith, nat_tests, is, here, greater) in
          ap (λ b. cond b (Grow (pages larger) ∷ []) []) more ∙ ap (λ n. Grow n ∷ []) is

  grow_table_made : (size : ℕ) → size < 2 ^ 32 → MakesIt (GrowTable size)
  grow_table_made size small h =
      let p = part_changed (with_table store) (table_of_size size) store.table after h in
      let table = p.part in
      let larger = p.changed in
      let c =
      cond_some (nat_le (length table.entries) size) (grown_table table (size - length table.entries) None) larger p.is
      in
      let less : length table.entries ≤ size = grind (arith, nat_tests, c.0) in
      let grown = entries_grown table larger (size - length table.entries) c.1 in
      let is : length larger.entries ≡ size = omega (arith, grown, less) in
      let cs = change_of w.globals (ResizesTable (length table.entries) (length larger.entries) None) in
      let own = are_growth cs in
      subst (λ st. IsMade w s store st (GrowTable size)) p.left
      (record {
        items =
            Steps false
            ∷ Steps false ∷ Steps false ∷ Steps false ∷ Steps false ∷ (map Changes cs ++ Steps false ∷ []);
        does = does_table_growth w s outside store table p.there size less small larger c.1;
        silent = own.silent;
        changes = λ greater.
            same_is (changes_in (map Changes cs ++ Steps false ∷ [])) (GrowTable size ∷ [])
            (own.changes ∙ changed table larger p.there is greater);
        steps = (let one = own.steps in omega (arith, one));
        blocks = own.blocks;
      })
    where
      changed : (table larger : Table) → store.table ≡ Some table → length larger.entries ≡ size
          → table_length store.table < size
          → change_of w.globals (ResizesTable (length table.entries) (length larger.entries) None)
          ≡ GrowTable size ∷ []
      changed table larger e is greater =
          let here : table_length store.table ≡ length table.entries = ap table_length e in
          let more : nat_lt (length table.entries) (length larger.entries) ≡ true =
          grind (arith, nat_tests, is, here, greater) in
          ap (λ b. cond b (GrowTable (length larger.entries) ∷ []) []) more ∙ ap (λ n. GrowTable n ∷ []) is

  bytes_made : (address : ℕ) (bytes : List ℕ) → AreBytes bytes → MakesIt (Bytes address bytes)
  bytes_made address bytes are h =
      let p = part_changed (with_memory store) (memory_with address bytes) store.memory after h in
      let placed = bytes_placed p.part p.changed address bytes p.is in
      let long : length bytes ≡ counts_of (store_widths (length bytes)) = sym (counts_of_all (length bytes)) in
      let left : with_memory store (memory_with_bytes p.part address bytes) ≡ after =
      ap (with_memory store) placed.1 ∙ p.left in
      let widths = store_widths (length bytes) in
      subst (λ st. IsMade w s store st (Bytes address bytes)) left
      (record {
        items = stores_items widths address bytes;
        does = stores_run w s outside store p.part widths address bytes p.there long are placed.0;
        silent = stores_silent widths address bytes;
        changes = λ any. stores_same widths address bytes long;
        steps = (let most = stores_steps widths address bytes in omega (arith, most, long));
        blocks = stores_blocks widths address bytes;
      })

  entry_made : (index : ℕ) (func : Option ℕ) → MakesIt (SetEntry index func)
  entry_made index func h =
      let p = part_changed (with_table store) (table_with index func) store.table after h in
      let table = p.part in
      let n =
      map_some (λ (all : List (Option ℕ)). record table { entries = all }) (with_entry table.entries index func)
      p.changed p.is in
      let left : with_table store (record table { entries = n.0 }) ≡ after =
      ap (with_table store) n.2 ∙ p.left in
      subst (λ st. IsMade w s store st (SetEntry index func)) left
      (record {
        items = Steps false ∷ Steps false ∷ Steps false ∷ Changes (SetEntry index func) ∷ [];
        does = does_entry w s outside store table p.there index n.0 func n.1;
        silent = refl;
        changes = λ any. same_is (SetEntry index func ∷ []) (SetEntry index func ∷ []) refl;
        steps = omega arith;
        blocks = refl;
      })

  global_made : (global : ℕ) (value : Val) → IsWritable w.globals store (Global global value)
      → MakesIt (Global global value)
  global_made global value can h = go (slice_get store.globals global) refl can.1 h
    where
      go : (o : Option Val) → slice_get store.globals global ≡ o → IfSome o (λ (old : Val). old.ty ≡ value.ty)
          → option_map (λ old. with_global store global value) o ≡ Some after
          → IsMade w s store after (Global global value)
      go None e ty h = absurd (none-some after h)
      go (Some old) e ty h =
          let left : with_global store global value ≡ after = cc in
          let own : nat_lt global w.globals ≡ true = (let below = can.0 in grind (arith, nat_tests, below)) in
          let cs = change_of w.globals (WritesGlobal global value) in
          subst (λ st. IsMade w s store st (Global global value)) left
          (record {
            items = Steps false ∷ Steps false ∷ map Changes cs;
            does = does_global w s outside store global value old e ty;
            silent = ap entries_in (sym (append-nil (map Changes cs))) ∙ changes_silent cs [];
            changes = λ any.
                same_is (changes_in (map Changes cs)) (Global global value ∷ [])
                (ap changes_in (sym (append-nil (map Changes cs))) ∙ changes_there cs [] ∙ append-nil cs
                ∙ ap (λ b. cond b (Global global value ∷ []) []) own);
            steps =
                let still : (steps_in (map Changes cs)).steps ≡ 0 =
                ap (λ l. (steps_in l).steps) (sym (append-nil (map Changes cs)))
                ∙ ap (λ (c : StepCount). c.steps) (changes_still cs []) in
                omega (arith, still);
            blocks =
                ap (λ l. (steps_in l).blocks) (sym (append-nil (map Changes cs)))
                ∙ ap (λ (c : StepCount). c.blocks) (changes_still cs []);
          })

pub effect_made : (w : Watched) (s : Standing) → IsOutside w.layout s.frame.func
    → (store after : Store) (effect : Effect)
    → IsWritable w.globals store effect → store_after_effect store effect ≡ Some after → IsMade w s store after effect
effect_made w s outside store after (Grow size) can h = grow_made w s outside store after size can h
effect_made w s outside store after (GrowTable size) can h = grow_table_made w s outside store after size can h
effect_made w s outside store after (Bytes address bytes) can h = bytes_made w s outside store after address bytes can h
effect_made w s outside store after (SetEntry index func) can h = entry_made w s outside store after index func h
effect_made w s outside store after (Global global value) can h = global_made w s outside store after global value can h
