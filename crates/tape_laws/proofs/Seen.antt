-- What an instruction observes of the run's store exists, is possible, and is within the sizes that are known then.
use Rattle.std.proofs.Common.{◌≡◌, ℕ, ◌+◌, ◌-◌, ◌*◌, ◌/◌, ◌%◌, ◌<◌, ◌≤◌, List, [], ◌∷◌, length, take, drop, Option, Some, None, Bool, true, false, cond, ◌&&◌, nat_le, nat_lt, nat_eq, slice_get, refl, sym, ap, ◌∙◌, subst, arith, length-take-le, length-append}
use Rattle.std.specs.Prelude.{IfSome, unwrap_or, replicate}
use Rattle.std.specs.Option.{option_or}
use Rattle.std.proofs.Math.Nat.{add-mul-div_right}
use Rattle.std.proofs.lemmas.Bool.Decides.{nat_tests}
use Rattle.std.proofs.lemmas.List.{length-drop, length-replicate}
use Rattle.std.proofs.lemmas.Option.{none-some, slice_get_within}
use Rattle.base.proofs.Booleans.{and_right}
use Rattle.base.proofs.Options.{cond_some}
use Rattle.wasm_syntax.specs.declared.limits.TheConstants.{PAGE_SIZE}
use Rattle.wasm_syntax.specs.declared.values.Val.{Val}
use Rattle.wasm_syntax.specs.declared.instructions.Instr.{Instr}
use Rattle.wasm_syntax.specs.declared.instructions.Instr.TheVariants.{CallIndirect, GlobalGet, GlobalSet, Load, Store as StoreTo, MemorySize, MemoryGrow, MemoryCopy, MemoryFill, TableSet, TableGrow, TableSize}
use Rattle.wasm_syntax.specs.Nest.{Nest, Plain}
use Rattle.wasm_syntax.specs.Opcodes.{load_of, store_of}
use Rattle.history_spec.specs.Store.{Store, Memory, Table, pages, zeros, bytes_at, with_items_at, with_bytes_at, with_entry, grown_memory_if, grown_table_if}
use Rattle.history_spec.specs.Instantiation.{table_length}
use Rattle.history_spec.specs.Instruction.{referent}
use Rattle.history_spec.proofs.ByteNumbers.{length-bytes_of}
use Rattle.record_replay_spec.specs.Known.{Known, byte_among, pages_of, carried_byte, carried_entry, known_after}
use Rattle.record_replay_spec.specs.Observations.{Observation, Reads, Copies, Writes, Reaches, Resizes, ReadsEntry, WritesEntry, ReachesEntry, ResizesTable, ReadsGlobal, WritesGlobal, on, bits_from_top, size_observations, grow_observations, table_size_observations, table_grow_observations, load_observations, store_observations, copy_observations, entry_observations, set_observations, plain_observations, nest_observations}
use Rattle.record_replay_spec.specs.StoreAnswers.{HasWholePages, Answers, AnswersAll}
use Rattle.record_replay_spec.specs.Changes.{CanChange, CanChangeAll, with_pages}
use Rattle.tape_laws.proofs.Stores.{IsHere}
use Rattle.tape_laws.proofs.Relation.{IsFound, IsSeen, AreSeen}

-- ---- bytes and sizes

-- an access within the size is within the size that is known after it
reached : (end known real : ℕ) → end ≤ real * PAGE_SIZE
    → end ≤ cond (nat_le end (known * PAGE_SIZE)) known real * PAGE_SIZE
reached end known real fits = go (nat_le end (known * PAGE_SIZE)) refl
  where
    go : (b : Bool) → nat_le end (known * PAGE_SIZE) ≡ b → end ≤ cond b known real * PAGE_SIZE
    go true p = let low : end ≤ known * 65536 = grind (arith, nat_tests, p) in low
    go false p = fits

reached_still : (end other known real : ℕ) → end ≤ known * PAGE_SIZE → end ≤ real * PAGE_SIZE
    → end ≤ cond (nat_le other (known * PAGE_SIZE)) known real * PAGE_SIZE
reached_still end other known real low fits = go (nat_le other (known * PAGE_SIZE))
  where
    go : (b : Bool) → end ≤ cond b known real * PAGE_SIZE
    go true = low
    go false = fits

reached_entry : (index known real : ℕ) → index < real → index < cond (nat_lt index known) known real
reached_entry index known real fits = go (nat_lt index known) refl
  where
    go : (b : Bool) → nat_lt index known ≡ b → index < cond b known real
    go true p = grind (arith, nat_tests, p)
    go false p = fits

-- a byte of a range is before its end
among_within : (address : ℕ) (bytes : List ℕ) (end at x : ℕ) → address + length bytes ≤ end
    → byte_among address bytes at ≡ Some x → at < end
among_within address bytes end at x fits h =
    let p = cond_some (nat_le address at) (slice_get bytes (at - address)) x h in
    let t = p.0 in
    let from : address ≤ at = grind (arith, nat_tests, t) in
    let below = slice_get_within bytes (at - address) x p.1 in
    omega (arith, from, below, fits)

or_none : {X : Type 0} (o : Option X) (x : X) → option_or o None ≡ Some x → o ≡ Some x
or_none None x h = h
or_none (Some y) x h = h

entry_is : (index : ℕ) (func : Option ℕ) (at : ℕ) (x : Option ℕ) → cond (nat_eq index at) (Some func) None ≡ Some x
    → index ≡ at
entry_is index func at x h =
    let t = (cond_some (nat_eq index at) (Some func) x h).0 in grind (arith, nat_tests, t)

module _ (bytes : List ℕ) (address count : ℕ) where
  pub bytes_there : (found : List ℕ) → bytes_at bytes address count ≡ Some found
      → (address + count ≤ length bytes) × (length found ≡ count)
  bytes_there found h =
      let p = cond_some (nat_le (address + count) (length bytes)) (Some (take count (drop address bytes))) found h in
      let t = p.0 in
      let fits : address + count ≤ length bytes = grind (arith, nat_tests, t) in
      let left = length-drop address bytes in
      let long = length-take-le count (drop address bytes) (omega (arith, fits, left)) in (
        fits,
        subst (λ o. length (unwrap_or o found) ≡ count) p.1 long,
      )

written_fits : (bytes : List ℕ) (address : ℕ) (news all : List ℕ) → with_bytes_at bytes address news ≡ Some all
    → address + length news ≤ length bytes
written_fits bytes address news all h =
    let whole = Some (with_items_at bytes address news) in
    let t = (cond_some (nat_le (address + length news) (length bytes)) whole all h).0
    in
    grind (arith, nat_tests, t)

grown_more : (b : Bool) (memory : Memory) (by : ℕ)
    → pages memory ≤ pages (unwrap_or (grown_memory_if b memory by) memory)
grown_more false memory by = omega arith
grown_more true memory by =
    let long : length (with_pages by memory).bytes ≡ length memory.bytes + by * PAGE_SIZE =
    length-append memory.bytes (zeros (by * PAGE_SIZE))
    ∙ ap (λ n. length memory.bytes + n) (length-replicate (by * PAGE_SIZE) 0) in
    let more : pages (with_pages by memory) ≡ pages memory + by =
    ap (λ n. n / PAGE_SIZE) long ∙ add-mul-div_right (length memory.bytes) by (omega arith) in
    let same : pages (unwrap_or (grown_memory_if true memory by) memory) ≡ pages memory + by = more in
    omega (arith, same)

table_more : (b : Bool) (table : Table) (by : ℕ) (func : Option ℕ)
    → length table.entries ≤ length (unwrap_or (grown_table_if b table by func) table).entries
table_more false table by func = omega arith
table_more true table by func =
    let long = length-append table.entries (replicate by func) in omega (arith, long)

-- ---- observations of a store

module _ (store : Store) where
  on_seen : {X : Type 0} (known : Known) (o : Option X) (observe : X → List Observation)
      → ((x : X) → o ≡ Some x → AnswersAll store (observe x) → AreSeen known store (observe x))
      → AnswersAll store (on o observe) → AreSeen known store (on o observe)
  on_seen known None observe k answers = tt
  on_seen known (Some x) observe k answers = k x refl answers

  -- an observation that carries bytes and entries within what is known
  carries : (known : Known) (o : Observation) → IsHere store o → IsFound store o → Answers store o → CanChange store o
      → ((at x : ℕ) → carried_byte at o ≡ Some x → at < (known_after known o).pages * PAGE_SIZE)
      → ((at : ℕ) (x : Option ℕ) → carried_entry at o ≡ Some x → at < (known_after known o).entries)
      → IsSeen known store o
  carries known o here found answers possible bytes entries =
      record {
        here = here;
        found = found;
        answers = answers;
        possible = possible;
        bytes = bytes;
        entries = entries;
      }

  -- an observation that carries no byte and no entry
  carries_none : (known : Known) (o : Observation) → IsHere store o → IsFound store o → Answers store o
      → CanChange store o → ((at : ℕ) → carried_byte at o ≡ None) → ((at : ℕ) → carried_entry at o ≡ None)
      → IsSeen known store o
  carries_none known o here found answers possible no_byte no_entry =
      carries known o here found answers possible (λ at x h. absurd (none-some x (sym (no_byte at) ∙ h)))
      (λ at x h. absurd (none-some x (sym (no_entry at) ∙ h)))

  -- an observation that carries bytes, within the known pages
  carries_bytes : (known : Known) (o : Observation) (address : ℕ) (bytes : List ℕ) → IsHere store o → IsFound store o
      → Answers store o → CanChange store o
      → ((at x : ℕ) → carried_byte at o ≡ Some x → byte_among address bytes at ≡ Some x)
      → ((at : ℕ) → carried_entry at o ≡ None) → address + length bytes ≤ (known_after known o).pages * PAGE_SIZE
      → IsSeen known store o
  carries_bytes known o address bytes here found answers possible those no_entry fits =
      carries known o here found answers possible
      (λ at x h. among_within address bytes ((known_after known o).pages * PAGE_SIZE) at x fits (those at x h))
      (λ at x h. absurd (none-some x (sym (no_entry at) ∙ h)))

  -- an observation that carries an entry, below the known number of entries
  carries_entry : (known : Known) (o : Observation) (index : ℕ) (func : Option ℕ) → IsHere store o → IsFound store o
      → Answers store o → CanChange store o → ((at : ℕ) → carried_byte at o ≡ None)
      → ((at : ℕ) (x : Option ℕ) → carried_entry at o ≡ Some x → cond (nat_eq index at) (Some func) None ≡ Some x)
      → index < (known_after known o).entries → IsSeen known store o
  carries_entry known o index func here found answers possible no_byte that below =
      carries known o here found answers possible (λ at x h. absurd (none-some x (sym (no_byte at) ∙ h)))
      (λ at x h. subst (λ n. n < (known_after known o).entries) (entry_is index func at x (that at x h)) below)

  module _ (memory : Memory) (is : store.memory ≡ Some memory) where
    seen_reach : (known : Known) (end : ℕ) → Answers store (Reaches end (pages memory))
        → IsSeen known store (Reaches end (pages memory))
    seen_reach known end answers =
        carries_none known (Reaches end (pages memory)) (memory, is) (ap pages_of is) answers tt (λ at. refl)
        (λ at. refl)

    seen_read : (known : Known) (address : ℕ) (bytes : List ℕ) → Answers store (Reads address bytes)
        → address + length bytes ≤ known.pages * PAGE_SIZE → IsSeen known store (Reads address bytes)
    seen_read known address bytes answers fits =
        carries_bytes known (Reads address bytes) address bytes (memory, is) tt answers tt
        (λ at x h. or_none (byte_among address bytes at) x h) (λ at. refl) fits

    seen_copy : (known : Known) (address : ℕ) (bytes : List ℕ) → Answers store (Copies address bytes)
        → address + length bytes ≤ known.pages * PAGE_SIZE → IsSeen known store (Copies address bytes)
    seen_copy known address bytes answers fits =
        carries_bytes known (Copies address bytes) address bytes (memory, is) tt answers tt
        (λ at x h. or_none (byte_among address bytes at) x h) (λ at. refl) fits

    seen_write : (known : Known) (address : ℕ) (bytes : List ℕ) → address + length bytes ≤ length memory.bytes
        → address + length bytes ≤ known.pages * PAGE_SIZE → IsSeen known store (Writes address bytes)
    seen_write known address bytes within fits =
        carries_bytes known (Writes address bytes) address bytes (memory, is) tt tt
        (subst (λ o. IfSome o (λ (m : Memory). address + length bytes ≤ length m.bytes)) (sym is) within)
        (λ at x h. h) (λ at. refl) fits

    seen_resize : (known : Known) (found left : ℕ) → Answers store (Resizes found left) → found ≤ left
        → IsSeen known store (Resizes found left)
    seen_resize known found left answers more =
        carries_none known (Resizes found left) (memory, is) tt answers more (λ at. refl) (λ at. refl)

    module _ (whole : length memory.bytes ≡ pages memory * PAGE_SIZE) where
      seen_load : (known : Known) (address width : ℕ) → AnswersAll store (load_observations address width memory)
          → AreSeen known store (load_observations address width memory)
      seen_load known address width answers = (
        seen_reach known (address + width) answers.0,
        on_seen (known_after known (Reaches (address + width) (pages memory)))
            (bytes_at memory.bytes address width) (λ bytes. Reads address bytes ∷ []) (λ bytes e a.
            let p = bytes_there memory.bytes address width bytes e in
            let fits : address + width ≤ pages memory * PAGE_SIZE = subst (λ n. address + width ≤ n) whole p.0 in
            let low = reached (address + width) known.pages (pages memory) fits in (
              seen_read (known_after known (Reaches (address + width) (pages memory))) address bytes a.0
                  (subst
                  (λ n. address + n
                  ≤ cond (nat_le (address + width) (known.pages * PAGE_SIZE)) known.pages (pages memory) * PAGE_SIZE)
                  (sym p.1) low),
              tt,
            )) answers.1,
      )

      seen_store : (known : Known) (address count : ℕ) (bytes : List ℕ) → length bytes ≡ count
          → AnswersAll store (store_observations address count bytes memory)
          → AreSeen known store (store_observations address count bytes memory)
      seen_store known address count bytes long answers = (
        seen_reach known (address + count) answers.0,
        on_seen (known_after known (Reaches (address + count) (pages memory)))
            (with_bytes_at memory.bytes address bytes) (λ all. Writes address bytes ∷ []) (λ all e a.
            let within = written_fits memory.bytes address bytes all e in
            let counted : address + count ≤ length memory.bytes =
            subst (λ n. address + n ≤ length memory.bytes) long within in
            let fits : address + count ≤ pages memory * PAGE_SIZE = subst (λ n. address + count ≤ n) whole counted in
            let low = reached (address + count) known.pages (pages memory) fits in (
              seen_write (known_after known (Reaches (address + count) (pages memory))) address bytes within
                  (subst
                  (λ n. address + n
                  ≤ cond (nat_le (address + count) (known.pages * PAGE_SIZE)) known.pages (pages memory) * PAGE_SIZE)
                  (sym long) low),
              tt,
            )) answers.1,
      )

      seen_copying : (known : Known) (to source count : ℕ)
          → AnswersAll store (copy_observations to source count memory)
          → AreSeen known store (copy_observations to source count memory)
      seen_copying known to source count answers =
          let first = known_after known (Reaches (source + count) (pages memory)) in
          let second = known_after first (Reaches (to + count) (pages memory)) in (
            seen_reach known (source + count) answers.0,
            (
              seen_reach first (to + count) answers.1.0,
              on_seen second (bytes_at memory.bytes source count) _ (λ bytes e.
                  on_seen second (with_bytes_at memory.bytes to bytes)
                  (λ all. Copies source bytes ∷ Writes to bytes ∷ []) (λ all e' a.
                  let p = bytes_there memory.bytes source count bytes e in
                  let within = written_fits memory.bytes to bytes all e' in
                  let long = p.1 in
                  let fits : source + count ≤ pages memory * PAGE_SIZE =
                  subst (λ n. source + count ≤ n) whole p.0 in
                  let counted : to + count ≤ length memory.bytes =
                  subst (λ n. to + n ≤ length memory.bytes) long within in
                  let fits' : to + count ≤ pages memory * PAGE_SIZE =
                  subst (λ n. to + count ≤ n) whole counted in
                  let low : source + count ≤ first.pages * PAGE_SIZE =
                  reached (source + count) known.pages (pages memory) fits in
                  let low' : source + count ≤ second.pages * PAGE_SIZE =
                  reached_still (source + count) (to + count) first.pages (pages memory) low fits in
                  let high : to + count ≤ second.pages * PAGE_SIZE =
                  reached (to + count) first.pages (pages memory) fits' in (
                    seen_copy second source bytes a.0
                        (subst (λ n. source + n ≤ second.pages * PAGE_SIZE) (sym long) low'),
                    (
                      seen_write (known_after second (Copies source bytes)) to bytes within
                          (subst (λ n. to + n ≤ second.pages * PAGE_SIZE) (sym long) high),
                      tt,
                    ),
                  ))) answers.1.1,
            ),
          )

  module _ (table : Table) (is : store.table ≡ Some table) where
    seen_index : (known : Known) (index : ℕ) → Answers store (ReachesEntry index (length table.entries))
        → IsSeen known store (ReachesEntry index (length table.entries))
    seen_index known index answers =
        carries_none known (ReachesEntry index (length table.entries)) (table, is) (ap table_length is) answers tt
        (λ at. refl) (λ at. refl)

    seen_entry : (known : Known) (index : ℕ) → AnswersAll store (entry_observations index table)
        → AreSeen known store (entry_observations index table)
    seen_entry known index answers = (
      seen_index known index answers.0,
      on_seen (known_after known (ReachesEntry index (length table.entries))) (slice_get table.entries index)
          (λ func. ReadsEntry index func ∷ []) (λ func e a.
          let low =
          reached_entry index known.entries (length table.entries) (slice_get_within table.entries index func e) in (
            carries_entry (known_after known (ReachesEntry index (length table.entries))) (ReadsEntry index func) index
                func (table, is) tt a.0 tt (λ at. refl)
                (λ at x h. or_none (cond (nat_eq index at) (Some func) None) x h) low,
            tt,
          )) answers.1,
    )

    seen_set : (known : Known) (index : ℕ) (func : Option ℕ) → AnswersAll store (set_observations index func table)
        → AreSeen known store (set_observations index func table)
    seen_set known index func answers = (
      seen_index known index answers.0,
      on_seen (known_after known (ReachesEntry index (length table.entries))) (with_entry table.entries index func)
          (λ all. WritesEntry index func ∷ []) (λ all e a.
          let t = (cond_some (nat_lt index (length table.entries)) _ all e).0 in
          let below : index < length table.entries = grind (arith, nat_tests, t) in
          let low = reached_entry index known.entries (length table.entries) below in (
            carries_entry (known_after known (ReachesEntry index (length table.entries))) (WritesEntry index func)
                index func (table, is) tt tt
                (subst (λ o. IfSome o (λ (t : Table). index < length t.entries)) (sym is) below) (λ at. refl)
                (λ at x h. h) low,
            tt,
          )) answers.1,
    )

    seen_table_resize : (known : Known) (found left : ℕ) (func : Option ℕ)
        → Answers store (ResizesTable found left func) → found ≤ left
        → IsSeen known store (ResizesTable found left func)
    seen_table_resize known found left func answers more =
        record {
          here = (table, is);
          found = tt;
          answers = answers;
          possible = more;
          bytes = λ at x h. absurd (none-some x h);
          entries = λ at x h.
              let t = (cond_some (nat_le found at && nat_lt at left) (Some func) x h).0 in
              let below = and_right (nat_le found at) (nat_lt at left) t in
              grind (arith, nat_tests, below);
        }

  -- ---- instructions

  module _ (known : Known) (whole : HasWholePages store) where
    whole_of : (memory : Memory) → store.memory ≡ Some memory → length memory.bytes ≡ pages memory * PAGE_SIZE
    whole_of memory is = subst (λ o. IfSome o (λ m. length m.bytes ≡ pages m * PAGE_SIZE)) is whole

    -- if setting a global is possible, the observations of an instruction fit its store
    seen_plain : (values : List Val) (i : Instr)
        → ((x : ℕ) → i ≡ GlobalSet x → CanChangeAll store (plain_observations store values (GlobalSet x)))
        → AnswersAll store (plain_observations store values i) → AreSeen known store (plain_observations store values i)
    seen_plain values (Load at) sets =
        on_seen known (load_of at.op) _ (λ access has.
        on_seen known store.memory _ (λ memory is. seen_load memory is (whole_of memory is) known _ access.width))
    seen_plain values (StoreTo at) sets =
        on_seen known (store_of at.op) _ (λ access has.
        on_seen known store.memory _ (λ memory is.
        seen_store memory is (whole_of memory is) known _ access.width _
        (length-bytes_of access.width (bits_from_top values 0))))
    seen_plain values MemorySize sets =
        on_seen known store.memory size_observations (λ memory is a.
        (seen_resize memory is known (pages memory) (pages memory) a.0 (omega arith), tt))
    seen_plain values MemoryGrow sets =
        on_seen known store.memory (grow_observations (bits_from_top values 0)) (λ memory is a.
        (seen_resize memory is known (pages memory) _ a.0 (grown_more _ memory (bits_from_top values 0)), tt))
    seen_plain values MemoryCopy sets =
        on_seen known store.memory _ (λ memory is. seen_copying memory is (whole_of memory is) known _ _ _)
    seen_plain values MemoryFill sets =
        on_seen known store.memory _ (λ memory is.
        seen_store memory is (whole_of memory is) known _ _ _
        (length-replicate (bits_from_top values 0) (bits_from_top values 1 % 256)))
    seen_plain values (CallIndirect t) sets =
        on_seen known store.table _ (λ table is. seen_entry table is known _)
    seen_plain values (TableSet t) sets = on_seen known store.table _ (λ table is. seen_set table is known _ _)
    seen_plain values (TableSize t) sets =
        on_seen known store.table table_size_observations (λ table is a.
        (seen_table_resize table is known (length table.entries) (length table.entries) None a.0 (omega arith), tt))
    seen_plain values (TableGrow t) sets =
        on_seen known store.table
        (table_grow_observations (bits_from_top values 0) (referent (bits_from_top values 1))) (λ table is a. (
          seen_table_resize table is known (length table.entries) _ (referent (bits_from_top values 1)) a.0
              (table_more _ table (bits_from_top values 0) (referent (bits_from_top values 1))),
          tt,
        ))
    seen_plain values (GlobalGet x) sets =
        on_seen known (slice_get store.globals x) (λ value. ReadsGlobal x value ∷ []) (λ value e a. (
          carries_none known (ReadsGlobal x value) tt tt a.0 tt (λ at. refl) (λ at. refl),
          tt,
        ))
    seen_plain values (GlobalSet x) sets =
        on_seen known (slice_get values 0) (λ value. WritesGlobal x value ∷ []) (λ value e a. (
          carries_none known (WritesGlobal x value) tt tt tt
              (subst (λ o. CanChangeAll store (on o (λ v. WritesGlobal x v ∷ []))) e (sets x refl)).0 (λ at. refl)
              (λ at. refl),
          tt,
        ))
    seen_plain values i sets = λ answers. tt

-- the observations of the next instruction
pub step_seen : (known : Known) (store : Store) → HasWholePages store → (values : List Val) (nest : Nest)
    → ((x : ℕ) (rest : Nest) → nest ≡ Plain (GlobalSet x) rest
    → CanChangeAll store (plain_observations store values (GlobalSet x)))
    → AnswersAll store (nest_observations store values nest) → AreSeen known store (nest_observations store values nest)
step_seen known store whole values (Plain i rest) sets answers =
    seen_plain store known whole values i (λ x e. sets x rest (ap (λ j. Plain j rest) e)) answers
step_seen known store whole values nest sets answers = tt
