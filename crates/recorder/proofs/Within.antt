-- Loads, stores, copies and fills: what they reach, and what they read and write if that is within the memory.
use Rattle.std.proofs.Common.{◌≡◌, ℕ, ◌+◌, List, [], ◌∷◌, length, take, drop, Option, Some, None, Bool, true, false, cond, nat_le, is_some, refl, sym, ap, ◌∙◌, subst}
use Rattle.trace_model.specs.declared.events.Event.{Event}
use Rattle.history_spec.specs.Store.{Store, Memory, pages, bytes_at, with_bytes_at, with_items_at}
use Rattle.wasm_store.specs.Calls.{bytes_in, bytes_of_memory, pages_in, pages_of_memory}
use Rattle.record_replay_spec.specs.Observations as observed
use Rattle.record_replay_spec.specs.Observations.{Observation, Reads, Copies, Writes, Reaches, load_observations, store_observations, copy_observations}
use Rattle.record_replay_spec.specs.Hooks.{on}
use Rattle.shadow_memory.specs.Shadow.{Shadow, HasTaken}
use Rattle.recorder.specs.Known.{ReportsMemory}
use Rattle.recorder.proofs.Kit.{reports_none, reports_then}
use Rattle.recorder.proofs.Sizes.{writes}

true_false : true ≡ false → ⊥
true_false e = cc

-- ---- bytes within the memory

module _ (bytes : List ℕ) (address count : ℕ) where
  is_there : (part : List ℕ) → bytes_at bytes address count ≡ Some part
      → nat_le (address + count) (length bytes) ≡ true
  is_there part h = go (nat_le (address + count) (length bytes)) h
    where
      go : (b : Bool) → cond b (Some (take count (drop address bytes))) None ≡ Some part → b ≡ true
      go true h = refl
      go false h = cc

  is_past : bytes_at bytes address count ≡ None → nat_le (address + count) (length bytes) ≡ false
  is_past h = go (nat_le (address + count) (length bytes)) h
    where
      go : (b : Bool) → cond b (Some (take count (drop address bytes))) None ≡ None → b ≡ false
      go true h = cc
      go false h = refl

-- what is written, by whether the range is within the memory
on_written : (bytes : List ℕ) (address count : ℕ) (news : List ℕ) (seen : List Observation) → length news ≡ count
    → (b : Bool) → nat_le (address + count) (length bytes) ≡ b
    → observed.on (with_bytes_at bytes address news) (λ all. seen) ≡ cond b seen []
on_written bytes address count news seen long b p =
    ap
    (λ k. observed.on (cond (nat_le (address + k) (length bytes)) (Some (with_items_at bytes address news)) None) (λ all.
    seen))
    long
    ∙ ap (λ t. observed.on (cond t (Some (with_items_at bytes address news)) None) (λ all. seen)) p
    ∙ by_test b
  where
    by_test : (b : Bool)
        → observed.on (cond b (Some (with_items_at bytes address news)) None) (λ all. seen) ≡ cond b seen []
    by_test true = refl
    by_test false = refl

-- ---- how long what is written is

module _ {S : Type 0} (has_taken : S → S → List Event → Type 0) where
  -- nothing is observed of a missing memory
  pub reports_nowhere : (memory : Option Memory) (make : Memory → List Observation) (shadow : Shadow) (sink : S)
      → is_some memory ≡ false → ReportsMemory has_taken shadow sink (on memory make) shadow sink
  reports_nowhere None make shadow sink h = λ n tables. reports_none has_taken n _
  reports_nowhere (Some memory) make shadow sink h = absurd (true_false h)

  -- one observation, and later ones after it
  reaches_then : (a b c : Shadow) (s t u : S) (o : Observation) (later : List Observation)
      → ReportsMemory has_taken a s (o ∷ []) b t → ReportsMemory has_taken b t later c u
      → ReportsMemory has_taken a s (o ∷ later) c u
  reaches_then a b c s t u o later f g n tables = reports_then has_taken n _ _ _ o later (f n tables) (g n tables)

  reports_no_more : (a : Shadow) (s : S) (later : List Observation) → later ≡ []
      → ReportsMemory has_taken a s later a s
  reports_no_more a s later none =
      subst (λ seen. ReportsMemory has_taken a s seen a s) (sym none) (λ n tables. reports_none has_taken n _)

  module _ (memory : Option Memory) (there : is_some memory ≡ true) (a b : Shadow) (s t : S) where
    -- ---- loads

    pub loads_within : (address width : ℕ) (part : List ℕ) (c : Shadow) (u : S)
        → ReportsMemory has_taken a s (Reaches (address + width) (pages_of_memory memory) ∷ []) b t
        → bytes_at (bytes_of_memory memory) address width ≡ Some part
        → ReportsMemory has_taken b t (Reads address part ∷ []) c u
        → ReportsMemory has_taken a s (on memory (load_observations address width)) c u
    loads_within address width part c u = go memory there
      where
        go : (memory : Option Memory) → is_some memory ≡ true
            → ReportsMemory has_taken a s (Reaches (address + width) (pages_of_memory memory) ∷ []) b t
            → bytes_at (bytes_of_memory memory) address width ≡ Some part
            → ReportsMemory has_taken b t (Reads address part ∷ []) c u
            → ReportsMemory has_taken a s (on memory (load_observations address width)) c u
        go None h reach found reads = absurd (true_false (sym h))
        go (Some memory) h reach found reads =
            reaches_then a b c s t u (Reaches (address + width) (pages memory))
            (observed.on (bytes_at memory.bytes address width) (λ bytes. Reads address bytes ∷ [])) reach
            (subst
            (λ o. ReportsMemory has_taken b t (observed.on o (λ bytes. Reads address bytes ∷ [])) c u)
            (sym found) reads)

    pub loads_past : (address width : ℕ)
        → ReportsMemory has_taken a s (Reaches (address + width) (pages_of_memory memory) ∷ []) b t
        → bytes_at (bytes_of_memory memory) address width ≡ None
        → ReportsMemory has_taken a s (on memory (load_observations address width)) b t
    loads_past address width = go memory there
      where
        go : (memory : Option Memory) → is_some memory ≡ true
            → ReportsMemory has_taken a s (Reaches (address + width) (pages_of_memory memory) ∷ []) b t
            → bytes_at (bytes_of_memory memory) address width ≡ None
            → ReportsMemory has_taken a s (on memory (load_observations address width)) b t
        go None h reach past = absurd (true_false (sym h))
        go (Some memory) h reach past =
            reaches_then a b b s t t (Reaches (address + width) (pages memory))
            (observed.on (bytes_at memory.bytes address width) (λ bytes. Reads address bytes ∷ [])) reach
            (reports_no_more b t (observed.on (bytes_at memory.bytes address width) (λ bytes. Reads address bytes ∷ []))
            (ap (λ o. observed.on o (λ bytes. Reads address bytes ∷ [])) past))

    -- ---- stores and fills

    pub stores_within : (address count : ℕ) (news part : List ℕ) (c : Shadow) → length news ≡ count
        → ReportsMemory has_taken a s (Reaches (address + count) (pages_of_memory memory) ∷ []) b t
        → bytes_at (bytes_of_memory memory) address count ≡ Some part
        → HasTaken b address news c
        → ReportsMemory has_taken a s (on memory (store_observations address count news)) c t
    stores_within address count news part c long = go memory there
      where
        go : (memory : Option Memory) → is_some memory ≡ true
            → ReportsMemory has_taken a s (Reaches (address + count) (pages_of_memory memory) ∷ []) b t
            → bytes_at (bytes_of_memory memory) address count ≡ Some part
            → HasTaken b address news c
            → ReportsMemory has_taken a s (on memory (store_observations address count news)) c t
        go None h reach found taken = absurd (true_false (sym h))
        go (Some memory) h reach found taken =
            reaches_then a b c s t t (Reaches (address + count) (pages memory))
            (observed.on (with_bytes_at memory.bytes address news) (λ all. Writes address news ∷ [])) reach
            (subst (λ seen. ReportsMemory has_taken b t seen c t)
            (sym
            (on_written memory.bytes address count news (Writes address news ∷ []) long true
            (is_there memory.bytes address count part found)))
            (writes has_taken b t address news c taken))

    pub stores_past : (address count : ℕ) (news : List ℕ) → length news ≡ count
        → ReportsMemory has_taken a s (Reaches (address + count) (pages_of_memory memory) ∷ []) b t
        → bytes_at (bytes_of_memory memory) address count ≡ None
        → ReportsMemory has_taken a s (on memory (store_observations address count news)) b t
    stores_past address count news long = go memory there
      where
        go : (memory : Option Memory) → is_some memory ≡ true
            → ReportsMemory has_taken a s (Reaches (address + count) (pages_of_memory memory) ∷ []) b t
            → bytes_at (bytes_of_memory memory) address count ≡ None
            → ReportsMemory has_taken a s (on memory (store_observations address count news)) b t
        go None h reach past = absurd (true_false (sym h))
        go (Some memory) h reach past =
            reaches_then a b b s t t (Reaches (address + count) (pages memory))
            (observed.on (with_bytes_at memory.bytes address news) (λ all. Writes address news ∷ [])) reach
            (reports_no_more b t (observed.on (with_bytes_at memory.bytes address news) (λ all. Writes address news ∷ []))
            (on_written memory.bytes address count news (Writes address news ∷ []) long false
            (is_past memory.bytes address count past)))

    -- ---- copies

    pub copies : (to source count : ℕ) (next c : Shadow) (middle u : S)
        → ReportsMemory has_taken a s (Reaches (source + count) (pages_of_memory memory) ∷ []) next middle
        → ReportsMemory has_taken next middle (Reaches (to + count) (pages_of_memory memory) ∷ []) b t
        → ReportsMemory has_taken b t
        (observed.on (bytes_at (bytes_of_memory memory) source count) (λ part.
        observed.on (with_bytes_at (bytes_of_memory memory) to part) (λ all. Copies source part ∷ Writes to part ∷ [])))
        c u
        → ReportsMemory has_taken a s (on memory (copy_observations to source count)) c u
    copies to source count next c middle u = go memory there
      where
        go : (memory : Option Memory) → is_some memory ≡ true
            → ReportsMemory has_taken a s (Reaches (source + count) (pages_of_memory memory) ∷ []) next middle
            → ReportsMemory has_taken next middle (Reaches (to + count) (pages_of_memory memory) ∷ []) b t
            → ReportsMemory has_taken b t
            (observed.on (bytes_at (bytes_of_memory memory) source count) (λ part.
            observed.on (with_bytes_at (bytes_of_memory memory) to part) (λ all.
            Copies source part ∷ Writes to part ∷ [])))
            c u
            → ReportsMemory has_taken a s (on memory (copy_observations to source count)) c u
        go None h first second rest = absurd (true_false (sym h))
        go (Some memory) h first second rest =
            reaches_then a next c s middle u (Reaches (source + count) (pages memory))
            (Reaches (to + count) (pages memory) ∷ observed.on (bytes_at memory.bytes source count) (λ part.
            observed.on (with_bytes_at memory.bytes to part) (λ all. Copies source part ∷ Writes to part ∷ []))) first
            (reaches_then next b c middle t u (Reaches (to + count) (pages memory))
            (observed.on (bytes_at memory.bytes source count) (λ part.
            observed.on (with_bytes_at memory.bytes to part) (λ all. Copies source part ∷ Writes to part ∷ []))) second rest)

  -- ---- what a copy reads and writes

  module _ (bytes : List ℕ) (to source count : ℕ) (a : Shadow) (s : S) where
    abbrev Copied : List Observation
    Copied =
        observed.on (bytes_at bytes source count) (λ part.
        observed.on (with_bytes_at bytes to part) (λ all. Copies source part ∷ Writes to part ∷ []))

    pub copies_nothing : bytes_at bytes source count ≡ None → ReportsMemory has_taken a s Copied a s
    copies_nothing past =
        reports_no_more a s Copied
        (ap
        (λ o. observed.on o (λ part.
        observed.on (with_bytes_at bytes to part) (λ all. Copies source part ∷ Writes to part ∷ [])))
        past)

    by_source : (part : List ℕ) → bytes_at bytes source count ≡ Some part → length part ≡ count → (b : Bool)
        → nat_le (to + count) (length bytes) ≡ b → Copied ≡ cond b (Copies source part ∷ Writes to part ∷ []) []
    by_source part found long b p =
        ap
        (λ o. observed.on o (λ part.
        observed.on (with_bytes_at bytes to part) (λ all. Copies source part ∷ Writes to part ∷ [])))
        found
        ∙ on_written bytes to count part (Copies source part ∷ Writes to part ∷ []) long b p

    pub copies_nowhere : (part : List ℕ) → bytes_at bytes source count ≡ Some part → length part ≡ count
        → bytes_at bytes to count ≡ None → ReportsMemory has_taken a s Copied a s
    copies_nowhere part found long past =
        reports_no_more a s Copied (by_source part found long false (is_past bytes to count past))

    pub copies_there : (part other : List ℕ) (b c : Shadow) (t : S) → bytes_at bytes source count ≡ Some part
        → length part ≡ count → bytes_at bytes to count ≡ Some other
        → ReportsMemory has_taken a s (Reads source part ∷ []) b t → HasTaken b to part c
        → ReportsMemory has_taken a s Copied c t
    copies_there part other b c t found long there reads taken =
        subst (λ seen. ReportsMemory has_taken a s seen c t)
        (sym (by_source part found long true (is_there bytes to count other there)))
        (reaches_then a b c s t t (Copies source part) (Writes to part ∷ []) reads
        (writes has_taken b t to part c taken))

-- ---- facts in terms of other equal values

module _ {S : Type 0} (has_taken : S → S → List Event → Type 0) (view : Store) (a b : Shadow) (s t : S)
    (there : is_some view.memory ≡ true) (address count start last found : ℕ) (bytes : List ℕ) (starts : start ≡ address)
    (ends : last ≡ address + count) (pages_are : found ≡ pages_in view) (bytes_are : bytes ≡ bytes_in view)
    (reach : ReportsMemory has_taken a s (Reaches last found ∷ []) b t) where
  reached : ReportsMemory has_taken a s (Reaches (address + count) (pages_of_memory view.memory) ∷ []) b t
  reached =
      subst (λ f. ReportsMemory has_taken a s (Reaches (address + count) f ∷ []) b t) pages_are
      (subst (λ e. ReportsMemory has_taken a s (Reaches e found ∷ []) b t) ends reach)

  part_is : bytes_at (bytes_of_memory view.memory) address count ≡ bytes_at bytes start count
  part_is =
      ap (λ bs. bytes_at bs address count) (sym bytes_are) ∙ ap (λ at. bytes_at bytes at count) (sym starts)

  pub load_past : bytes_at bytes start count ≡ None
      → ReportsMemory has_taken a s (on view.memory (load_observations address count)) b t
  load_past past = loads_past has_taken view.memory there a b s t address count reached (part_is ∙ past)

  pub load_there : (part : List ℕ) (c : Shadow) (u : S) → bytes_at bytes start count ≡ Some part
      → ReportsMemory has_taken b t (Reads start part ∷ []) c u
      → ReportsMemory has_taken a s (on view.memory (load_observations address count)) c u
  load_there part c u is reads =
      loads_within has_taken view.memory there a b s t address count part c u reached (part_is ∙ is)
      (subst (λ at. ReportsMemory has_taken b t (Reads at part ∷ []) c u) starts reads)

  module _ (news : List ℕ) (long : length news ≡ count) where
    pub store_past : bytes_at bytes start count ≡ None
        → ReportsMemory has_taken a s (on view.memory (store_observations address count news)) b t
    store_past past =
        stores_past has_taken view.memory there a b s t address count news long reached (part_is ∙ past)

    pub store_there : (part : List ℕ) (c : Shadow) (at : ℕ) → at ≡ address → bytes_at bytes start count ≡ Some part
        → HasTaken b at news c
        → ReportsMemory has_taken a s (on view.memory (store_observations address count news)) c t
    store_there part c at same is taken =
        stores_within has_taken view.memory there a b s t address count news part c long reached (part_is ∙ is)
        (subst (λ at. HasTaken b at news c) same taken)

pub copy_all : {S : Type 0} (has_taken : S → S → List Event → Type 0) (view : Store) (a next b c : Shadow) (s middle t u : S)
    (to source count last last' found found' : ℕ) (bytes : List ℕ)
    → is_some view.memory ≡ true → last ≡ source + count → last' ≡ to + count → found ≡ pages_in view
    → found' ≡ pages_in view → bytes ≡ bytes_in view
    → ReportsMemory has_taken a s (Reaches last found ∷ []) next middle
    → ReportsMemory has_taken next middle (Reaches last' found' ∷ []) b t
    → ReportsMemory has_taken b t
    (observed.on (bytes_at bytes source count) (λ part.
    observed.on (with_bytes_at bytes to part) (λ all. Copies source part ∷ Writes to part ∷ [])))
    c u
    → ReportsMemory has_taken a s (on view.memory (copy_observations to source count)) c u
copy_all has_taken view a next b c s middle t u to source count last last' found found' bytes there ends ends' pages
    pages' same first second rest =
    copies has_taken view.memory there a b s t to source count next c middle u
    (reached has_taken view a next s middle there source count source last found bytes refl ends pages same first)
    (reached has_taken view next b middle t there to count to last' found' bytes refl ends' pages' same second)
    (subst
    (λ bs. ReportsMemory has_taken b t
    (observed.on (bytes_at bs source count) (λ part.
    observed.on (with_bytes_at bs to part) (λ all. Copies source part ∷ Writes to part ∷ [])))
    c u)
    same rest)
