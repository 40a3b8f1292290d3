-- Whether segments are needed, as a computable test: it computes what is known one observation at a time, and looks
-- only at the addresses and indices that occur.
use Rattle.std.specs.Prelude.{ℕ, suc, List, [], ◌∷◌, ◌++◌, Option, Bool, true, false, ◌&&◌, nat_eq}
use Rattle.std.specs.List.{list_all}
use Rattle.trace_model.specs.declared.tapes.Effect.{Effect}
use Rattle.trace_model.specs.declared.tapes.Effect.TheVariants.{Bytes, Entry, Global}
use Rattle.trace_model.specs.declared.tapes.Segment.{Segment}
use Rattle.trace_model.specs.Effects.{are_ordered}
use Rattle.record_replay_spec.specs.Observations.{Observation, Begins, Ends, Reads, Copies, ReadsEntry, ReadsGlobal}
use Rattle.record_replay_spec.specs.Known.{Known, last_some, known_after}
use Rattle.record_replay_spec.specs.Alike.{same_option, same_value, same_origin, same_next}
use Rattle.record_replay_spec.specs.Windows.{window}
use Rattle.record_replay_spec.specs.Needed.{effect_byte, effect_entry, effect_global, effect_pages, effect_entries, has_bytes, Given, needed_by}

-- the parts of all items, one after another
abbrev pub all_of : {A X : Type 0} → (A → List X) → List A → List X
all_of part [] = []
all_of part (item ∷ later) = part item ++ all_of part later

-- the addresses of a run of bytes
abbrev pub addresses_from : ℕ → List ℕ → List ℕ
addresses_from address [] = []
addresses_from address (byte ∷ bytes) = address ∷ addresses_from (suc address) bytes

-- the addresses that an observation reads
abbrev pub read_addresses : Observation → List ℕ
read_addresses (Reads address bytes) = addresses_from address bytes
read_addresses (Copies address bytes) = addresses_from address bytes
read_addresses o = []

-- the indices of the table entries that an observation reads
abbrev pub read_entries : Observation → List ℕ
read_entries (ReadsEntry index func) = index ∷ []
read_entries o = []

-- the indices of the globals that an observation reads
abbrev pub read_globals : Observation → List ℕ
read_globals (ReadsGlobal global value) = global ∷ []
read_globals o = []

-- the addresses that an effect changes
abbrev pub effect_addresses : Effect → List ℕ
effect_addresses (Bytes address bytes) = addresses_from address bytes
effect_addresses effect = []

-- the indices of the table entries that an effect changes
abbrev pub entries_set : Effect → List ℕ
entries_set (Entry index func) = index ∷ []
entries_set effect = []

-- the indices of the globals that an effect changes
abbrev pub globals_set : Effect → List ℕ
globals_set (Global global value) = global ∷ []
globals_set effect = []

-- at each of some places effects give what is given there
abbrev pub gives : {X : Type 0} → (X → X → Bool) → (part : ℕ → Effect → Option X) → (given : ℕ → Option X)
    → (places : List ℕ) → List Effect → Bool
gives same part given places effects = list_all (λ at. same_option same (last_some (part at) effects) (given at)) places

-- effects give exactly this, if it is given only at some addresses, entries and globals
abbrev pub give_just : Given → (addresses entries globals : List ℕ) → List Effect → Bool
give_just given addresses entries globals effects =
    are_ordered effects
    && list_all has_bytes effects
    && same_option nat_eq (last_some effect_pages effects) given.pages
    && same_option nat_eq (last_some effect_entries effects) given.entries
    && gives nat_eq effect_byte given.byte (all_of effect_addresses effects ++ addresses) effects
    && gives (same_option nat_eq) effect_entry given.entry (all_of entries_set effects ++ entries) effects
    && gives (same_option same_value) effect_global given.global (all_of globals_set effects ++ globals) effects

-- effects give exactly what a window needs
abbrev pub are_needed : Known → List Observation → List Effect → Bool
are_needed known window effects =
    give_just (needed_by known window) (all_of read_addresses window) (all_of read_entries window)
    (all_of read_globals window) effects

-- the segments are those of all activities
abbrev pub are_needed_segments : Known → List Observation → List Segment → Bool
are_needed_segments known [] [] = true
are_needed_segments known [] (segment ∷ segments) = false
are_needed_segments known (Begins origin ∷ Ends next ∷ later) (segment ∷ segments) =
    same_origin segment.origin origin
    && same_next segment.next next
    && are_needed known (window later) segment.effects
    && are_needed_segments known later segments
are_needed_segments known (Begins origin ∷ later) segments = false
are_needed_segments known (o ∷ later) segments = are_needed_segments (known_after known o) later segments
