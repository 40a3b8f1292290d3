-- The needed tape of a run: for each activity of the host, what the window after it reads or sees and does not know.
use Rattle.std.specs.Prelude.{◌≡◌, ℕ, List, [], ◌∷◌, ◌++◌, Option, Some, None, Result, Ok, Err, Bool, true, false, cond, nat_eq}
use Rattle.std.specs.List.{list_all}
use Rattle.wasm_syntax.specs.declared.values.Val.{Val}
use Rattle.wasm_syntax.specs.declared.modules.Module.{Module}
use Rattle.host_script.specs.declared.scripts.LinkFault.{LinkFault}
use Rattle.host_script.specs.declared.scripts.Script.{Script}
use Rattle.host_script.specs.declared.scripts.Supply.{Supply}
use Rattle.host_script.specs.Supply.{supply_of}
use Rattle.base.specs.declared.outcomes.Outcome.{Outcome}
use Rattle.trace_model.specs.declared.tapes.Origin.{Origin}
use Rattle.trace_model.specs.declared.tapes.Next.{Next}
use Rattle.trace_model.specs.declared.tapes.Effect.{Effect}
use Rattle.trace_model.specs.declared.tapes.Effect.TheVariants.{Grow, Table, Bytes, Entry, Global}
use Rattle.trace_model.specs.declared.tapes.Segment.{Segment}
use Rattle.trace_model.specs.Effects.{AreOrdered}
use Rattle.history_spec.specs.Store.{Store}
use Rattle.history_spec.specs.Step.{Program, Finished, StepResult}
use Rattle.history_spec.specs.Instantiation.{instantiate}
use Rattle.history_spec.specs.Run.{all_one, run_from, program_of, start_in_store}
use Rattle.record_replay_spec.specs.Observations.{Observation, Begins, Ends, run_observations}
use Rattle.record_replay_spec.specs.Known.{Known, byte_among, last_some, known_from, opening_known}
use Rattle.record_replay_spec.specs.Alike.{same_option, same_value}
use Rattle.record_replay_spec.specs.Windows.{window, first_byte, first_entry, first_global, found_pages, found_entries}

-- ---- what a window needs

-- a value that is found, if it is not the known one
abbrev pub needed : {X : Type 0} → (X → X → Bool) → (known : X) → Option X → Option X
needed same known None = None
needed same known (Some found) = cond (same known found) None (Some found)

-- the byte at an address that a window needs
abbrev pub needed_byte : Known → List Observation → (at : ℕ) → Option ℕ
needed_byte known window at = needed nat_eq (known.byte at) (first_byte window at)

-- the entry at an index that a window needs
abbrev pub needed_entry : Known → List Observation → (at : ℕ) → Option (Option ℕ)
needed_entry known window at = needed (same_option nat_eq) (known.entry at) (first_entry window at)

-- the global at an index that a window needs
abbrev pub needed_global : Known → List Observation → (at : ℕ) → Option (Option Val)
needed_global known window at = needed (same_option same_value) (known.global at) (first_global window at)

-- the number of pages that a window needs
abbrev pub needed_pages : Known → List Observation → Option ℕ
needed_pages known window = needed nat_eq known.pages (Some (found_pages known.pages window))

-- the number of entries that a window needs
abbrev pub needed_entries : Known → List Observation → Option ℕ
needed_entries known window = needed nat_eq known.entries (Some (found_entries known.entries window))

-- ---- what an effect gives

-- the byte at an address that an effect gives
abbrev pub effect_byte : (at : ℕ) → Effect → Option ℕ
effect_byte at (Bytes address bytes) = byte_among address bytes at
effect_byte at effect = None

-- the entry at an index that an effect gives
abbrev pub effect_entry : (at : ℕ) → Effect → Option (Option ℕ)
effect_entry at (Entry index func) = cond (nat_eq index at) (Some func) None
effect_entry at effect = None

-- the global at an index that an effect gives
abbrev pub effect_global : (at : ℕ) → Effect → Option (Option Val)
effect_global at (Global global value) = cond (nat_eq global at) (Some (Some value)) None
effect_global at effect = None

-- the number of pages that an effect gives
abbrev pub effect_pages : Effect → Option ℕ
effect_pages (Grow pages) = Some pages
effect_pages effect = None

-- the number of entries that an effect gives
abbrev pub effect_entries : Effect → Option ℕ
effect_entries (Table size) = Some size
effect_entries effect = None

-- the effect is not an empty run of bytes
abbrev pub has_bytes : Effect → Bool
has_bytes (Bytes address []) = false
has_bytes effect = true

-- ---- what is given at each place

-- sizes, and bytes, entries and globals by their place, each if it is given
pub record Given : Type 0 where
  pub pages : Option ℕ
  pub entries : Option ℕ
  pub byte : (at : ℕ) → Option ℕ
  pub entry : (at : ℕ) → Option (Option ℕ)
  pub global : (at : ℕ) → Option (Option Val)

-- the same is given at each place
pub record SameGiven (a b : Given) : Type 0 where
  pub pages : a.pages ≡ b.pages
  pub entries : a.entries ≡ b.entries
  pub byte : (at : ℕ) → a.byte at ≡ b.byte at
  pub entry : (at : ℕ) → a.entry at ≡ b.entry at
  pub global : (at : ℕ) → a.global at ≡ b.global at

-- what a choice takes from effects at each place
abbrev pub given_of : ((X : Type 0) → (Effect → Option X) → List Effect → Option X) → List Effect → Given
given_of choice effects =
    record {
      pages = choice ℕ effect_pages effects;
      entries = choice ℕ effect_entries effects;
      byte = λ at. choice ℕ (effect_byte at) effects;
      entry = λ at. choice (Option ℕ) (effect_entry at) effects;
      global = λ at. choice (Option Val) (effect_global at) effects;
    }

-- what a list of effects gives: at each place the last value
abbrev pub given_by : List Effect → Given
given_by effects = given_of (λ X part. last_some part) effects

-- effects in order, bytes in longest runs, that give exactly this at each place
pub record GiveJust (given : Given) (effects : List Effect) : Type 0 where
  pub ordered : AreOrdered effects
  pub nonempty : list_all has_bytes effects ≡ true
  pub pages : last_some effect_pages effects ≡ given.pages
  pub entries : last_some effect_entries effects ≡ given.entries
  pub byte : (at : ℕ) → last_some (effect_byte at) effects ≡ given.byte at
  pub entry : (at : ℕ) → last_some (effect_entry at) effects ≡ given.entry at
  pub global : (at : ℕ) → last_some (effect_global at) effects ≡ given.global at

-- ---- the needed tape

-- all that a window needs
abbrev pub needed_by : Known → List Observation → Given
needed_by known window =
    record {
      pages = needed_pages known window;
      entries = needed_entries known window;
      byte = needed_byte known window;
      entry = needed_entry known window;
      global = needed_global known window;
    }

-- the effects that a window needs of the activity before it: in order, bytes in longest runs, with exactly what is
-- needed at each place
abbrev pub AreNeeded : Known → List Observation → List Effect → Type 0
AreNeeded known window effects = GiveJust (needed_by known window) effects

-- the needed segment of an activity, by its beginning, its end, and the window after it
pub record IsNeededSegment (known : Known) (origin : Origin) (next : Next) (window : List Observation)
    (segment : Segment) : Type 0 where
  pub begins : segment.origin ≡ origin
  pub leaves : segment.next ≡ next
  pub changes : AreNeeded known window segment.effects

-- the needed segments of the activities that are still to come, in order; for each, what is known is what the search
-- of the observations so far finds, from the opening on, and each activity has an end
abbrev pub AreNeededSegments : (opening : Known) → (seen later : List Observation) → List Segment → Type 0
AreNeededSegments opening seen [] [] = Unit {0}
AreNeededSegments opening seen [] (segment ∷ segments) = ⊥
AreNeededSegments opening seen (Begins origin ∷ Ends next ∷ later) (segment ∷ segments) =
    IsNeededSegment (known_from opening seen) origin next (window later) segment
    × AreNeededSegments opening seen later segments
AreNeededSegments opening seen (Begins origin ∷ later) segments = ⊥
AreNeededSegments opening seen (o ∷ later) segments = AreNeededSegments opening (seen ++ o ∷ []) later segments

-- the needed tape of a run that has an outcome, from its start in a store
pub record IsNeededTape (program : Program) (initial : StepResult) (opened : Store)
    (segments : List Segment) : Type 0 where
  pub count : ℕ
  pub outcome : Outcome
  pub ends : (run_from program all_one initial count).at ≡ Finished outcome
  pub needed : AreNeededSegments (opening_known opened) [] (run_observations program initial count) segments

-- ---- the needed tape of the run of a module under a script

-- the store in which the run begins, with this supply, or the reason that the module does not link
abbrev pub opening_store_with : Module → Result Supply LinkFault → Result Store LinkFault
opening_store_with m (Ok supply) = instantiate m supply
opening_store_with m (Err fault) = Err fault

-- the store in which the run of a module under a script begins (Core 1.0, 4.5.4)
abbrev pub opening_store : Module → Script → Result Store LinkFault
opening_store m script = opening_store_with m (supply_of m script)

-- the module links with the script, and its run from the store in which it begins needs these segments
pub record IsNeededOfRun (m : Module) (script : Script) (segments : List Segment) : Type 0 where
  pub opened : Store
  pub links : opening_store m script ≡ Ok opened
  pub is_needed : IsNeededTape (program_of m script) (start_in_store m script opened) opened segments
