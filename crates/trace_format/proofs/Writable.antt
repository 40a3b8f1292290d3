-- What has an encoding in one version has one in the second.
use Rattle.std.proofs.Common.{ℕ, List, [], ◌∷◌, refl}
use Rattle.std.specs.List.{AllByRecursion}
use Rattle.trace_model.specs.declared.events.Event.{Event}
use Rattle.trace_model.specs.declared.events.Event.TheVariants.{Enter, Leave, Pre, Post, Grow, Seen, Table, Bytes, Entry, Global}
use Rattle.trace_model.specs.declared.tapes.Effect.{Effect}
use Rattle.trace_model.specs.declared.tapes.Effect.TheVariants as changes
use Rattle.trace_model.specs.declared.tapes.Segment.{Segment}
use Rattle.trace_bytes.specs.declared.tags.TheConstants.{VERSION_2}
use Rattle.trace_bytes.specs.Spelled.{FitEvents, FitSegments, FitsEffect, FitsEvent, FitsSegment}

all_later : {A : Type 0} (P Q : A → Type 0) → ((x : A) → P x → Q x) → (xs : List A) → AllByRecursion P xs
    → AllByRecursion Q xs
all_later P Q each [] all = tt
all_later P Q each (x ∷ xs) all = (each x all.0, all_later P Q each xs all.1)

event_later : (version : ℕ) (event : Event) → FitsEvent version event → FitsEvent VERSION_2 event
event_later version (Table size) fits = (refl, fits.1)
event_later version (Enter func args) fits = fits
event_later version (Leave func) fits = fits
event_later version (Pre callee) fits = fits
event_later version (Post value) fits = fits
event_later version (Grow pages) fits = fits
event_later version Seen fits = fits
event_later version (Bytes addr bytes) fits = fits
event_later version (Entry index func) fits = fits
event_later version (Global global value) fits = fits

effect_later : (version : ℕ) (effect : Effect) → FitsEffect version effect → FitsEffect VERSION_2 effect
effect_later version (changes.Table size) fits = (refl, fits.1)
effect_later version (changes.Grow pages) fits = fits
effect_later version (changes.Bytes addr bytes) fits = fits
effect_later version (changes.Entry index func) fits = fits
effect_later version (changes.Global global value) fits = fits

segment_later : (version : ℕ) (segment : Segment) → FitsSegment version segment → FitsSegment VERSION_2 segment
segment_later version segment fits = record {
  origin = fits.origin;
  few = fits.few;
  effects = all_later (FitsEffect version) (FitsEffect VERSION_2) (effect_later version) segment.effects fits.effects;
  next = fits.next;
}

pub events_later : (version : ℕ) (events : List Event) → FitEvents version events → FitEvents VERSION_2 events
events_later version = all_later (FitsEvent version) (FitsEvent VERSION_2) (event_later version)

pub segments_later : (version : ℕ) (segments : List Segment) → FitSegments version segments
    → FitSegments VERSION_2 segments
segments_later version = all_later (FitsSegment version) (FitsSegment VERSION_2) (segment_later version)
