-- The stretches of a run that functions outside the original make, and what each of them changes.
use Rattle.std.specs.Prelude.{◌+◌, List, [], ◌∷◌, ◌++◌, length, cond, nat_eq}
use Rattle.std.specs.List.{AllZip}
use Rattle.trace_model.specs.declared.tapes.Effect.{Effect}
use Rattle.trace_model.specs.declared.tapes.Effect.TheVariants.{Bytes}
use Rattle.trace_model.specs.declared.tapes.Segment.{Segment}
use Rattle.record_replay_spec.specs.Needed.{SameGiven, given_by}
use Rattle.history_spec.specs.declared.entries.Entry.{Entry}
use Rattle.history_spec.specs.declared.entries.Entry.TheVariants.{HostCall, HostReturn, ImportCall, ImportReturn}
use Rattle.replay_run_spec.specs.Items.{Item, Makes, Changes, Steps}

-- ---- stretches

-- the changes that follow a place of a run: those in the stretch at the place, and those of the later stretches
pub record Stretches : Type 0 where
  pub here : List Effect
  pub later : List (List Effect)

-- a stretch begins at a call of an import and at a return to the host; it ends at a call by the host and at the
-- return of an import
abbrev pub at_entry : Entry → Stretches → Stretches
at_entry (ImportCall import args) s = record { here = []; later = s.here ∷ s.later }
at_entry (HostReturn func results) s = record { here = []; later = s.here ∷ s.later }
at_entry (HostCall func args) s = record { here = []; later = s.later }
at_entry (ImportReturn import results) s = record { here = []; later = s.later }
at_entry entry s = s

-- the stretches of shown items, read from their end
abbrev pub stretches_from : List Item → Stretches
stretches_from [] = record { here = []; later = [] }
stretches_from (Makes entry ∷ later) = at_entry entry (stretches_from later)
stretches_from (Changes change ∷ later) =
    record { here = change ∷ (stretches_from later).here; later = (stretches_from later).later }
stretches_from (Steps block ∷ later) = stretches_from later

-- the changes of each stretch; the first stretch begins with the run
abbrev pub stretches : List Item → List (List Effect)
stretches items = (stretches_from items).here ∷ (stretches_from items).later

-- ---- changes

-- changes give each address, entry, global and size the same last value as the effects, and change nothing else
abbrev pub AreSameChanges : (changes effects : List Effect) → Type 0
AreSameChanges changes effects = SameGiven (given_by changes) (given_by effects)

-- the stretches correspond to the segments one by one, and each makes exactly its segment's effects
abbrev pub AreEffectsOf : List Segment → List (List Effect) → Type 0
AreEffectsOf segments changes =
    AllZip (λ (segment : Segment) made. AreSameChanges made segment.effects) segments changes

-- ---- a plain program for joining changes

-- a change in front of others: bytes that end where the next bytes begin are joined with them
abbrev pub joined : Effect → List Effect → List Effect
joined (Bytes addr bytes) (Bytes other more ∷ later) =
    cond (nat_eq (addr + length bytes) other) (Bytes addr (bytes ++ more) ∷ later)
    (Bytes addr bytes ∷ Bytes other more ∷ later)
joined change later = change ∷ later

abbrev pub all_joined : List Effect → List Effect
all_joined [] = []
all_joined (change ∷ later) = joined change (all_joined later)
