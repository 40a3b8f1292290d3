-- The steps of each call of an import are those that the call owns.
use Rattle.std.proofs.Common.{◌≡◌, ℕ, ◌<◌, ◌≤◌, List, [], ◌∷◌, length, Bool, true, false, refl, sym, ap, ◌∙◌, subst}
use Rattle.std.specs.Prelude.{filter}
use Rattle.std.specs.List.{slice_index_or}
use Rattle.std.proofs.Math.Path.{fun_ext}
use Rattle.std.proofs.lemmas.List.{get_or-replicate}
use Rattle.base.proofs.Booleans.{own_number}
use Rattle.history_spec.specs.declared.entries.Entry.{Entry}
use Rattle.history_spec.specs.declared.entries.Entry.TheVariants.{ImportCall, ImportReturn}
use Rattle.replay_run_spec.specs.Items.{Item, Makes, Changes, Steps}
use Rattle.replay_run_spec.proofs.CallCounts.{calls_many}
use Rattle.replay_run_spec.specs.Steps.{StepCount, StepsLeft, around_innermost, innermost_count, no_steps, one_more, steps_left, with_entry, with_step}
use Rattle.plan_laws.specs.Owners.{Owner, CallOf, innermost_owner, same_owner, share_of}
use Rattle.plan_laws.specs.StepOwners.{begins_call_of, calls_behind, entry_count, item_owners_from, owned_steps, step_count}
use Rattle.plan_laws.specs.Laws.{StepsAreOwned}
use Rattle.plan_laws.proofs.OpenCalls.{AreOpen, IsOver, apart_from_innermost, call_open, call_over, count_grows, count_more, fewer_open, fewer_over, later_apart, share_if, share_other, share_own}
use Rattle.plan_laws.proofs.Shares.{Adds, BegunAre, around_are, call_begins, calls_from, each_import, same_calls}

-- ---- the calls that are open

grows : (item : Item) (before : List Item) (import : ℕ) → entry_count before import ≤ entry_count (item ∷ before) import
grows item before import = count_grows (begins_call_of import item) item (filter (begins_call_of import) before)

begins : (import : ℕ) (item : Item) (before : List Item) → begins_call_of import item ≡ true
    → entry_count before import < entry_count (item ∷ before) import
begins import item before e = count_more (begins_call_of import item) item (filter (begins_call_of import) before) e

open_behind : (item : Item) (before : List Item) (opened : List Owner) → AreOpen (entry_count before) opened
    → AreOpen (entry_count (item ∷ before)) (calls_behind item before opened)
open_behind (Makes (ImportCall import args)) before opened are =
    let item = Makes (ImportCall import args) in
    call_open (entry_count before) (entry_count (item ∷ before)) (grows item before) import
    (begins import item before (own_number import)) opened are
open_behind (Makes (ImportReturn import results)) before opened are = fewer_open (entry_count before) opened are
open_behind item before opened are = are

over_behind : (item : Item) (before : List Item) (opened : List Owner) (owner : Owner)
    → IsOver (entry_count before) opened owner
    → IsOver (entry_count (item ∷ before)) (calls_behind item before opened) owner
over_behind (Makes (ImportCall import args)) before opened owner over =
    let item = Makes (ImportCall import args) in
    call_over (entry_count before) (entry_count (item ∷ before)) (grows item before) import
    (begins import item before (own_number import)) opened owner over
over_behind (Makes (ImportReturn import results)) before opened owner over =
    fewer_over (entry_count before) opened owner over
over_behind item before opened owner over = over

-- ---- what each activation owns

-- what each activation owns of items
abbrev owns_from : List Item → List Owner → List Item → Owner → StepCount
owns_from before opened items owner = step_count (share_of owner (item_owners_from before opened items) items)

over_has_none : (items before : List Item) (opened : List Owner) (owner : Owner)
    → IsOver (entry_count before) opened owner → share_of owner (item_owners_from before opened items) items ≡ []
over_has_none [] before opened owner over = refl
over_has_none (item ∷ later) before opened owner over =
    let behind = calls_behind item before opened in
    share_other owner (innermost_owner opened) item (item_owners_from (item ∷ before) behind later) later
    (apart_from_innermost (entry_count before) opened owner over)
    ∙ over_has_none later (item ∷ before) behind owner (over_behind item before opened owner over)

-- a step is one more for the innermost activation; another item is none
abbrev AddsItem : Item → Owner → (without with_it : Owner → StepCount) → Type 0
AddsItem (Steps block) top without with_it = Adds top (one_more block (without top)) without with_it
AddsItem item top without with_it = without ≡ with_it

-- an item that is no step
skips : (item : Item) → ((items : List Item) → step_count (item ∷ items) ≡ step_count items)
    → (b : Bool) (owner top : Owner) (owners : List Owner) (later : List Item)
    → step_count (share_of owner owners later) ≡ step_count (share_if b owner top item owners later)
skips item none true owner top owners later = sym (none (share_of owner owners later))
skips item none false owner top owners later = refl

adds_item : (item : Item) (top : Owner) (owners : List Owner) (later : List Item)
    → AddsItem item top (λ owner. step_count (share_of owner owners later))
    (λ owner. step_count (share_of owner (top ∷ owners) (item ∷ later)))
adds_item (Makes entry) top owners later =
    fun_ext (λ owner. skips (Makes entry) (λ items. refl) (same_owner owner top) owner top owners later)
adds_item (Changes change) top owners later =
    fun_ext (λ owner. skips (Changes change) (λ items. refl) (same_owner owner top) owner top owners later)
adds_item (Steps block) top owners later =
    record {
      own = ap step_count (share_own top (Steps block) owners later);
      other = λ owner apart. ap step_count (share_other owner top (Steps block) owners later apart);
    }

-- ---- what is left

-- the calls of imports that have begun have what they own; nothing is said of the host's own work
abbrev StepsAre : (Owner → StepCount) → List Owner → List StepCount → Type 0
StepsAre owns opened begun = BegunAre innermost_count around_innermost (λ own begun. Unit {0}) owns opened begun

-- what is left of a run is what the calls own of the rest: those that have begun, and those that are still to begin
abbrev IsOwned : ℕ → List Item → List Owner → List Item → (Owner → StepCount) → StepsLeft → Type 0
IsOwned imports before opened items owns left =
    StepsAre owns opened left.begun
    × ((import : ℕ) → import < imports → slice_index_or left.calls import []
    ≡ calls_from owns import (entry_count before import) (entry_count items import))

nothing_begun : (opened : List Owner) → StepsAre (λ owner. no_steps) opened []
nothing_begun [] = tt
nothing_begun (owner ∷ around) = (refl, nothing_begun around)

module _ (imports : ℕ) (before later : List Item) (left : StepsLeft) (many : length left.calls ≡ imports) where
  entry_owned : (entry : Entry) (opened : List Owner) (owns : Owner → StepCount)
      → AreOpen (entry_count before) opened
      → ((owner : Owner) → IsOver (entry_count (Makes entry ∷ before)) (calls_behind (Makes entry) before opened) owner
      → owns owner ≡ no_steps)
      → IsOwned imports (Makes entry ∷ before) (calls_behind (Makes entry) before opened) later owns left
      → IsOwned imports before opened (Makes entry ∷ later) owns (with_entry entry left)
  entry_owned (ImportCall other args) opened owns are_open over rest = (
    rest.0.1,
    λ import below.
        call_begins import owns owns other (entry_count before) (Makes (ImportCall other args))
        (filter (begins_call_of import) before) (filter (begins_call_of import) later)
        (innermost_count left.begun) left.calls refl (subst (λ count. import < count) (sym many) below) rest.0.0
        (λ number apart. refl) (rest.1 import below),
  )
  entry_owned (ImportReturn other results) [] owns are_open over rest = (tt, rest.1)
  entry_owned (ImportReturn other results) (owner ∷ around) owns are_open over rest =
      ((sym (over owner are_open.0), rest.0), rest.1)
  entry_owned entry opened owns are_open over rest = rest

  step_are : (block : Bool) (opened : List Owner) (without with_it : Owner → StepCount)
      → AreOpen (entry_count before) opened
      → Adds (innermost_owner opened) (one_more block (without (innermost_owner opened))) without with_it
      → StepsAre without opened left.begun → StepsAre with_it opened (with_step block left).begun
  step_are block [] without with_it are_open adds are = tt
  step_are block (owner ∷ around) without with_it are_open adds are = (
    ap (one_more block) are.0 ∙ sym adds.own,
    around_are innermost_count around_innermost (λ own begun. Unit {0}) (entry_count before) owner
        (one_more block (without owner)) without with_it around (around_innermost left.begun) adds are_open.0 are.1,
  )

  step_owned : (block : Bool) (opened : List Owner) (without with_it : Owner → StepCount)
      → AreOpen (entry_count before) opened
      → Adds (innermost_owner opened) (one_more block (without (innermost_owner opened))) without with_it
      → IsOwned imports (Steps block ∷ before) opened later without left
      → IsOwned imports before opened (Steps block ∷ later) with_it (with_step block left)
  step_owned block opened without with_it are_open adds rest = (
    step_are block opened without with_it are_open adds rest.0,
    λ import below.
        rest.1 import below
        ∙ same_calls import without with_it (entry_count before import) (entry_count later import) (λ number from.
        adds.other (CallOf import number) (later_apart (entry_count before) opened import number are_open from)),
  )

-- ---- a whole run

-- what the rest of a run owns, behind its first item
abbrev owns_behind : Item → List Item → List Owner → List Item → Owner → StepCount
owns_behind item before opened later = owns_from (item ∷ before) (calls_behind item before opened) later

left_owned : (imports : ℕ) (items before : List Item) (opened : List Owner) → AreOpen (entry_count before) opened
    → IsOwned imports before opened items (owns_from before opened items) (steps_left imports items)
left_owned imports [] before opened are_open =
    (nothing_begun opened, λ import below. get_or-replicate imports import [] [] below)
left_owned imports (item ∷ later) before opened are_open =
    let behind = calls_behind item before opened in
    by item (adds_item item (innermost_owner opened) (item_owners_from (item ∷ before) behind later) later)
    (λ owner over. ap step_count (over_has_none later (item ∷ before) behind owner over))
    (left_owned imports later (item ∷ before) behind (open_behind item before opened are_open))
  where
    by : (item : Item)
        → AddsItem item (innermost_owner opened) (owns_behind item before opened later)
        (owns_from before opened (item ∷ later))
        → ((owner : Owner) → IsOver (entry_count (item ∷ before)) (calls_behind item before opened) owner
        → owns_behind item before opened later owner ≡ no_steps)
        → IsOwned imports (item ∷ before) (calls_behind item before opened) later
        (owns_behind item before opened later) (steps_left imports later)
        → IsOwned imports before opened (item ∷ later) (owns_from before opened (item ∷ later))
        (steps_left imports (item ∷ later))
    by (Makes entry) same over rest =
        let left = steps_left imports later in
        entry_owned imports before later left (calls_many imports later) entry opened
        (owns_from before opened (Makes entry ∷ later)) are_open
        (λ owner is. ap (λ (owns : Owner → StepCount). owns owner) (sym same) ∙ over owner is)
        (subst (λ owns.
        IsOwned imports (Makes entry ∷ before) (calls_behind (Makes entry) before opened) later owns left) same rest)
    by (Changes change) same over rest =
        subst (λ owns. IsOwned imports before opened later owns (steps_left imports later)) same rest
    by (Steps block) adds over rest =
        step_owned imports before later (steps_left imports later) (calls_many imports later) block opened
        (owns_behind (Steps block) before opened later) (owns_from before opened (Steps block ∷ later)) are_open adds rest

pub steps_owned : StepsAreOwned
steps_owned imports items =
    each_import imports (entry_count items) (owned_steps items) (steps_left imports items).calls
    (calls_many imports items) (left_owned imports items [] [] tt).1
