-- Which activation of the host each step of the functions outside the original belongs to, read from the beginning of
-- a replay module's run on.
use Rattle.std.specs.Prelude.{ℕ, List, [], ◌∷◌, length, drop, filter, nat_eq, Bool, false}
use Rattle.history_spec.specs.declared.entries.Entry.TheVariants.{ImportCall, ImportReturn}
use Rattle.replay_run_spec.specs.Items.{Item, Makes, Steps}
use Rattle.replay_run_spec.specs.Steps.{StepCount, no_steps, one_more}
use Rattle.plan_laws.specs.Owners.{Owner, CallOf, innermost_owner, share_of}

-- a call of this import begins
abbrev pub begins_call_of : ℕ → Item → Bool
begins_call_of import (Makes (ImportCall other args)) = nat_eq import other
begins_call_of import item = false

-- how many calls of an import begin in items
abbrev pub entry_count : List Item → (import : ℕ) → ℕ
entry_count items import = length (filter (begins_call_of import) items)

-- the calls of imports that are open behind an item, the innermost first: a call of an import opens one, whose number
-- is how many calls of the import begin in the items before; a return closes the innermost
abbrev pub calls_behind : Item → (before : List Item) → List Owner → List Owner
calls_behind (Makes (ImportCall import args)) before opened = CallOf import (entry_count before import) ∷ opened
calls_behind (Makes (ImportReturn import results)) before opened = drop 1 opened
calls_behind item before opened = opened

-- the owner of each item, in order, if the items before are `before`, the last of them first, and leave these calls
-- open
abbrev pub item_owners_from : (before : List Item) → List Owner → List Item → List Owner
item_owners_from before opened [] = []
item_owners_from before opened (item ∷ later) =
    innermost_owner opened ∷ item_owners_from (item ∷ before) (calls_behind item before opened) later

-- the number of steps among items
abbrev pub step_count : List Item → StepCount
step_count [] = no_steps
step_count (Steps block ∷ items) = one_more block (step_count items)
step_count (item ∷ items) = step_count items

-- the number of steps that an activation owns
abbrev pub owned_steps : List Item → Owner → StepCount
owned_steps items owner = step_count (share_of owner (item_owners_from [] [] items) items)
