-- Laws on single steps: how the run goes on, and how it ends.
use Rattle.std.specs.Prelude.{◌≡◌, ℕ, List, ◌++◌, map}
use Rattle.base.specs.declared.outcomes.Outcome.{Outcome}
use Rattle.history_spec.specs.declared.entries.Entry.{Entry}
use Rattle.history_spec.specs.Configuration.{Frame, Activation}
use Rattle.history_spec.specs.Step.{Progress, Running, Finished}
use Rattle.history_spec.specs.Projection.{Original, side, shown_outcome}
use Rattle.replay_run_spec.specs.Items.{Item, Makes}
use Rattle.generated_code_laws.specs.Leads.{Watched, Place, Leads, IsOutside}
use Rattle.generated_code_laws.specs.Ends.{Shows, Ends}
use Rattle.generated_code_laws.specs.Single.{IsSingle, outside_step}

-- a run that leads to a place from which it ends, ends
abbrev pub LeadsEnd : Type 0
LeadsEnd = (w : Watched) (a b : Place) (first second : List Item) (outcome : Outcome)
    → Leads w a first b → Ends w b second outcome → Ends w a (first ++ second) outcome

-- a run that leads to a place shows the items before that place and then those after it
abbrev pub LeadsShow : Type 0
LeadsShow = (w : Watched) (a b : Place) (first second : List Item)
    → Leads w a first b → Shows w b second → Shows w a (first ++ second)

-- one step leads on: in a function outside the original with its step and its changes, in a function of the original
-- with what its entries show
abbrev pub StepsLead : Type 0
StepsLead = (w : Watched) (start : Place) (frame : Frame) (below : List Activation) (entries shown : List Entry)
    (end : Place) → IsSingle w start frame below entries shown (Running end.config) end.inside
    → (IsOutside w.layout frame.func → Leads w start (outside_step w start frame shown) end)
    × (side w.layout frame.func ≡ Original → Leads w start (map Makes shown) end)

-- one step ends the run
abbrev pub StepsEnd : Type 0
StepsEnd = (w : Watched) (start : Place) (frame : Frame) (below : List Activation) (entries shown : List Entry)
    (own outcome : Outcome) (inside : List ℕ) → IsSingle w start frame below entries shown (Finished own) inside
    → shown_outcome w.layout entries own ≡ outcome
    → (IsOutside w.layout frame.func → Ends w start (outside_step w start frame shown) outcome)
    × (side w.layout frame.func ≡ Original → Ends w start (map Makes shown) outcome)

-- one step shows its items, however the run goes on
abbrev pub StepsShow : Type 0
StepsShow = (w : Watched) (start : Place) (frame : Frame) (below : List Activation) (entries shown : List Entry)
    (next : Progress) (inside : List ℕ) → IsSingle w start frame below entries shown next inside
    → (IsOutside w.layout frame.func → Shows w start (outside_step w start frame shown))
    × (side w.layout frame.func ≡ Original → Shows w start (map Makes shown))

-- the three laws on one step
pub record StepsLeadOn : Type 0 where
  pub leads : StepsLead
  pub ends : StepsEnd
  pub shows : StepsShow
