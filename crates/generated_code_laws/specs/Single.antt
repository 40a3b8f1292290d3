-- One step of a run of a replay module, and how the run goes on.
use Rattle.std.specs.Prelude.{◌≡◌, ℕ, List, ◌∷◌, ◌++◌, map}
use Rattle.wasm_syntax.specs.declared.values.Val.{Val}
use Rattle.history_spec.specs.declared.entries.Entry.{Entry}
use Rattle.history_spec.specs.Configuration.{Frame, Activation, InModule}
use Rattle.history_spec.specs.Step.{Progress, step_result, step}
use Rattle.history_spec.specs.Projection.{shown_entries}
use Rattle.record_replay_spec.specs.ObservedStepLaws.{observed}
use Rattle.replay_run_spec.specs.Inside.{inside_after_all}
use Rattle.replay_run_spec.specs.Items.{Item, Makes, Changes, Steps, is_block, changes_of}
use Rattle.generated_code_laws.specs.Leads.{Watched, Place}

-- from a place with a function of the module topmost, one step makes these entries, the second list is what they show,
-- and the run goes on at `next`, with control in these functions
pub record IsSingle (w : Watched) (start : Place) (frame : Frame) (below : List Activation) (entries shown : List Entry)
    (next : Progress) (inside : List ℕ) : Type 0 where
  pub stands : start.config.stack ≡ InModule frame ∷ below
  pub makes : step w.program start.config ≡ step_result entries next
  pub shows : (args : List Val) → shown_entries w.layout start.inside args entries ≡ shown
  pub control : inside_after_all start.inside entries ≡ inside

-- the items of a step of a function outside the original: its step and its changes, before the entries
abbrev pub outside_step : (w : Watched) → Place → Frame → List Entry → List Item
outside_step w start frame shown =
    Steps (is_block frame.at.rest)
    ∷ (map Changes (changes_of w.globals (observed start.config.store frame)) ++ map Makes shown)
