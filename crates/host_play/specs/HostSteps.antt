-- What the host did: its entry in a history, and the place of control after it.
use Rattle.std.specs.Prelude.{List, [], ◌∷◌, Result, Ok, Err}
use Rattle.std.specs.Option.{option_to_list}
use Rattle.base.specs.declared.outcomes.Outcome.TheVariants.{Ended, HostTrapped}
use Rattle.history_spec.specs.declared.entries.Entry.{Entry}
use Rattle.history_spec.specs.declared.entries.Entry.TheVariants.{HostCall, HostTrap, ImportReturn}
use Rattle.host_play.specs.declared.host_steps.HostStep.{HostStep}
use Rattle.host_play.specs.declared.host_steps.HostStep.TheVariants as host_step
use Rattle.host_play.specs.declared.host_steps.PlayStep.{PlayStep}
use Rattle.host_play.specs.declared.play_state.Stand.{Stand}
use Rattle.host_play.specs.declared.play_state.Stand.TheVariants as at

-- the entry of what the host did, if it has one
abbrev pub entries_of : HostStep → List Entry
entries_of host_step.Stays = []
entries_of (host_step.Calls func args) = HostCall func args ∷ []
entries_of (host_step.Returns import value) = ImportReturn import (option_to_list value) ∷ []
entries_of host_step.Traps = HostTrap ∷ []
entries_of host_step.Ends = []

-- the place of control after what the host did
abbrev pub stand_after : HostStep → Stand
stand_after host_step.Stays = at.Host
stand_after (host_step.Calls func args) = at.Module
stand_after (host_step.Returns import value) = at.Module
stand_after host_step.Traps = at.Over HostTrapped
stand_after host_step.Ends = at.Over Ended

-- a step with this place of control and these entries
abbrev pub play_step : Stand → List Entry → PlayStep
play_step stand entries = record { stand = stand; entries = entries }

abbrev pub play_step_of : HostStep → PlayStep
play_step_of d = play_step (stand_after d) (entries_of d)

-- the step of the run for what the host did, if the host is not refused
abbrev pub play_step_result : {E : Type 0} → Result HostStep E → Result PlayStep E
play_step_result (Ok d) = Ok (play_step_of d)
play_step_result (Err refused) = Err refused

-- a step with these entries, if it comes to a place of control
abbrev pub result_with : {E : Type 0} → List Entry → Result Stand E → Result PlayStep E
result_with entries (Ok stand) = Ok (play_step stand entries)
result_with entries (Err refused) = Err refused
