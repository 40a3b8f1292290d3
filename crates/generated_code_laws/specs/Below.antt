-- The laws of the crates below that the laws of replay modules use.
use Rattle.replay_run_spec.specs.Laws.{ProjectionsRunAlong, ItemsHoldHistories, ItemsShowProjections}
use Rattle.generated_code_laws.specs.GeneratedStepLaws.{LeadsRunAlong, DispatchesReachArms, SelectorsCount}
use Rattle.generated_code_laws.specs.SingleStepLaws.{LeadsEnd, LeadsShow, StepsLead, StepsLeadOn}
use Rattle.generated_code_laws.specs.EffectLaws.{EffectsAreMade}
use Rattle.record_replay_spec.specs.ObservedStepLaws.{ObservedStepsAreAlike, StoresAnswerThemselves}
use Rattle.type_safety.specs.Laws.{NewStoresAreTyped}
use Rattle.replay_module_laws.specs.CodeLaws.{ReplayModulesHaveCode, ReplayModulesBegin}

-- the laws of steps and of what is shown
pub record RunLaws : Type 0 where
  pub projections : ProjectionsRunAlong
  pub along : LeadsRunAlong
  pub end_after : LeadsEnd
  pub show_after : LeadsShow
  pub single : StepsLeadOn

-- the laws of steps
pub record StepLaws : Type 0 where
  pub along : LeadsRunAlong
  pub leads : StepsLead
  pub arms : DispatchesReachArms
  pub selectors : SelectorsCount

-- the laws of instructions
pub record InstructionLaws : Type 0 where
  pub answer : StoresAnswerThemselves
  pub alike : ObservedStepsAreAlike

-- the laws by which the run of a replay module follows that of its tape
pub record FollowLaws : Type 0 where
  pub run : RunLaws
  pub steps : StepLaws
  pub instructions : InstructionLaws
  pub effects : EffectsAreMade

-- the laws of stores and of code that a run begins with
pub record StartLaws : Type 0 where
  pub typed : NewStoresAreTyped
  pub code : ReplayModulesHaveCode
  pub begins : ReplayModulesBegin

-- all laws, and that the items of a run contain its history and show its projection
pub record LawsOfReplays : Type 0 where
  pub follow : FollowLaws
  pub start : StartLaws
  pub held : ItemsHoldHistories
  pub shown : ItemsShowProjections
