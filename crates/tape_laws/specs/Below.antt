-- The laws of the crates below that the laws of tapes use.
use Rattle.record_replay_spec.specs.Laws.{NeededSegmentsAreKept}
use Rattle.record_replay_spec.specs.ObservedStepLaws.{ObservedStepsAreAlike, StoresAnswerThemselves, StepsChangeAsObserved}
use Rattle.type_safety.specs.Laws.{InstructionsHaveRules, FittingActionsHaveResults, StepsAreSafe, ValidCodeHasHeights, ValidCodeIsTyped, SuppliesMatch, NewStoresAreTyped, StartsAreSafe}

-- a step does the same in stores that answer alike, and is safe
pub record LawsOfSteps : Type 0 where
  pub alike : ObservedStepsAreAlike
  pub own : StepsChangeAsObserved
  pub answers : StoresAnswerThemselves
  pub rules : InstructionsHaveRules
  pub actions : FittingActionsHaveResults
  pub steps : StepsAreSafe

-- modules that can be run are typed, and their runs are safe; what is known may be computed one observation at a time
pub record LawsOfRuns : Type 0 where
  pub kept : NeededSegmentsAreKept
  pub heights : ValidCodeHasHeights
  pub code : ValidCodeIsTyped
  pub supplied : SuppliesMatch
  pub store : NewStoresAreTyped
  pub starts : StartsAreSafe
