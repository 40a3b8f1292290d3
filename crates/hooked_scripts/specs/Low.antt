-- Scripts that name only functions whose indices leave room for the hooks.
use Rattle.std.specs.Prelude.{◌<◌, List, Option, IfSome, All}
use Rattle.host_script.specs.declared.scripts.Action.{Action}
use Rattle.host_script.specs.declared.scripts.Action.TheVariants.{Call, SetTable}
use Rattle.host_script.specs.declared.scripts.Answer.{Answer}
use Rattle.host_script.specs.declared.scripts.Response.{Response}
use Rattle.host_script.specs.declared.scripts.Script.{Script}
use Rattle.wasm_flat.specs.Sizes.{list_limit}

-- the functions of an action
abbrev pub IsLowAction : Action → Type 0
IsLowAction (Call func args) = func < list_limit
IsLowAction (SetTable index func) = IfSome func (λ f. f < list_limit)
IsLowAction action = Unit {0}

abbrev pub AreLowActions : List Action → Type 0
AreLowActions actions = All IsLowAction actions

-- the functions of a response; of an answer
abbrev pub IsLowResponse : Response → Type 0
IsLowResponse response = AreLowActions response.actions

pub record IsLowAnswer (answer : Answer) : Type 0 where
  pub calls : All IsLowResponse answer.calls
  pub rest : IfSome answer.rest IsLowResponse

abbrev pub AreLowAnswers : List (Option Answer) → Type 0
AreLowAnswers answers = All (λ answer. IfSome answer IsLowAnswer) answers

-- the functions of a script
pub record IsLowScript (script : Script) : Type 0 where
  pub imports : AreLowAnswers script.imports
  pub main : AreLowActions script.main
