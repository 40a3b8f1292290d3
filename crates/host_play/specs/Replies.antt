-- What the host does at a call, as a response.
use Rattle.std.specs.Prelude.{◌≡◌, ℕ, [], Option, None, Some, MatchOption}
use Rattle.host_script.specs.declared.scripts.Script.{Script}
use Rattle.host_script.specs.declared.scripts.Response.{Response}
use Rattle.host_script.specs.declared.scripts.ResponseEnd.TheVariants.{Return}
use Rattle.history_spec.specs.Step.{response_to}
use Rattle.host_play.specs.declared.responses.Reply.{Reply}
use Rattle.host_play.specs.Hosts.{IsResponse}

-- the response that the host makes
abbrev pub response_in : Reply → Response
response_in reply = record { actions = reply.actions.now; «end» = reply.«end» }

-- the response that does nothing and returns nothing
abbrev pub nothing_done : Response
nothing_done = record { actions = []; «end» = Return None }

-- what the host does at the call of this number of an import is its script's response to it, if there is one
pub record IsReply (script : Script) (import number : ℕ) (reply : Option Reply) : Type 0 where
  pub own : MatchOption reply (response_to script.imports import number ≡ None)
      (λ reply. response_to script.imports import number ≡ Some (response_in reply))
  pub kept : MatchOption reply (IsResponse script import number None)
      (λ reply. IsResponse script import number (Some (response_in reply)))
