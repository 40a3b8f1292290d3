-- The activations of the host as code keeps them, by numbers into the script, and their activations in the run.
use Rattle.std.specs.Prelude.{◌≡◌, ℕ, ◌+◌, ◌-◌, ◌^◌, min, List, [], ◌∷◌, drop, Option, Some, None, Result, Ok, Err, slice_get, slice_index, slice_set}
use Rattle.host_script.specs.declared.scripts.Action.{Action}
use Rattle.host_script.specs.declared.scripts.Response.{Response}
use Rattle.host_script.specs.declared.scripts.ResponseEnd.{ResponseEnd}
use Rattle.host_script.specs.declared.scripts.Script.{Script}
use Rattle.history_spec.specs.Configuration.{Activation, InModule, InMain, InImport}
use Rattle.history_spec.specs.Step.{response_to}
use Rattle.host_play.specs.declared.play_state.Host.{Host}
use Rattle.host_play.specs.declared.play_state.Host.TheVariants as host
use Rattle.host_play.specs.declared.play_state.Refusal.{Refusal}
use Rattle.host_play.specs.declared.play_state.Refusal.TheVariants as refusal
use Rattle.history_spec.specs.declared.entries.FaultKind.TheVariants.{NoResponse}

-- a count in 64 bits stays at the greatest number
abbrev pub kept : ℕ → ℕ
kept count = min count (2 ^ 64 - 1)

-- the numbers of calls of each import, after one more call of this import
abbrev pub counts_after_call : List ℕ → (import : ℕ) → List ℕ
counts_after_call counts import = slice_set counts import (kept (slice_index counts import + 1))

-- parts of the host's activations, the topmost first
abbrev pub top_of : List Host → Option Host
top_of [] = None
top_of (top ∷ below) = Some top

abbrev pub below_of : List Host → List Host
below_of [] = []
below_of (top ∷ below) = below

-- the number of an activation's next action
abbrev pub next_of : Host → ℕ
next_of (host.Main next) = next
next_of (host.Answer import number next) = next

-- the response to a call of an import by its number, or nothing to do
abbrev pub actions_in : Option Response → List Action
actions_in None = []
actions_in (Some response) = response.actions

-- all that an activation has or had to do
abbrev pub actions_of : Script → Host → List Action
actions_of script (host.Main next) = script.main
actions_of script (host.Answer import number next) = actions_in (response_to script.imports import number)

-- the next action of an activation, if one is left
abbrev pub action_at : Script → Host → Option Action
action_at script h = slice_get (actions_of script h) (next_of h)

-- an activation after its next action
abbrev pub after_next_action : Host → Host
after_next_action (host.Main next) = host.Main (next + 1)
after_next_action (host.Answer import number next) = host.Answer import number (next + 1)

-- the host at its own work, with these actions left
abbrev pub IsMain : Script → List Action → Host → Type 0
IsMain script actions (host.Main next) = actions ≡ drop next script.main
IsMain script actions (host.Answer import number next) = ⊥

-- the host in the answer to a call: its import, by the response that was chosen when the call began; the actions that
-- are left, and how the answer ends
pub record IsChosen (script : Script) (import : ℕ) (actions : List Action) («end» : ResponseEnd)
    (called number next : ℕ) : Type 0 where
  pub same : called ≡ import
  pub response : Response
  pub chosen : response_to script.imports import number ≡ Some response
  pub left : actions ≡ drop next response.actions
  pub ends : «end» ≡ response.«end»

abbrev pub IsAnswer : Script → ℕ → List Action → ResponseEnd → Host → Type 0
IsAnswer script import actions «end» (host.Main next) = ⊥
IsAnswer script import actions «end» (host.Answer called number next) =
    IsChosen script import actions «end» called number next

-- the module's activation is topmost
abbrev pub IsCaller : List Activation → Type 0
IsCaller [] = ⊥
IsCaller (InModule frame ∷ below) = Unit {0}
IsCaller (InMain actions ∷ below) = ⊥
IsCaller (InImport import args actions «end» ∷ below) = ⊥

-- the host's activations of a stack, the topmost first; below each answer is the activation that made the call
abbrev pub Plays : Script → List Activation → List Host → Type 0
Plays script [] hosts = ⊥
Plays script (InModule frame ∷ below) hosts = Plays script below hosts
Plays script (InMain actions ∷ below) [] = ⊥
Plays script (InMain actions ∷ below) (top ∷ hosts) = IsMain script actions top × (below ≡ []) × (hosts ≡ [])
Plays script (InImport import args actions «end» ∷ below) [] = ⊥
Plays script (InImport import args actions «end» ∷ below) (top ∷ hosts) =
    IsAnswer script import actions «end» top × IsCaller below × Plays script below hosts

-- the response to a call of an import, by the number of the call as it is kept
abbrev pub IsResponse : Script → (import number : ℕ) → Option Response → Type 0
IsResponse script import number found =
    (count : ℕ) → kept count ≡ number → response_to script.imports import count ≡ found

-- the host begins the answer to a call of an import, or there is no response to it
pub record BeginsAnswer (script : Script) (hosts : List Host) (counts : List ℕ) (import : ℕ)
    (new_hosts : List Host) (new_counts : List ℕ) : Type 0 where
  pub response : Response
  pub chosen : IsResponse script import (slice_index counts import) (Some response)
  pub pushed : new_hosts ≡ host.Answer import (slice_index counts import) 0 ∷ hosts
  pub counted : new_counts ≡ counts_after_call counts import

-- why the host has no response, unless memory is exhausted
abbrev pub HasNoResponse : Script → (counts : List ℕ) → (import : ℕ) → Refusal → Type 0
HasNoResponse script counts import (refusal.Fault kind) =
    (kind ≡ NoResponse) × IsResponse script import (slice_index counts import) None
HasNoResponse script counts import refusal.Memory = Unit {0}

abbrev pub BeginsBy : Script → List Host → (counts : List ℕ) → (import : ℕ)
    → Result (Unit {0}) Refusal → List Host → List ℕ → Type 0
BeginsBy script hosts counts import (Ok done) new_hosts new_counts =
    BeginsAnswer script hosts counts import new_hosts new_counts
BeginsBy script hosts counts import (Err refused) new_hosts new_counts =
    HasNoResponse script counts import refused
