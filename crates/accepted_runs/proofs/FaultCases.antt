-- The faults of a run that has no outcome, or no log, by cases.
use Rattle.std.proofs.Common.{◌≡◌, ℕ, refl}
use Rattle.history_spec.specs.declared.entries.FaultKind.{FaultKind}
use Rattle.host_play.specs.declared.results.PlayFault.{PlayFault}
use Rattle.host_play.specs.declared.results.PlayFault.TheVariants as play
use Rattle.r3_faults.specs.declared.faults.Fault.{Fault}
use Rattle.r3_faults.specs.declared.faults.Fault.TheVariants.{HookOrder, Script as ScriptFault, Spent}
use Rattle.accepted_runs.specs.Runs.{run_fault}

-- what holds of the fault of each cause but want of memory holds of the fault of such a run
pub by_cause : (P : Fault → Type 0) (turns : ℕ) → ((turn : ℕ) (kind : FaultKind) → P (ScriptFault turn kind))
    → P (Spent turns) → ((number : ℕ) → P (HookOrder number)) → (found : PlayFault) → (found ≡ play.Memory → ⊥)
    → P (run_fault turns found)
by_cause P turns scripts spent orders (play.Fault turn kind) differs = scripts turn kind
by_cause P turns scripts spent orders play.Spent differs = spent
by_cause P turns scripts spent orders (play.Hook number) differs = orders number
by_cause P turns scripts spent orders play.Memory differs = absurd (differs refl)
