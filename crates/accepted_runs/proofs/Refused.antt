-- Why a run has no outcome, as the fault of a call.
use Rattle.std.proofs.Common.{◌≡◌, ◌⊎◌, inl, inr, ℕ, Ok, refl, subst}
use Rattle.wasm_syntax.specs.declared.modules.Module.{Module}
use Rattle.host_script.specs.declared.scripts.Script.{Script}
use Rattle.history_spec.specs.Step.{StepResult}
use Rattle.history_spec.specs.Run.{run_start, program_of}
use Rattle.host_play.specs.declared.results.PlayFault.{PlayFault}
use Rattle.host_play.specs.declared.results.PlayFault.TheVariants as refusal
use Rattle.host_play.specs.Results.{Refuses}
use Rattle.r3_faults.specs.declared.faults.Fault.TheVariants.{Memory}
use Rattle.accepted_runs.specs.Runs.{HasNoOutcome, OfScript, OfTurns, run_fault}

-- the same module by another name
pub refuses_same : (n m : Module) (script : Script) (turns : ℕ) (fault : PlayFault) → n ≡ m
    → ((initial : StepResult) → run_start n script ≡ Ok initial → Refuses (program_of n script) initial turns fault)
    → (initial : StepResult) → run_start m script ≡ Ok initial → Refuses (program_of m script) initial turns fault
refuses_same n m script turns fault same refuses =
    subst (λ m. (initial : StepResult) → run_start m script ≡ Ok initial → Refuses (program_of m script) initial turns fault) same refuses

pub refused_run : (m : Module) (script : Script) (initial : StepResult) (turns : ℕ) (fault : PlayFault)
    → run_start m script ≡ Ok initial → Refuses (program_of m script) initial turns fault
    → (run_fault turns fault ≡ Memory) ⊎ HasNoOutcome m script turns (run_fault turns fault)
refused_run m script initial turns (refusal.Fault turn kind) starts is =
    inr (OfScript (record { turn = turn; kind = kind; named = refl; initial = initial; starts = starts; faulty = is }))
refused_run m script initial turns refusal.Spent starts is =
    inr (OfTurns (record { named = refl; initial = initial; starts = starts; spent = is }))
refused_run m script initial turns (refusal.Hook number) starts is = absurd is
refused_run m script initial turns refusal.Memory starts is = inl refl
