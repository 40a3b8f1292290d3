-- The faults of a refused run of a replay module, by cases.
use Rattle.std.proofs.Common.{◌≡◌, ℕ, refl}
use Rattle.replay_run.specs.declared.results.ReplayFault.{ReplayFault}
use Rattle.replay_run.specs.declared.results.ReplayFault.TheVariants as replay
use Rattle.r3_faults.specs.declared.faults.Fault.{Fault}
use Rattle.r3_faults.specs.declared.faults.Fault.TheVariants.{NoLayout, NoImports, NoEntry, Segment, Spent}
use Rattle.r3_replay.specs.ReplayTexts.{replay_fault}

-- what holds of the fault of each cause but want of memory holds of the fault of a refused run
pub by_cause : (P : Fault → Type 0) (turns : ℕ) → P NoLayout → P NoImports → P NoEntry
    → ((segment : ℕ) → P (Segment segment)) → P (Spent turns) → (found : ReplayFault) → (found ≡ replay.Memory → ⊥)
    → P (replay_fault turns found)
by_cause P turns layout imports entry segments spent replay.NoLayout differs = layout
by_cause P turns layout imports entry segments spent replay.Imports differs = imports
by_cause P turns layout imports entry segments spent replay.NoEntry differs = entry
by_cause P turns layout imports entry segments spent (replay.Link segment) differs = segments segment
by_cause P turns layout imports entry segments spent replay.Spent differs = spent
by_cause P turns layout imports entry segments spent replay.Memory differs = absurd (differs refl)
