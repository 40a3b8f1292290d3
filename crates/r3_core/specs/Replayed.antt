-- What `replay` prints of what a job prints.
use Rattle.std.specs.Prelude.{ℕ, List}
use Rattle.r3_core.specs.declared.jobs.Job.{Job}
use Rattle.r3_core.specs.declared.jobs.Job.TheVariants.{Make, History, Foreign, ForeignHistory, Pair, PairHistory}
use Rattle.r3_core.specs.Meanings.{Prints}
use Rattle.replay_text_laws.specs.Histories.{IsReplayedAsHistory}

-- If a job prints the replay module of a whole run, the job that prints the run's history has the same lines within
-- each budget from that of the first on; and `replay` prints exactly these of the printed bytes, within as many turns
-- as the run of the replay module takes or more.
abbrev pub IsReplayed : Job (List ℕ) → (printed : List ℕ) → Type 0
IsReplayed (Make m s turns) printed =
    IsReplayedAsHistory (λ budget text. Prints (History m s budget) text) turns printed
IsReplayed (Foreign m decls s turns) printed =
    IsReplayedAsHistory (λ budget text. Prints (ForeignHistory m decls s budget) text) turns printed
IsReplayed (Pair left right s turns) printed =
    IsReplayedAsHistory (λ budget text. Prints (PairHistory left right s budget) text) turns printed
IsReplayed other printed = Unit {0}
